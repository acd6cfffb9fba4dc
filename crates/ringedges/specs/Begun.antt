-- The edges of a ring list that has begun. Assumes nothing.
--
--   edges_begun b    the edges that are ended in the beginning b
--   edges_after     a due number ends what the code writes at it
--   ended_most      that is one edge at most
--   Edges_begun     those edges, as what is made of a beginning
--   edges_laws      each due number adds what it ends, and the edges of good rings are theirs
--   edges_start     nothing stands before the first ring
use mathlib.Core.Path.{◌≡◌, refl, sym, ap, ap₂, ◌∙◌}
use mathlib.Core.Bool.{Bool, true, false}
use mathlib.Core.List.{List, [], ◌∷◌, ◌++◌, append-nil, append_assoc}
use Prim.Native.Nat.{ℕ, suc, ◌-◌, ◌≤◌}
use native.Mathlib.Omega.{arith}
use native.Mathlib.Decide.{ℕ_discrete}
use lib.Dec.{eqb, lit≤}
use lib.IntN.{ℤ, pos}
use lib.ListN.{length}
use borrow.Author.Tests.{eq-eqb, ne_eqb}
use Rattle.basic_laws.specs.Signed.{key_of, unkey_of, unkey_key}
use Rattle.meaning.specs.Numbers.{pick, limit, in_range}
use Rattle.meaning.specs.Rings.{Pair, pair, Ring, ring, xs, ys, back_to, cyclic, side, edges_between, ring_edges}
use Rattle.meaning.specs.Faults.{Begun, at_layer, at_count, at_x, at_y, after, previous_or}
use Rattle.ring_laws.specs.Beginnings.{Fine, fine_x, fine_y, Good}
use Rattle.ring_laws.specs.Forms.{previous_size, range_xs, range_ys}
use Rattle.reading_laws.specs.StateOf.{first_or, state_of, keyed}
use Rattle.reading_laws.specs.Standing.{mag_below, first_size}
use Rattle.rings.specs.declared.Due.{Due}
use Rattle.rings.specs.declared.Due.TheVariants.{Layer, Count, X, Y}
use Rattle.rings.specs.declared.State.{State}
use Rattle.ringwalk.specs.Made.{Starts, MadeLaws}
use Rattle.ringedges.specs.Ended.{edge_at, ended_by, ended}

-- ---- neighbours along a list, last and first aside

abbrev along_from : Pair → List Pair → List (Pair × Pair)
along_from p [] = []
along_from p (q ∷ ps) = (p, q) ∷ along_from q ps

abbrev last_from : Pair → List Pair → Pair
last_from p [] = p
last_from p (q ∷ ps) = last_from q ps

last_x : (p : Pair) (ps : List Pair) → (last_from p ps).x ≡ previous_or p.x (xs ps)
last_x p [] = refl
last_x p (q ∷ ps) = last_x q ps

last_y : (p : Pair) (ps : List Pair) → (last_from p ps).y ≡ previous_or p.y (ys ps)
last_y p [] = refl
last_y p (q ∷ ps) = last_y q ps

-- the edges ended by a ring's pairs, and the one that an x after them ends
abbrev open_edges : ℕ → List Pair → List ℤ
open_edges l [] = []
open_edges l (p ∷ ps) = edges_between l (along_from p ps)

abbrev edge_to : ℕ → List Pair → ℤ → List ℤ
edge_to l [] x = []
edge_to l (p ∷ ps) x = side l (last_from p ps) (pair x (pos 0))

abbrev pub edges_begun : Begun → List ℤ
edges_begun (at_layer rs) = ring_edges rs
edges_begun (at_count rs l) = ring_edges rs
edges_begun (at_x rs l k ps) = ring_edges rs ++ open_edges l ps
edges_begun (at_y rs l k ps x) = ring_edges rs ++ (open_edges l ps ++ edge_to l ps x)

-- ---- one more pair, one more ring

along_snoc : (l : ℕ) (p : Pair) (ps : List Pair) (q : Pair) → edges_between l (along_from p (ps ++ q ∷ [])) ≡ edges_between l (along_from p ps) ++ side l (last_from p ps) q
unfolding edges_between
along_snoc l p [] q = refl
along_snoc l p (r ∷ ps) q = ap (λ (m : List ℤ). side l p r ++ m) (along_snoc l r ps q)

open_snoc : (l : ℕ) (ps : List Pair) (x y : ℤ) → open_edges l (ps ++ pair x y ∷ []) ≡ open_edges l ps ++ edge_to l ps x
unfolding edges_between
open_snoc l [] x y = refl
open_snoc l (p ∷ ps) x y = along_snoc l p ps (pair x y)

back_edges : (l : ℕ) (a p : Pair) (ps : List Pair) → edges_between l (back_to a p ps) ≡ edges_between l (along_from p ps) ++ side l (last_from p ps) a
unfolding edges_between
back_edges l a p [] = refl
back_edges l a p (q ∷ ps) = ap (λ (m : List ℤ). side l p q ++ m) (back_edges l a q ps)

last_snoc : (p : Pair) (ps : List Pair) (q : Pair) → last_from p (ps ++ q ∷ []) ≡ q
last_snoc p [] q = refl
last_snoc p (r ∷ ps) q = last_snoc r ps q

-- the edges of a ring whose last pair is (x, y): f is its first x
ring_edges_more : (l : ℕ) (ps : List Pair) (x y : ℤ) → edges_between l (cyclic (ps ++ pair x y ∷ [])) ≡ (open_edges l ps ++ edge_to l ps x) ++ pos l ∷ y ∷ x ∷ first_or x (xs ps) ∷ []
unfolding edges_between
ring_edges_more l [] x y = refl
ring_edges_more l (p ∷ ps) x y =
    back_edges l p p (ps ++ pair x y ∷ [])
    ∙ ap₂ (λ (m : List ℤ) (q : Pair). m ++ side l q p) (along_snoc l p ps (pair x y)) (last_snoc p ps (pair x y))

edges_snoc : (rs : List Ring) (r : Ring) → ring_edges (rs ++ r ∷ []) ≡ ring_edges rs ++ edges_between r.layer (cyclic r.pairs)
unfolding ring_edges
edges_snoc [] r = append-nil (edges_between r.layer (cyclic r.pairs))
edges_snoc (s ∷ rs) r =
    ap (λ (m : List ℤ). edges_between s.layer (cyclic s.pairs) ++ m) (edges_snoc rs r)
    ∙ sym (append_assoc (edges_between s.layer (cyclic s.pairs)) (ring_edges rs) (edges_between r.layer (cyclic r.pairs)))

-- ---- what the code writes

back : (z : ℤ) → in_range limit z ≡ true → unkey_of (key_of z) ≡ z
back z i = unkey_key z (mag_below limit z (lit≤ tt) i)

edge_keys : (l : ℕ) (y x w : ℤ) → in_range limit y ≡ true → in_range limit x ≡ true → in_range limit w ≡ true → edge_at l (key_of y) (key_of x) (key_of w) ≡ pos l ∷ y ∷ x ∷ w ∷ []
unfolding edge_at
edge_keys l y x w hy hx hw = rw (back y hy, back x hx, back w hw)

pub edges_after : (b : Begun) (z : ℤ) → Good limit b → Fine limit b z → edges_begun (after b z) ≡ edges_begun b ++ ended (state_of b) (keyed b z)
unfolding ended
edges_after (at_layer rs) z g f = sym (append-nil (ring_edges rs))
edges_after (at_count rs l) z g f = refl
edges_after (at_x rs l k []) z g f = sym (append-nil (ring_edges rs ++ []))
edges_after (at_x rs l k (p ∷ ps)) z g f =
    sym (append_assoc (ring_edges rs) (edges_between l (along_from p ps)) (side l (last_from p ps) (pair z (pos 0))))
    ∙ ap (λ (m : List ℤ). ring_edges rs ++ edges_between l (along_from p ps) ++ m)
    (ap₂ (λ (y x : ℤ). pos l ∷ y ∷ x ∷ z ∷ []) (last_y p ps) (last_x p ps)
    ∙ sym (edge_keys l (previous_or p.y (ys ps)) (previous_or p.x (xs ps)) z (previous_size limit p.y (ys ps) g.range.0.1 (range_ys limit ps g.range.1)) (previous_size limit p.x (xs ps) g.range.0.0 (range_xs limit ps g.range.1)) (fine_x limit rs l k (p ∷ ps) z f).0))
edges_after (at_y rs l k ps x) z g f = go (ℕ_discrete (suc (length ps)) k)
  where
    first_in : in_range limit (first_or x (xs ps)) ≡ true
    first_in = first_size limit x (xs ps) g.1.0 (range_xs limit ps g.0.range)

    go : Dec (suc (length ps) ≡ k) → edges_begun (after (at_y rs l k ps x) z) ≡ edges_begun (at_y rs l k ps x) ++ ended_by (state_of (at_y rs l k ps x)).due (state_of (at_y rs l k ps x)) (key_of z)
    go (yes e) =
        rw (eq-eqb (suc (length ps)) k e, eq-eqb (k - suc (length ps)) 0 (omega arith), edge_keys l z x (first_or x (xs ps)) (fine_y limit rs l k ps x z f).0 g.1.0 first_in)
        (edges_snoc rs (ring l (ps ++ pair x z ∷ []))
        ∙ ap (λ (m : List ℤ). ring_edges rs ++ m) (ring_edges_more l ps x z)
        ∙ sym (append_assoc (ring_edges rs) (open_edges l ps ++ edge_to l ps x) (pos l ∷ z ∷ x ∷ first_or x (xs ps) ∷ [])))
    go (no e) =
        rw (ne_eqb (suc (length ps)) k e, ne_eqb (k - suc (length ps)) 0 (λ q. omega (arith, g.0.short)))
        (ap (λ (m : List ℤ). ring_edges rs ++ m) (open_snoc l ps x z) ∙ sym (append-nil (ring_edges rs ++ (open_edges l ps ++ edge_to l ps x))))

pub ended_most : (s : State) (v : ℕ) → length (ended s v) ≤ 4
unfolding ended edge_at
ended_most s v = go s.due
  where
    one : (b : Bool) (l : List ℤ) → length l ≤ 4 → length (pick b [] l) ≤ 4
    one true l h = lit≤ tt
    one false l h = h

    other : (b : Bool) (l : List ℤ) → length l ≤ 4 → length (pick b l []) ≤ 4
    other true l h = h
    other false l h = lit≤ tt

    go : (d : Due) → length (ended_by d s v) ≤ 4
    go Layer = lit≤ tt
    go Count = lit≤ tt
    go X = one s.fresh (edge_at s.layer s.py s.px v) (lit≤ tt)
    go Y = other (eqb s.more 0) (edge_at s.layer v s.px s.fx) (lit≤ tt)

-- ---- what is made

abbrev pub Edges_begun : Begun → List ℤ → Type 0
Edges_begun b items = items ≡ edges_begun b

pub edges_laws : MadeLaws Edges_begun ended ring_edges
edges_laws =
    record {
      more = λ b items z w g n f. ap (λ (l : List ℤ). l ++ ended (state_of b) (keyed b z)) w ∙ sym (edges_after b z g f);
      whole = λ rs items g w. w;
      few = λ s v. omega (arith, ended_most s v);
    }

pub edges_start : (out : List ℤ) → Starts Edges_begun out 0 out
unfolding ring_edges
edges_start out = record { items = []; begins = refl; count = refl; few = lit≤ tt; wrote = refl }
