-- The edges of a good ring list are accepted: at most 4,096, each sound, none flat, and closed. Assumes nothing.
--
--   edge_list rs        the edges of a ring list
--   edges_numbers      their numbers are `edges_of` of the ring list
--   ring_edges_accepted   THE EDGES OF A GOOD RING LIST ARE ACCEPTED by refusals 1 to 5
use Rattle.std.specs.Prelude.{◌≡◌, true, false, ◌&&◌, ◌≢◌, ℕ, ◌+◌, ◌*◌, ◌≤◌, ℤ, pos, length}
use Rattle.std.proofs.Math.Path.{refl}
use Rattle.std.proofs.Common.{sym, ap, ap₂, ◌∙◌, subst, length-append, le-leb}
use mathlib.Core.List.{List, [], ◌∷◌, ◌++◌}
use native.Mathlib.Omega.{arith}
use Rattle.std.specs.Int.Signed.{le_z}
use Rattle.meaning.specs.Numbers.{bit, eq_z}
use Rattle.meaning.specs.Edges.{Edge, edge, edges_of, edge_numbers, on, number, Closed, sound_edge, flat}
use Rattle.meaning.specs.Rings.{Pair, Ring, back_to, cyclic, xs, InRange, GoodRing, GoodRings, pairs_in, side as edgeWords, edges_between, ring_edges}
use Rattle.basic_laws.specs.Lists.{All, all_append, number_append}
use Rattle.basic_laws.specs.Signed.{eq_z_no}
use Rattle.basic_laws.specs.Sound.{Sound}
use Rattle.basic_laws.specs.Fours.{edges_beside}
use Rattle.laws.specs.Columns.{to_up_to, from_up_to, up_to_closed}
use Rattle.laws.specs.Accepting.{AcceptedEdges}

abbrev between1 : ℕ → Pair → Pair → Edge ℤ
between1 l p q = edge (pos l) p.y p.x q.x

unfoldable pub between : ℕ → List (Pair × Pair) → List (Edge ℤ)
between l [] = []
between l (n ∷ ns) = edge (pos l) n.0.y n.0.x n.1.x ∷ between l ns

unfoldable pub edge_list : List Ring → List (Edge ℤ)
edge_list [] = []
edge_list (r ∷ rs) = between r.layer (cyclic r.pairs) ++ edge_list rs

-- ---- their numbers

numbers_append : (a b : List (Edge ℤ)) → edge_numbers (a ++ b) ≡ edge_numbers a ++ edge_numbers b
unfolding edge_numbers
numbers_append [] b = refl
numbers_append (edge l y f t ∷ a) b = ap (λ (m : List ℤ). l ∷ y ∷ f ∷ t ∷ m) (numbers_append a b)

between_numbers : (l : ℕ) (ns : List (Pair × Pair)) → edges_between l ns ≡ edge_numbers (between l ns)
unfolding edges_between between edge_numbers
between_numbers l [] = refl
between_numbers l (n ∷ ns) = ap (λ (m : List ℤ). edgeWords l n.0 n.1 ++ m) (between_numbers l ns)

pub edges_numbers : (rs : List Ring) → ring_edges rs ≡ edge_numbers (edge_list rs)
unfolding ring_edges edge_list edge_numbers
edges_numbers [] = refl
edges_numbers (r ∷ rs) =
    ap₂ (λ (a b : List ℤ). a ++ b) (between_numbers r.layer (cyclic r.pairs)) (edges_numbers rs)
    ∙ sym (numbers_append (between r.layer (cyclic r.pairs)) (edge_list rs))

pub edges_are : (rs : List Ring) → edges_of (ring_edges rs) ≡ edge_list rs
unfolding edges_of
edges_are rs = ap edges_of (edges_numbers rs) ∙ edges_beside [] (edge_list rs) refl

-- ---- how many

back_length : (l : ℕ) (a b : Pair) (ps : List Pair) → length (between l (back_to a b ps)) ≡ 1 + length ps
unfolding between
back_length l a b [] = refl
back_length l a b (c ∷ ps) = omega (arith, back_length l a c ps)

ring_length : (l : ℕ) (ps : List Pair) → length (between l (cyclic ps)) ≡ length ps
unfolding between
ring_length l [] = refl
ring_length l (p ∷ ps) = omega (arith, back_length l p p ps)

edges_length : (rs : List Ring) → length (edge_list rs) ≡ pairs_in rs
unfolding edge_list pairs_in
edges_length [] = refl
edges_length (r ∷ rs) = omega (arith, length-append (between r.layer (cyclic r.pairs)) (edge_list rs), ring_length r.layer r.pairs, edges_length rs)

numbers_length : (es : List (Edge ℤ)) → length (edge_numbers es) ≡ 4 * length es
unfolding edge_numbers
numbers_length [] = refl
numbers_length (edge l y f t ∷ es) = omega (arith, numbers_length es)

-- ---- each is sound, and none is flat

one_sound : (L l : ℕ) (a b : Pair) → l ≤ 7 → InRange L a → InRange L b → sound_edge 7 L (between1 l a b) ≡ true
unfolding sound_edge
one_sound L l a b h ia ib = rw (le-leb 0 l (omega arith), le-leb l 7 h, ia.1, ia.0, ib.0)

back_sound : (L l : ℕ) (a b : Pair) (ps : List Pair) → l ≤ 7 → InRange L a → InRange L b → All (InRange L) ps → Sound 7 L (between l (back_to a b ps))
unfolding between
back_sound L l a b [] h ia ib i = (one_sound L l b a h ib ia, tt)
back_sound L l a b (c ∷ ps) h ia ib i = (one_sound L l b c h ib i.0, back_sound L l a c ps h ia i.0 i.1)

ring_sound : (L l : ℕ) (ps : List Pair) → l ≤ 7 → All (InRange L) ps → Sound 7 L (between l (cyclic ps))
unfolding between
ring_sound L l [] h i = tt
ring_sound L l (p ∷ ps) h i = back_sound L l p p ps h i.0 i.0 i.1

back_sloping : (l : ℕ) (a b : Pair) (ps : List Pair) → All (λ n. n.0 ≢ n.1) (back_to a.x b.x (xs ps)) → All (λ e. flat e ≡ false) (between l (back_to a b ps))
unfolding between flat
back_sloping l a b [] d = (eq_z_no b.x a.x d.0, tt)
back_sloping l a b (c ∷ ps) d = (eq_z_no b.x c.x d.0, back_sloping l a c ps d.1)

ring_sloping : (l : ℕ) (ps : List Pair) → All (λ n. n.0 ≢ n.1) (cyclic (xs ps)) → All (λ e. flat e ≡ false) (between l (cyclic ps))
unfolding between
ring_sloping l [] d = tt
ring_sloping l (p ∷ ps) d = back_sloping l p p ps d

rings_sound : (L : ℕ) (rs : List Ring) → All (GoodRing L) rs → Sound 7 L (edge_list rs)
unfolding edge_list
rings_sound L [] g = tt
rings_sound L (r ∷ rs) g =
    all_append (λ e. sound_edge 7 L e ≡ true) (between r.layer (cyclic r.pairs)) (edge_list rs) (ring_sound L r.layer r.pairs g.0.low g.0.range) (rings_sound L rs g.1)

rings_sloping : (L : ℕ) (rs : List Ring) → All (GoodRing L) rs → All (λ e. flat e ≡ false) (edge_list rs)
unfolding edge_list
rings_sloping L [] g = tt
rings_sloping L (r ∷ rs) g =
    all_append (λ e. flat e ≡ false) (between r.layer (cyclic r.pairs)) (edge_list rs) (ring_sloping r.layer r.pairs g.0.differ_x) (rings_sloping L rs g.1)

-- ---- closed: along a ring every x is once a from and once a to

module _ (c : ℕ) (i : ℤ) where
  abbrev froms : List (Edge ℤ) → ℕ
  froms es = number (λ e. on c e && from_up_to i e) es

  abbrev tos : List (Edge ℤ) → ℕ
  tos es = number (λ e. on c e && to_up_to i e) es

  -- an end at z, of a ring on the layer l, is at most i and on the layer c
  abbrev at : ℕ → ℤ → ℕ
  at l z = bit (eq_z (pos l) (pos c) && le_z z i)

  back_even : (l : ℕ) (a b : Pair) (ps : List Pair) → froms (between l (back_to a b ps)) + at l a.x ≡ tos (between l (back_to a b ps)) + at l b.x
  unfolding between number on from_up_to to_up_to
  back_even l a b [] = omega arith
  back_even l a b (d ∷ ps) = omega (arith, back_even l a d ps)

  ring_even : (l : ℕ) (ps : List Pair) → froms (between l (cyclic ps)) ≡ tos (between l (cyclic ps))
  unfolding between number
  ring_even l [] = refl
  ring_even l (p ∷ ps) = omega (arith, back_even l p p ps)

  rings_even : (rs : List Ring) → froms (edge_list rs) ≡ tos (edge_list rs)
  unfolding edge_list number
  rings_even [] = refl
  rings_even (r ∷ rs) =
      let es = between r.layer (cyclic r.pairs) in
      omega (arith, number_append (λ e. on c e && from_up_to i e) es (edge_list rs), number_append (λ e. on c e && to_up_to i e) es (edge_list rs), ring_even r.layer r.pairs, rings_even rs)

pub ring_edges_accepted : (L : ℕ) (rs : List Ring) → GoodRings L rs → AcceptedEdges 7 L (ring_edges rs)
ring_edges_accepted L rs g =
    let n : length (ring_edges rs) ≡ 4 * pairs_in rs = ap length (edges_numbers rs) ∙ numbers_length (edge_list rs) ∙ ap (λ (k : ℕ). 4 * k) (edges_length rs) in
    let few = g.few in
    record {
      list = record { fours = omega arith; few = omega arith; sound = subst (Sound 7 L) (sym (edges_are rs)) (rings_sound L rs g.each) };
      sloping = subst (All (λ e. flat e ≡ false)) (sym (edges_are rs)) (rings_sloping L rs g.each);
      closed = subst Closed (sym (edges_are rs)) (up_to_closed (edge_list rs) (λ c i. rings_even c i rs));
    }
