-- Work by parts: the horizontal records of a result, put in as the edges of a layer, cover exactly the cells of the result.
use Rattle.std.specs.Prelude.{◌≡◌, refl, Bool, true, false, ◌&&◌, ◌||◌, ◌≢◌, List, map, leb, eqb}
use Rattle.std.proofs.Common.{sym, ap₂, ◌∙◌, zero-add, add-zero, add-mul, mul-one, mul-zero, eq-eqb, le-leb}
use Rattle.std.proofs.Math.Path.{ap, fun_ext}
use Prim.Native.Nat.{ℕ, suc, ◌+◌, ◌-◌, ◌*◌, ◌≤◌, ◌<◌}
use native.Mathlib.Omega.{arith}
use Rattle.std.proofs.Math.Decide.{dec_lt}
use Rattle.std.proofs.lemmas.Bool.{lt-leb}
use Rattle.meaning.specs.Numbers.{bit}
use Rattle.meaning.specs.Cells.{Dir, off, fwd, bwd}
use Rattle.meaning.specs.Records.{run, Record, rec}
use Rattle.meaning.specs.Edges.{Edge, edge, number}
use Rattle.meaning.specs.Area.{total}
use Rattle.basic_laws.specs.Tests.{spans_parts, spans_empty, spans, spans_in, spans_below, spans_above}
use Rattle.grid_laws.specs.Plane.{goes_west, goes_east, up_to_n, wests_n, easts_n, level_n, record_at, kind_n}
use Rattle.basic_laws.specs.Sums.{sum_of, sum_map, number_sum}
use Rattle.basic_laws.specs.Fours.{y_of}
use Rattle.grid_laws.specs.Sums.{total_same, total_zero, total_add, total_split, total_one}
use Rattle.grid_laws.specs.AreaLaws.{cells_n, Additive, sum_kind, east, west, step_n, climb}

-- ---- counts of two sets of cells

bit_and_or : (p q : Bool) → bit (p && q) + bit (p || q) ≡ bit p + bit q
bit_and_or true true = refl
bit_and_or true false = refl
bit_and_or false true = refl
bit_and_or false false = refl

pub cells_and_or : (N : ℕ) (g h : ℕ → ℕ → Bool) → cells_n N (λ i j. g i j && h i j) + cells_n N (λ i j. g i j || h i j) ≡ cells_n N g + cells_n N h
unfolding cells_n
cells_and_or N g h =
    sym (total_add (λ i. total (λ j. bit (g i j && h i j)) 0 N) (λ i. total (λ j. bit (g i j || h i j)) 0 N) 0 N)
    ∙ ap (λ (f : ℕ → ℕ). total f 0 N) (fun_ext (λ i.
    sym (total_add (λ j. bit (g i j && h i j)) (λ j. bit (g i j || h i j)) 0 N)
    ∙ ap (λ (f : ℕ → ℕ). total f 0 N) (fun_ext (λ j. bit_and_or (g i j) (h i j)))
    ∙ total_add (λ j. bit (g i j)) (λ j. bit (h i j)) 0 N))
    ∙ total_add (λ i. total (λ j. bit (g i j)) 0 N) (λ i. total (λ j. bit (h i j)) 0 N) 0 N

-- ---- records as edges of layer c

abbrev pub as_edge : ℕ → Record ℕ → Edge ℕ
as_edge c (rec kind y f t) = edge c y f t

unfoldable pub as_layer : ℕ → List (Record ℕ) → List (Edge ℕ)
as_layer c rs = map (as_edge c) rs

-- what one run adds to a number: t says the layer, u the height
factor : (t p u : Bool) → bit ((t && p) && u) ≡ bit p * bit (t && u)
factor true true true = refl
factor true true false = refl
factor true false u = omega arith
factor false p u = omega arith

masked : (t u p q r : Bool) → bit p + bit q ≡ bit r → bit ((t && p) && u) + bit ((t && q) && u) ≡ bit ((t && r) && u)
masked t u p q r e = rw (factor t p u, factor t q u, factor t r u) (sym (add-mul (bit p) (bit q) (bit (t && u))) ∙ ap (λ (n : ℕ). n * bit (t && u)) e)

-- a spanned column at the piece itself and at others
masked_on : (t u s : Bool) → s ≡ true → bit ((t && s) && u) ≡ 1 * bit (t && u)
masked_on t u s e = factor t s u ∙ ap (λ (b : Bool). bit b * bit (t && u)) e

masked_off : (t u s : Bool) → s ≡ false → bit ((t && s) && u) ≡ 0
masked_off true u s e = rw e
masked_off false u s e = refl

pub piece_off : (i k : ℕ) → k ≢ i → spans k (suc k) i ≡ false
piece_off i k n = go (dec_lt i k)
  where
    go : Dec (i < k) → spans k (suc k) i ≡ false
    go (yes u) = spans_below k (suc k) i u
    go (no u) = spans_above k (suc k) i (omega arith)

-- Counting edges of layer b over column i, among records put in as layer c; u picks by height. The two directions differ only in the ends' order.
module _ (c b i : ℕ) (u : ℕ → Bool) where
  ψ-west : Record ℕ → ℕ
  ψ-west r = bit (goes_west b i (as_edge c r) && u (y_of (as_edge c r)))

  ψ-east : Record ℕ → ℕ
  ψ-east r = bit (goes_east b i (as_edge c r) && u (y_of (as_edge c r)))

  none_both : (y a m k : ℕ) → a ≤ m → m ≤ k → bit ((eqb c b && spans m a i) && u y) + bit ((eqb c b && spans k m i) && u y) ≡ bit ((eqb c b && spans k a i) && u y)
  none_both y a m k p q = masked (eqb c b) (u y) (spans m a i) (spans k m i) (spans k a i) (rw (spans_empty m a i p, spans_empty k m i q, spans_empty k a i (omega arith)))

  west_additive : (y : ℕ) → Additive (λ r. ψ-west (record_at 0 y r))
  unfolding ψ-west goes_west
  west_additive y = record { none = λ a m. masked_off (eqb c b) (u y) (spans a a i) (spans_empty a a i (omega arith)); both = go }
    where
      go : (a m k : ℕ) (d : Dir) → a ≤ m → m ≤ k → ψ-west (record_at 0 y (run a m d)) + ψ-west (record_at 0 y (run m k d)) ≡ ψ-west (record_at 0 y (run a k d))
      go a m k off p q = masked (eqb c b) (u y) (spans a a i) (spans m m i) (spans a a i) (rw (spans_empty a a i (omega arith), spans_empty m m i (omega arith)))
      go a m k fwd p q = none_both y a m k p q
      go a m k bwd p q = masked (eqb c b) (u y) (spans a m i) (spans m k i) (spans a k i) (spans_parts a m k i p q)

  east_additive : (y : ℕ) → Additive (λ r. ψ-east (record_at 0 y r))
  unfolding ψ-east goes_east
  east_additive y = record { none = λ a m. masked_off (eqb c b) (u y) (spans a a i) (spans_empty a a i (omega arith)); both = go }
    where
      go : (a m k : ℕ) (d : Dir) → a ≤ m → m ≤ k → ψ-east (record_at 0 y (run a m d)) + ψ-east (record_at 0 y (run m k d)) ≡ ψ-east (record_at 0 y (run a k d))
      go a m k off p q = masked (eqb c b) (u y) (spans a a i) (spans m m i) (spans a a i) (rw (spans_empty a a i (omega arith), spans_empty m m i (omega arith)))
      go a m k fwd p q = masked (eqb c b) (u y) (spans a m i) (spans m k i) (spans a k i) (spans_parts a m k i p q)
      go a m k bwd p q = none_both y a m k p q

  west_at : (y : ℕ) (d : Dir) → ψ-west (record_at 0 y (run i (suc i) d)) ≡ west d * bit (eqb c b && u y)
  unfolding ψ-west goes_west
  west_at y off = masked_off (eqb c b) (u y) (spans i i i) (spans_empty i i i (omega arith)) ∙ omega arith
  west_at y fwd = masked_off (eqb c b) (u y) (spans (suc i) i i) (spans_empty (suc i) i i (omega arith)) ∙ omega arith
  west_at y bwd = masked_on (eqb c b) (u y) (spans i (suc i) i) (spans_in i (suc i) i (omega arith) (omega arith))

  east_at : (y : ℕ) (d : Dir) → ψ-east (record_at 0 y (run i (suc i) d)) ≡ east d * bit (eqb c b && u y)
  unfolding ψ-east goes_east
  east_at y off = masked_off (eqb c b) (u y) (spans i i i) (spans_empty i i i (omega arith)) ∙ omega arith
  east_at y fwd = masked_on (eqb c b) (u y) (spans i (suc i) i) (spans_in i (suc i) i (omega arith) (omega arith))
  east_at y bwd = masked_off (eqb c b) (u y) (spans (suc i) i i) (spans_empty (suc i) i i (omega arith)) ∙ omega arith

  west_other : (y k : ℕ) (d : Dir) → k ≢ i → ψ-west (record_at 0 y (run k (suc k) d)) ≡ 0
  unfolding ψ-west goes_west
  west_other y k off n = masked_off (eqb c b) (u y) (spans k k i) (spans_empty k k i (omega arith))
  west_other y k fwd n = masked_off (eqb c b) (u y) (spans (suc k) k i) (spans_empty (suc k) k i (omega arith))
  west_other y k bwd n = masked_off (eqb c b) (u y) (spans k (suc k) i) (piece_off i k n)

  east_other : (y k : ℕ) (d : Dir) → k ≢ i → ψ-east (record_at 0 y (run k (suc k) d)) ≡ 0
  unfolding ψ-east goes_east
  east_other y k off n = masked_off (eqb c b) (u y) (spans k k i) (spans_empty k k i (omega arith))
  east_other y k fwd n = masked_off (eqb c b) (u y) (spans k (suc k) i) (piece_off i k n)
  east_other y k bwd n = masked_off (eqb c b) (u y) (spans (suc k) k i) (spans_empty (suc k) k i (omega arith))

  -- over all records only the pieces of column i number; past the range there are none
  module _ (ψ : Record ℕ → ℕ) (m : Dir → ℕ) (A : (y : ℕ) → Additive (λ r. ψ (record_at 0 y r)))
      (here : (y : ℕ) (d : Dir) → ψ (record_at 0 y (run i (suc i) d)) ≡ m d * bit (eqb c b && u y)) (other : (y k : ℕ) (d : Dir) → k ≢ i → ψ (record_at 0 y (run k (suc k) d)) ≡ 0)
      (N : ℕ) (g : ℕ → ℕ → Bool) where
    up_in : i < N → sum_of ψ (kind_n 0 (level_n g) N) ≡ total (λ y. m (step_n (g i) y) * bit (eqb c b && u y)) 0 (suc N)
    unfolding level_n
    up_in p =
        sum_kind ψ 0 (level_n g) N A
        ∙ ap (λ (h : ℕ → ℕ). total h 0 (suc N)) (fun_ext (λ y.
        total_one (λ k. ψ (record_at 0 y (run k (suc k) (level_n g y k)))) 0 N i (omega arith) (omega arith) (λ k u v n. other y k (level_n g y k) n)
        ∙ here y (level_n g y i)))

    up_out : N ≤ i → sum_of ψ (kind_n 0 (level_n g) N) ≡ 0
    up_out p =
        sum_kind ψ 0 (level_n g) N A
        ∙ total_zero _ 0 (suc N) (λ y _ _. total_zero _ 0 N (λ k v w. other y k (level_n g y k) (omega arith)))

  module _ (N : ℕ) (g : ℕ → ℕ → Bool) where
    abbrev pub these : (ℕ → ℕ → Edge ℕ → Bool) → ℕ
    these P = number (λ e. P b i e && u (y_of e)) (as_layer c (kind_n 0 (level_n g) N))

    these_sum : (P : ℕ → ℕ → Edge ℕ → Bool) → these P ≡ sum_of (λ r. bit (P b i (as_edge c r) && u (y_of (as_edge c r)))) (kind_n 0 (level_n g) N)
    unfolding as_layer
    these_sum P = number_sum (λ e. P b i e && u (y_of e)) (map (as_edge c) (kind_n 0 (level_n g) N)) ∙ sum_map (λ e. bit (P b i e && u (y_of e))) (as_edge c) (kind_n 0 (level_n g) N)

    pub west_in : i < N → these goes_west ≡ total (λ y. west (step_n (g i) y) * bit (eqb c b && u y)) 0 (suc N)
    unfolding ψ-west
    west_in p = these_sum goes_west ∙ up_in ψ-west west west_additive west_at west_other N g p

    pub east_in : i < N → these goes_east ≡ total (λ y. east (step_n (g i) y) * bit (eqb c b && u y)) 0 (suc N)
    unfolding ψ-east
    east_in p = these_sum goes_east ∙ up_in ψ-east east east_additive east_at east_other N g p

    pub west_out : N ≤ i → these goes_west ≡ 0
    unfolding ψ-west
    west_out p = these_sum goes_west ∙ up_out ψ-west west west_additive west_at west_other N g p

    pub east_out : N ≤ i → these goes_east ≡ 0
    unfolding ψ-east
    east_out p = these_sum goes_east ∙ up_out ψ-east east east_additive east_at east_other N g p

-- ---- the sums of a column, cut at a height

cut : (m : ℕ → ℕ) (t : Bool) (j N : ℕ) → t ≡ true → j ≤ N → total (λ y. m y * bit (t && leb y j)) 0 (suc N) ≡ total m 0 (suc j)
cut m t j N e q =
    let w : suc N ≡ suc j + (N - j) = omega arith in
    rw (e, w) (total_split (λ y. m y * bit (leb y j)) 0 (suc j) (N - j)
    ∙ ap₂ ◌+◌
    (total_same (λ y. m y * bit (leb y j)) m 0 (suc j) (λ k u v. rw (le-leb k j (omega arith)) (mul-one (m k))))
    (total_zero (λ y. m y * bit (leb y j)) (0 + suc j) (N - j) (λ k u v. rw (lt-leb k j (omega arith)) (mul-zero (m k))))
    ∙ add-zero (total m 0 (suc j)))

pub whole : (m : ℕ → ℕ) (t : Bool) (N : ℕ) → t ≡ true → total (λ y. m y * bit (t && true)) 0 N ≡ total m 0 N
whole m t N e = total_same (λ y. m y * bit (t && true)) m 0 N (λ k u v. rw e (mul-one (m k)))

pub nowhere : (m : ℕ → ℕ) (u : ℕ → Bool) (t : Bool) (N : ℕ) → t ≡ false → total (λ y. m y * bit (t && u y)) 0 N ≡ 0
nowhere m u t N e = total_zero (λ y. m y * bit (t && u y)) 0 N (λ k _ _. rw e (mul-zero (m k)))

up_is : (j : ℕ) (e : Edge ℕ) → up_to_n j e ≡ leb (y_of e) j
unfolding up_to_n
up_is j (edge l y f t) = refl

-- ---- the layer

module _ (c N : ℕ) (g : ℕ → ℕ → Bool) where
  abbrev pub layer : List (Edge ℕ)
  layer = as_layer c (kind_n 0 (level_n g) N)

  pub wests_are : (b i j : ℕ) → wests_n layer b i j ≡ these c b i (λ y. leb y j) N g goes_west
  unfolding wests_n
  wests_are b i j = ap (λ (P : Edge ℕ → Bool). number P layer) (fun_ext (λ e. ap (◌&&◌ (goes_west b i e)) (up_is j e)))

  pub easts_are : (b i j : ℕ) → easts_n layer b i j ≡ these c b i (λ y. leb y j) N g goes_east
  unfolding easts_n
  easts_are b i j = ap (λ (P : Edge ℕ → Bool). number P layer) (fun_ext (λ e. ap (◌&&◌ (goes_east b i e)) (up_is j e)))

  -- its number at a cell is 1 if the cell is inside, else 0
  pub layer_number : (i j : ℕ) → i < N → j ≤ N → wests_n layer c i j ≡ easts_n layer c i j + bit (g i j)
  layer_number i j p q =
      let t : eqb c c ≡ true = eq-eqb c c refl in
      let w : wests_n layer c i j ≡ total (λ y. west (step_n (g i) y)) 0 (suc j) = wests_are c i j ∙ west_in c c i (λ y. leb y j) N g p ∙ cut (λ y. west (step_n (g i) y)) (eqb c c) j N t q in
      let e : easts_n layer c i j ≡ total (λ y. east (step_n (g i) y)) 0 (suc j) = easts_are c i j ∙ east_in c c i (λ y. leb y j) N g p ∙ cut (λ y. east (step_n (g i) y)) (eqb c c) j N t q in
      let z : bit (g i (0 + j)) ≡ bit (g i j) = ap (λ (k : ℕ). bit (g i k)) (zero-add j) in
      omega (arith, w, e, climb (g i) 0 j, z)
