-- A result put in as a layer: it is closed, and its count is 1 at each of the result's cells and 0 elsewhere. Assumes nothing.
use Rattle.std.specs.Prelude.{◌≡◌, Bool, true, false, ◌&&◌, leb, eqb}
use Rattle.std.proofs.Math.Path.{refl, sym, ap, fun_ext}
use Rattle.std.proofs.Common.{◌∙◌, arith, mul-one, eq-eqb, le-leb}
use Prim.Native.Nat.{ℕ, suc, ◌+◌, ◌*◌, ◌≤◌, ◌<◌}
use Rattle.std.proofs.Math.Decide.{dec_lt, dec_le}
use Rattle.meaning.specs.Numbers.{bit}
use Rattle.meaning.specs.Edges.{Edge, number}
use Rattle.meaning.specs.Area.{total}
use Rattle.basic_laws.specs.Tests.{and_on}
use Rattle.grid_laws.specs.Plane.{ClosedN, goes_west, goes_east, wests_n, easts_n}
use Rattle.grid_laws.specs.Sums.{total_same}
use Rattle.grid_laws.specs.AreaLaws.{east, west, step_n, climb}
use Rattle.grid_laws.specs.AsLayer.{layer, these, west_in, east_in, west_out, east_out, wests_are, easts_are, layer_number, whole, nowhere}

-- no cell of g lies outside the range
pub record Bounded (N : ℕ) (g : ℕ → ℕ → Bool) : Type 0 where
  pub right : (i j : ℕ) → N ≤ i → g i j ≡ false
  pub top : (i j : ℕ) → N ≤ j → g i j ≡ false

module _ (c N : ℕ) (g : ℕ → ℕ → Bool) (B : Bounded N g) where
  -- in each column as many west pieces as east pieces
  balance : (i : ℕ) → total (λ y. west (step_n (g i) y)) 0 (suc N) ≡ total (λ y. east (step_n (g i) y)) 0 (suc N)
  balance i = omega (arith, climb (g i) 0 N, ap bit (B.top i (0 + N) (omega arith)))

  late : (m : ℕ → ℕ) (j : ℕ) → N < j → total (λ y. m y * bit (eqb c c && leb y j)) 0 (suc N) ≡ total m 0 (suc N)
  late m j l = total_same (λ y. m y * bit (eqb c c && leb y j)) m 0 (suc N) (λ k u v. rw (eq-eqb c c refl, le-leb k j (omega arith)) (mul-one (m k)))

  -- at every cell: the layer's count is 1 where the cell is inside, else 0
  pub layer_adds : (i j : ℕ) → wests_n (layer c N g) c i j ≡ easts_n (layer c N g) c i j + bit (g i j)
  layer_adds i j = go (dec_lt i N) (dec_le j N)
    where
      go : Dec (i < N) → Dec (j ≤ N) → wests_n (layer c N g) c i j ≡ easts_n (layer c N g) c i j + bit (g i j)
      go (yes p) (yes q) = layer_number c N g i j p q
      go (yes p) (no q) =
          let w : wests_n (layer c N g) c i j ≡ total (λ y. west (step_n (g i) y)) 0 (suc N) = wests_are c N g c i j ∙ west_in c c i (λ y. leb y j) N g p ∙ late (λ y. west (step_n (g i) y)) j (omega arith) in
          let e : easts_n (layer c N g) c i j ≡ total (λ y. east (step_n (g i) y)) 0 (suc N) = easts_are c N g c i j ∙ east_in c c i (λ y. leb y j) N g p ∙ late (λ y. east (step_n (g i) y)) j (omega arith) in
          rw (B.top i j (omega arith)) (omega (arith, w, e, balance i))
      go (no p) q =
          let w : wests_n (layer c N g) c i j ≡ 0 = wests_are c N g c i j ∙ west_out c c i (λ y. leb y j) N g (omega arith) in
          let e : easts_n (layer c N g) c i j ≡ 0 = easts_are c N g c i j ∙ east_out c c i (λ y. leb y j) N g (omega arith) in
          rw (B.right i j (omega arith)) (omega arith)

  pub layer_closed : ClosedN (layer c N g)
  unfolding ClosedN
  layer_closed b i = plain goes_west ∙ go (dec_lt i N) (eqb c b) refl ∙ sym (plain goes_east)
    where
      plain : (P : ℕ → ℕ → Edge ℕ → Bool) → number (P b i) (layer c N g) ≡ these c b i (λ y. true) N g P
      plain P = ap (λ (Q : Edge ℕ → Bool). number Q (layer c N g)) (fun_ext (λ e. sym (and_on (P b i e))))

      go : Dec (i < N) → (t : Bool) → eqb c b ≡ t → these c b i (λ y. true) N g goes_west ≡ these c b i (λ y. true) N g goes_east
      go (yes p) true e =
          west_in c b i (λ y. true) N g p ∙ whole (λ y. west (step_n (g i) y)) (eqb c b) (suc N) e ∙ balance i
          ∙ sym (east_in c b i (λ y. true) N g p ∙ whole (λ y. east (step_n (g i) y)) (eqb c b) (suc N) e)
      go (yes p) false e =
          west_in c b i (λ y. true) N g p ∙ nowhere (λ y. west (step_n (g i) y)) (λ y. true) (eqb c b) (suc N) e
          ∙ sym (east_in c b i (λ y. true) N g p ∙ nowhere (λ y. east (step_n (g i) y)) (λ y. true) (eqb c b) (suc N) e)
      go (no p) t e = west_out c b i (λ y. true) N g (omega arith) ∙ sym (east_out c b i (λ y. true) N g (omega arith))
