-- Tests and lifts of the numbers of a record, by their keys. Assumes nothing.
--
--   edge_of r                 the edge that the record r is
--   Keyed z r                 r is the key of z, a 32-bit number
--   layer_key, coordinate_key the tests of a sound edge, by keys
--   number_in                 the coordinates of a sound edge are in range, number by number
--   layer_above, layer_is     a layer is its key, less 2^31
--   coordinate_above, lift_is a coordinate moved up by 2^30 is its key, less 2^30
use Rattle.std.specs.Prelude.{◌≡◌, refl, true, ◌&&◌, leb, ℤ, pos, negsuc, nat_abs, List}
use Rattle.std.proofs.Common.{sym, ap₂, ◌∙◌}
use Rattle.std.proofs.lemmas.Bool.{false≢true}
use Prim.Native.Nat.{ℕ, zero, suc, ◌+◌, ◌-◌, ◌≤◌, ◌<◌}
use native.Mathlib.Omega.{arith}
use Rattle.std.specs.Int.Signed.{mag, le_z}
use borrow.Author.Tests.{leb-true, le-leb}
use Rattle.meaning.specs.Numbers.{limit, in_range}
use Rattle.meaning.specs.Edges.{Edge, edge, sound_edge}
use Rattle.basic_laws.specs.Tests.{and_on, leb_same}
use Rattle.basic_laws.specs.Signed.{key_of, le_key}
use Rattle.basic_laws.specs.Steps.{lift}
use Rattle.basic_laws.specs.Fours.{part, edge_at}
use Rattle.basic_laws.specs.Sound.{SoundParts, sound_parts}
use Rattle.edge.specs.declared.Record.{Record}

abbrev pub edge_of : Record → Edge ℤ
edge_of r = edge r.layer r.y r.from r.to

pub record Keyed (z : ℤ) (r : ℕ) : Type 0 where
  pub is : r ≡ key_of z
  pub word : mag z < 2147483648

pub layer_key : (z : ℤ) (r : ℕ) → Keyed z r → (leb 2147483648 r && leb r 2147483655) ≡ (le_z (pos 0) z && le_z z (pos 7))
layer_key z r K =
    rw K.is (sym (ap₂ ◌&&◌ (le_key (pos 0) z (omega arith) K.word) (le_key z (pos 7) K.word (omega arith))))

pub coordinate_key : (z : ℤ) (r : ℕ) → Keyed z r → (leb 1073741824 r && leb r 3221225472) ≡ in_range limit z
coordinate_key z r K = rw K.is (go z K.word)
  where
    go : (z : ℤ) → mag z < 2147483648 → (leb 1073741824 (key_of z) && leb (key_of z) 3221225472) ≡ in_range limit z
    go (pos n) h = rw (le-leb 1073741824 (n + 2147483648) (omega arith)) (leb_same (n + 2147483648) 3221225472 n 1073741824 (λ e. omega arith) (λ e. omega arith))
    go (negsuc n) h =
        ap₂ ◌&&◌ (leb_same 1073741824 (2147483648 - suc n) (suc n) 1073741824 (λ e. omega arith) (λ e. omega arith)) (le-leb (2147483648 - suc n) 3221225472 (omega arith)) ∙ and_on (leb (suc n) 1073741824)

pub number_in : (ns : List ℤ) (k j : ℕ) → sound_edge 7 limit (edge_at ns k) ≡ true → 0 < j → j < 4 → in_range limit (part ns k j) ≡ true
unfolding edge_at
number_in ns k j e h l = go j h l (sound_parts 7 limit (part ns k 0) (part ns k 1) (part ns k 2) (part ns k 3) e)
  where
    go : (j : ℕ) → 0 < j → j < 4 → SoundParts 7 limit (part ns k 0) (part ns k 1) (part ns k 2) (part ns k 3) → in_range limit (part ns k j) ≡ true
    go zero h l P = absurd (omega arith)
    go (suc zero) h l P = P.y_in
    go (suc (suc zero)) h l P = P.from_in
    go (suc (suc (suc zero))) h l P = P.to_in
    go (suc (suc (suc (suc j)))) h l P = absurd (omega arith)

module _ (z : ℤ) (r : ℕ) (K : Keyed z r) (natural : le_z (pos 0) z ≡ true) where
  natural_key : (z : ℤ) → le_z (pos 0) z ≡ true → key_of z ≡ nat_abs z + 2147483648
  natural_key (pos n) h = refl
  natural_key (negsuc n) h = absurd (false≢true h)

  pub layer_above : 2147483648 ≤ r
  layer_above = omega (arith, K.is, natural_key z natural)

  pub layer_is : r - 2147483648 ≡ nat_abs z
  layer_is = omega (arith, K.is, natural_key z natural)

module _ (z : ℤ) (r : ℕ) (K : Keyed z r) (inside : in_range limit z ≡ true) where
  coordinate_is : (z : ℤ) → in_range limit z ≡ true → (1073741824 ≤ key_of z) × (key_of z - 1073741824 ≡ lift limit z)
  unfolding lift
  coordinate_is (pos n) h = (omega arith, omega arith)
  coordinate_is (negsuc n) h = let l : suc n ≤ 1073741824 = leb-true (suc n) 1073741824 h in (omega arith, omega arith)

  pub coordinate_above : 1073741824 ≤ r
  coordinate_above = omega (arith, K.is, (coordinate_is z inside).0)

  pub lift_is : r - 1073741824 ≡ lift limit z
  lift_is = omega (arith, K.is, (coordinate_is z inside).1)
