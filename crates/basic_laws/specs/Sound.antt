-- Sound edges: what the numbers of one are, lists of them, and edges in steps. Assumes nothing.
--
--   SoundParts          what the numbers of a sound edge are; sound_parts, sound-of: from the test, and back to it
--   layer_low           the layer of a sound edge is at most top
--   Sound top L es      every edge of es is sound
--   SoundList top L ns  the numbers ns are at most 4,096 sound edges: none of the refusals 1 to 3 applies to them
--   sound_at            each record of such a list is sound
--   lifted L e          e with a natural number for its layer, and its coordinates as steps from -L
use Rattle.std.specs.Prelude.{◌≡◌, true, ◌&&◌, List, ℕ, ◌/◌, ◌%◌, ◌≤◌, ◌<◌, ℤ, pos, negsuc, nat_abs, length}
use Rattle.std.proofs.Common.{subst, arith, leb-true}
use Rattle.std.proofs.lemmas.Bool.{false≢true}
use Rattle.std.specs.Int.Signed.{le_z}
use Rattle.meaning.specs.Numbers.{in_range}
use Rattle.meaning.specs.Edges.{Edge, edge, edges_of, sound_edge}
use Rattle.basic_laws.specs.Tests.{and_left, and_right}
use Rattle.basic_laws.specs.Lists.{All, all_at}
use Rattle.basic_laws.specs.Steps.{lift}
use Rattle.basic_laws.specs.Fours.{edge_at, none, edges_length, edges_at}

-- ---- one edge

pub record SoundParts (top L : ℕ) (l y f t : ℤ) : Type 0 where
  pub natural : le_z (pos 0) l ≡ true
  pub low : le_z l (pos top) ≡ true
  pub y_in : in_range L y ≡ true
  pub from_in : in_range L f ≡ true
  pub to_in : in_range L t ≡ true

pub sound_parts : (top L : ℕ) (l y f t : ℤ) → sound_edge top L (edge l y f t) ≡ true → SoundParts top L l y f t
unfolding sound_edge
sound_parts top L l y f t e =
    let a = and_left (le_z (pos 0) l && le_z l (pos top)) (in_range L y && (in_range L f && in_range L t)) e in
    let b = and_right (le_z (pos 0) l && le_z l (pos top)) (in_range L y && (in_range L f && in_range L t)) e in
    let c = and_right (in_range L y) (in_range L f && in_range L t) b in
    record {
      natural = and_left (le_z (pos 0) l) (le_z l (pos top)) a;
      low = and_right (le_z (pos 0) l) (le_z l (pos top)) a;
      y_in = and_left (in_range L y) (in_range L f && in_range L t) b;
      from_in = and_left (in_range L f) (in_range L t) c;
      to_in = and_right (in_range L f) (in_range L t) c;
    }

pub layer_low : (z : ℤ) (top : ℕ) → le_z (pos 0) z ≡ true → le_z z (pos top) ≡ true → nat_abs z ≤ top
layer_low (pos n) top h l = leb-true n top l
layer_low (negsuc n) top h l = absurd (false≢true h)

-- ---- lists

abbrev pub Sound : ℕ → ℕ → List (Edge ℤ) → Type 0
Sound top L es = All (λ e. sound_edge top L e ≡ true) es

pub record SoundList (top L : ℕ) (ns : List ℤ) : Type 0 where
  pub fours : length ns % 4 ≡ 0
  pub few : length ns / 4 ≤ 4096
  pub sound : Sound top L (edges_of ns)

pub sound_at : (top L : ℕ) (ns : List ℤ) (k : ℕ) → Sound top L (edges_of ns) → k < length ns / 4 → sound_edge top L (edge_at ns k) ≡ true
sound_at top L ns k s h =
    subst (λ (e : Edge ℤ). sound_edge top L e ≡ true) (edges_at ns k none h) (all_at (λ e. sound_edge top L e ≡ true) (edges_of ns) k none s (omega (arith, edges_length ns)))

-- ---- in steps

unfoldable pub lifted : ℕ → Edge ℤ → Edge ℕ
lifted L (edge l y f t) = edge (nat_abs l) (lift L y) (lift L f) (lift L t)
