-- The horizontals of one line: what reading it is asked and what it gives.
--
--   line_of y vx told covers truth   the line's records by ranks, from the covers at the last line (told) and those now
--   LineOk loc k y vx told covers truth lo hi   there is room for them from record number k on, and only strips from lo on, below hi, have another cover
--   LineRead loc₀ k sum vx covers rs loc told r   the records rs were written and weighed, and all covers are told
use Rattle.std.specs.Prelude.{◌≡◌, Bool, List, ◌++◌, map, ℕ, zero, ◌+◌, ◌<◌, ◌≤◌, length, get_or, take, drop}
use Rattle.meaning.specs.Records.{Record}
use Rattle.grid_laws.specs.Places.{Rising}
use Rattle.strips.specs.Cover.{look}
use Rattle.horizontal.specs.Words.{on_level, word_of}
use Rattle.horizontal.specs.Lines.{line_records}
use Rattle.weights.specs.Weights.{Weighed}
use Rattle.levels.specs.declared.Reading.{Reading}

abbrev pub line_of : ℕ → List ℕ → List ℕ → List ℕ → List Bool → List (Record ℕ)
line_of y vx told covers truth = line_records y (length vx) (look truth told) (look truth covers)

pub record LineOk (loc : List ℕ) (k y : ℕ) (vx told covers : List ℕ) (truth : List Bool) (lo hi : ℕ) : Type 0 where
  pub room : k + length vx ≤ length loc
  pub place : y ≤ 2147483648
  pub each : (i : ℕ) → get_or vx i 0 ≤ 2147483648
  pub rising : Rising zero vx
  pub few : length vx ≤ 8192
  pub both : length told ≡ length covers
  pub long : length vx ≤ length covers
  pub table : length truth ≡ 256
  pub order : lo ≤ hi
  pub last : hi < length vx
  pub quiet : (r : ℕ) → r < length covers → (lo ≤ r → r < hi → ⊥) → get_or told r 0 ≡ get_or covers r 0

pub record LineRead (loc₀ : List ℕ) (k sum : ℕ) (vx covers : List ℕ) (rs : List (Record ℕ)) (loc told : List ℕ) (r : Reading) : Type 0 where
  pub all_told : told ≡ covers
  pub written : loc ≡ take k loc₀ ++ (map word_of rs ++ drop (k + length rs) loc₀)
  pub number : r.count ≡ k + length rs
  pub few : length rs ≤ length vx
  pub weighs : Weighed sum (map (on_level vx) rs) r.sum
