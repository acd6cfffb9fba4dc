-- One part of the result in the lent buffer: h are all the horizontals there are, by ranks in vx.
--
--   levelled vx ws n out        the horizontals of a part, as records from number n on
--   LevelsOk, PartOk, Parted    before and after one part is written
use Rattle.std.specs.Prelude.{◌≡◌, List, map, ℕ, ◌+◌, ◌*◌, ◌<◌, ◌≤◌, ℤ, length, get_or, take, drop}
use Rattle.records.specs.Put.{emitted}
use Rattle.horizontal.specs.Words.{on_level, height_of, level_of}
use Rattle.verticals.specs.Words.{Low, state, placed_all, PlaceOk}

unfoldable pub levelled : List ℕ → List ℕ → ℕ → List ℤ → List ℤ
levelled vx ws n out = emitted out n (map (on_level vx) (map level_of ws))

pub record LevelsOk (ws vx : List ℕ) (n : ℕ) : Type 0 where
  pub low : Low (length vx) ws
  pub columns : (i : ℕ) → i < length vx → get_or vx i 0 ≤ 2147483648
  pub heights : (i : ℕ) → i < length ws → height_of (get_or ws i 0) ≤ 2147483648
  pub few : n + length ws ≤ 33554432

pub record PartOk (ws : List ℕ) (n h : ℕ) (vx cs : List ℕ) (out : List ℤ) : Type 0 where
  pub levels : LevelsOk ws vx n
  pub within : n + length ws ≤ h
  pub few : h ≤ 33554432
  pub room : 8 * h ≤ length out
  pub place : PlaceOk ws vx cs (drop (4 * h) out)

pub record Parted (ws : List ℕ) (n h : ℕ) (vx cs cs' : List ℕ) (out out' : List ℤ) : Type 0 where
  pub front : take (4 * h) out' ≡ take (4 * h) (levelled vx ws n out)
  pub back : state (drop (4 * h) out') cs' ≡ placed_all vx ws (state (drop (4 * h) out) cs)
  pub long : length out' ≡ length out
