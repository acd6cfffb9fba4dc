-- The loop of `put_levels`. Assumes nothing.
use mathlib.Core.Path.{◌≡◌, ap, ap₂, ◌∙◌}
use mathlib.Core.List.{List, ◌∷◌, map}
use Prim.Native.Nat.{ℕ, ◌+◌, ◌<◌, ◌≤◌}
use native.Mathlib.Omega.{arith}
use lib.IntN.{ℤ}
use lib.ListN.{length, get_or, drop, drop_of_length-le}
use Rattle.std.proofs.lemmas.List.{drop_more}
use Rattle.meaning.specs.Records.{Record, rec}
use Rattle.records.specs.Put.{put_at}
use Rattle.records.specs.Emitting.{Left, left_one, left_none}
use Rattle.horizontal.specs.Words.{on_level, height_of, from_of, to_of, level_of}
use Rattle.parts.specs.Parted.{levelled}

abbrev levels_of : List ℕ → List ℕ → List (Record ℕ)
levels_of vx ws = map (on_level vx) (map level_of ws)

pub record Levelling (ws vx : List ℕ) (n : ℕ) (out₀ out : List ℤ) (i : ℕ) : Type 0 where
  pub within : i ≤ length ws
  pub left : Left out₀ n (map (on_level vx) (map level_of ws)) out (n + i) (map (on_level vx) (map level_of (drop i ws)))

module _ {ws vx : List ℕ} {n : ℕ} {out₀ out : List ℤ} {i : ℕ} (S : Levelling ws vx n out₀ out i) (more : i < length ws) {y f t : ℕ}
    (ey : y ≡ height_of (get_or ws i 0)) (ef : f ≡ from_of (get_or ws i 0)) (et : t ≡ to_of (get_or ws i 0)) where
  pub levelling_more : {out' : List ℤ} → out' ≡ put_at out (n + i) (rec 0 y (get_or vx f 0) (get_or vx t 0)) → Levelling ws vx n out₀ out' (i + 1)
  levelling_more {out'} e =
      let r : rec 0 y (get_or vx f 0) (get_or vx t 0) ≡ on_level vx (level_of (get_or ws i 0)) =
      ap₂ (λ a b. rec 0 a (get_or vx b 0) (get_or vx t 0)) ey ef ∙ ap (λ b. rec 0 (height_of (get_or ws i 0)) (get_or vx (from_of (get_or ws i 0)) 0) (get_or vx b 0)) et in
      let l : Left out₀ n (levels_of vx ws) out (n + i) (on_level vx (level_of (get_or ws i 0)) ∷ levels_of vx (drop (i + 1) ws)) = rw (drop_more ws i 0 more) at S.left in
      let z : n + i + 1 ≡ n + (i + 1) = omega arith in
      record { within = omega arith; left = rw z at (left_one (on_level vx (level_of (get_or ws i 0))) l (e ∙ ap (put_at out (n + i)) r)) }

pub levelling_done : {ws vx : List ℕ} {n : ℕ} {out₀ out : List ℤ} {i : ℕ} → Levelling ws vx n out₀ out i → length ws ≤ i → out ≡ levelled vx ws n out₀
unfolding levelled
levelling_done {ws} S h = (left_none (rw (drop_of_length-le ws h) at S.left)).list
