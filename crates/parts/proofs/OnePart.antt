-- One part: the horizontals, and then the verticals in the buffer from just after them. Assumes nothing.
--
--   place_ready   after the horizontals the verticals may be placed
--   parted        and then the part is written
use mathlib.Core.Path.{◌≡◌, sym, ap, ◌∙◌, subst}
use mathlib.Core.List.{List, ◌++◌, map}
use Prim.Native.Nat.{ℕ, ◌*◌}
use native.Mathlib.Omega.{arith}
use lib.IntN.{ℤ}
use lib.ListN.{length, take, drop, length-append, length-map, length-drop}
use lib.Seq.{take_at, drop_at, length-take-le}
use Rattle.horizontal.specs.Words.{on_level, level_of}
use Rattle.verticals.specs.Words.{state, placed_all, PlaceOk}
use Rattle.parts.specs.Parted.{levelled, PartOk, Parted}
use Rattle.parts.specs.Emitted.{emitted_past}

module _ {ws : List ℕ} {n h : ℕ} {vx cs : List ℕ} {out : List ℤ} (ok : PartOk ws n h vx cs out) where
  long_levels : length (map (on_level vx) (map level_of ws)) ≡ length ws
  long_levels = length-map (map level_of ws) (on_level vx) ∙ length-map ws level_of

  pub levels_past : drop (4 * h) (levelled vx ws n out) ≡ drop (4 * h) out
  unfolding levelled
  levels_past = emitted_past out n (map (on_level vx) (map level_of ws)) (omega (arith, long_levels, ok.within, ok.room)) h (omega (arith, long_levels, ok.within))

  pub place_ready : {mid : List ℤ} → mid ≡ levelled vx ws n out → PlaceOk ws vx cs (drop (4 * h) mid)
  place_ready {mid} e = subst (PlaceOk ws vx cs) (sym (ap (drop (4 * h)) e ∙ levels_past)) ok.place

  pub parted : {mid out' : List ℤ} {cs' : List ℕ} {back : List ℤ} → mid ≡ levelled vx ws n out → out' ≡ take (4 * h) mid ++ back → length back ≡ length (drop (4 * h) mid) → state back cs' ≡ placed_all vx ws (state (drop (4 * h) mid) cs)
      → length mid ≡ length out → Parted ws n h vx cs cs' out out'
  parted {mid} {out'} {cs'} {back} e o l s q =
      let long : length (take (4 * h) mid) ≡ 4 * h = length-take-le (4 * h) mid (omega (arith, q, ok.room)) in
      record {
        front = ap (take (4 * h)) o ∙ take_at (take (4 * h) mid) back (4 * h) long ∙ ap (take (4 * h)) e;
        back = ap (λ b. state b cs') (ap (drop (4 * h)) o ∙ drop_at (take (4 * h) mid) back (4 * h) long) ∙ s ∙ ap (λ b. placed_all vx ws (state b cs)) (ap (drop (4 * h)) e ∙ levels_past);
        long = ap length o ∙ length-append (take (4 * h) mid) back ∙ omega (arith, long, l, length-drop (4 * h) mid, q, ok.room);
      }
