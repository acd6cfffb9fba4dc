-- The edges of one place, marked one by one. Assumes nothing.
--
--   EdgeMarked     one edge is marked
--   MarksHeld      the edges of the place before e are marked
--   marks_laws     the laws of that step
--   place_marked   what holds after the last edge
use mathlib.Core.Path.{◌≡◌, refl, ◌∙◌}
use mathlib.Core.List.{List}
use mathlib.Core.Logic.{◌≢◌}
use Prim.Native.Nat.{ℕ, ◌<◌}
use lib.ListN.{length, get_or}
use Rattle.marks.specs.Marks.{FreshMarks}
use Rattle.crossings.specs.declared.Marks.{Marks}
use Rattle.crossings.specs.declared.Reach.{Reach}
use Rattle.crossings.specs.Swept.{height_of, AdvanceOk, MarkOk, MarkedOne, MarkAllOk, PlaceMarked}
use Rattle.crossings.specs.Steps.{StepLaws}
use Rattle.crossings.specs.MarkedLaws.{Marking, marking_start, marking_asks, marking_turn, marking_done}

pub record EdgeMarked (n w : ℕ) (layers ends : List ℕ) (s s' : Marks) (r : Reach) : Type 0 where
  pub marked : MarkedOne n w layers ends s.marks.now s'.marks.now r
  pub lent : s'.marks.ghost_name ≡ s.marks.ghost_name

pub record MarksHeld (n : ℕ) (ws layers ends : List ℕ) (g : ℕ) (s₀ : Marks) (e lo hi : ℕ) (s : Marks) : Type 0 where
  pub marking : Marking n ws layers ends g e lo hi s.marks.now
  pub lent : s.marks.ghost_name ≡ s₀.marks.ghost_name

pub marks_laws : StepLaws (λ n ws layers ends g (s : Marks). MarkAllOk n ws layers ends g s.marks.now) (λ n w layers ends (s : Marks). MarkOk n w layers ends s.marks.now) EdgeMarked MarksHeld
marks_laws = record {
  some = λ n ws layers ends g s₀ ok. ok.some;
  start = λ n ws layers ends g s₀ ok. record { marking = marking_start ok; lent = refl };
  asks = λ n ws layers ends g s₀ ok e lo hi s h u. marking_asks ok h.marking u;
  turn = λ n ws layers ends g s₀ ok e lo hi s h u s' r d y lo' hi' p q. record {
    marking = marking_turn ok h.marking u d.marked lo' hi' _ p q y refl;
    lent = d.lent ∙ h.lent;
  };
}

pub place_marked : {n : ℕ} {ws layers ends : List ℕ} {g : ℕ} {c m : List ℕ} {s₀ s : Marks} {e lo hi : ℕ} → AdvanceOk n ws layers ends g c m → FreshMarks n s₀.marks.now → MarksHeld n ws layers ends g s₀ e lo hi s
    → (e < length ws → height_of (get_or ws e 0) ≢ height_of (get_or ws g 0)) → PlaceMarked n ws layers ends g s.marks.now (record { next = e; lo = lo; hi = hi })
place_marked {n} {ws} {layers} {ends} {g} {c} {m} {s₀} ok fresh h stop =
    let all : MarkAllOk n ws layers ends g s₀.marks.now = record { words = ok.words; some = ok.some; fresh = fresh } in
    marking_done all h.marking stop
