-- The edges of one place, passed one by one. Assumes nothing.
--
--   StripsPassed   one edge is passed
--   StripsHeld     the edges of the place before e are passed
--   strips_laws    the laws of that step
use mathlib.Core.Path.{refl}
use mathlib.Core.List.{List}
use Prim.Native.Nat.{ℕ}
use Rattle.strips.specs.declared.Strips.{Strips}
use Rattle.strips.specs.Lent.{Lent, lent_on}
use Rattle.crossings.specs.declared.Reach.{Reach}
use Rattle.crossings.specs.Swept.{PassOk, Passing, AdvanceOk}
use Rattle.crossings.specs.Steps.{StepLaws}
use Rattle.crossings.specs.AdvanceLaws.{Advancing, advance_start, advance_pass, advance_turn}

pub record StripsPassed (n w : ℕ) (layers ends : List ℕ) (s s' : Strips) (r : Reach) : Type 0 where
  pub passed : Passing n w layers ends s.counts.now s'.counts.now s.covers.now s'.covers.now r
  pub lent : Lent s s'

pub record StripsHeld (n : ℕ) (ws layers ends : List ℕ) (g : ℕ) (s₀ : Strips) (e lo hi : ℕ) (s : Strips) : Type 0 where
  pub advancing : Advancing n ws layers ends g e lo hi s₀.counts.now s.counts.now s₀.covers.now s.covers.now
  pub lent : Lent s₀ s

pub strips_laws : StepLaws (λ n ws layers ends g (s : Strips). AdvanceOk n ws layers ends g s.counts.now s.covers.now) (λ n w layers ends (s : Strips). PassOk n w layers ends s.counts.now s.covers.now) StripsPassed StripsHeld
strips_laws = record {
  some = λ n ws layers ends g s₀ ok. ok.some;
  start = λ n ws layers ends g s₀ ok. record { advancing = advance_start ok; lent = (refl, refl) };
  asks = λ n ws layers ends g s₀ ok e lo hi s h u. advance_pass ok h.advancing u;
  turn = λ n ws layers ends g s₀ ok e lo hi s h u s' r d y lo' hi' p q. record {
    advancing = advance_turn ok h.advancing u d.passed lo' hi' _ p q y refl;
    lent = lent_on h.lent d.lent;
  };
}
