-- What the piece of a whole text says. Assumes nothing.
--
--   of_refused      a refusal: the text is not in the grammar
--   of_got          a value: the text has it
--   at_nothing      the value at the byte 0 is that where nothing covers
use mathlib.Core.Path.{◌≡◌, sym, ap, subst, ◌∙◌}
use mathlib.Core.Logic.{inl, inr}
use Rattle.std.specs.Prelude.{Some, None}
use mathlib.Core.Bool.{Bool}
use mathlib.Core.List.{List}
use Prim.Native.Nat.{ℕ}
use lib.ListN.{length}
use native.Mathlib.Omega.{arith}
use Rattle.meaning.specs.Answers.{Answer}
use Rattle.meaning.specs.Expression.{Handed, nothing, InGrammar, Means}
use Rattle.expression_laws.specs.Cover.{cover_of}
use Rattle.expression_laws.specs.Covers.{no_cover}
use Rattle.readers.specs.Pieces.{Piece, answer_of, Whole}

module _ (h : Handed) (s : List ℕ) where
  pub of_refused : {x : Piece} → Whole s h x → x ≡ None → InGrammar s → ⊥
  of_refused (inl y) r = y.0
  of_refused (inr y) r = let z : ◌≡◌ {A = ℕ} 0 1 = cc y.2 in absurd (omega arith)

  pub of_got : {x : Piece} {v : Bool} {i : ℕ} → Whole s h x → x ≡ Some (v, i) → Means s h v
  of_got {v = v} {i = i} (inl y) r =
      let n : ◌≡◌ {A = ℕ} 0 8 = ap (λ (a : Answer). a.number) (ap answer_of (sym r) ∙ y.1) in absurd (omega arith)
  of_got {v = v} {i = i} (inr y) r = let k : ◌≡◌ {A = Bool × ℕ} (y.0, length s) (v, i) = cc y.2 in let e : y.0 ≡ v = ap (λ (p : Bool × ℕ). p.0) k in subst (Means s h) e y.1

pub at_nothing : (s : List ℕ) {x : Piece} {v w : Bool} {i : ℕ} → Whole s (cover_of 0) x → x ≡ Some (v, i) → v ≡ w → Means s nothing w
at_nothing s m r e = no_cover (subst (Means s (cover_of 0)) e (of_got (cover_of 0) s m r))
