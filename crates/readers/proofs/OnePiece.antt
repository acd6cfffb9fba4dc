-- Pieces of one whole text that meet the contract of `whole` are equal. Assumes nothing.
use mathlib.Core.Path.{◌≡◌, refl, sym, ap, ◌∙◌}
use mathlib.Core.Logic.{inl, inr}
use Rattle.std.specs.Prelude.{Some, None}
use mathlib.Core.Bool.{Bool}
use mathlib.Core.List.{List}
use Prim.Native.Nat.{ℕ}
use native.Mathlib.Omega.{arith}
use lib.ListN.{length}
use Rattle.meaning.specs.Answers.{Answer, not_in_grammar}
use Rattle.meaning.specs.Expression.{Handed}
use Rattle.expression_laws.specs.Meanings.{one_value}
use Rattle.readers.specs.Pieces.{Piece, answer_of, Whole}

is_refused : (r : Piece) → answer_of r ≡ not_in_grammar → r ≡ None
is_refused (Some (v, i)) e = let n : ◌≡◌ {A = ℕ} 0 8 = ap (λ (a : Answer). a.number) e in absurd (omega arith)
is_refused None e = refl

pub one_piece : (s : List ℕ) (h : Handed) (r q : Piece) → Whole s h r → Whole s h q → r ≡ q
one_piece s h r q (inl x) (inl y) = is_refused r x.1 ∙ sym (is_refused q y.1)
one_piece s h r q (inl x) (inr y) = let m = y.1 in absurd (x.0 (m.expr, m.is))
one_piece s h r q (inr x) (inl y) = let m = x.1 in absurd (y.0 (m.expr, m.is))
one_piece s h r q (inr x) (inr y) = x.2 ∙ ap (λ (v : Bool). Some (v, length s)) (one_value s x.1 y.1) ∙ sym y.2
