-- What a reader's answer stands for: "either a value with the place after it, or a refusal".
--
--   answer_of r          the number and the value of a piece: 0 with the bytes read, or 8
--   Whole s h r         r is the piece of the whole text s where h is handed
--
-- By these the readers are proved:
--
--   piece_of h x         what was read as x, as a piece: the value is that of the expression where h is handed
--   reads_as h s p at    the part p of the text s, read from the place at, as a piece
use Rattle.std.specs.Prelude.{◌≡◌, ◌⊎◌, Bool, Option, Some, None, List, ℕ, length}
use Rattle.meaning.specs.Answers.{Answer, accepted, not_in_grammar, given}
use Rattle.meaning.specs.Expression.{Handed, eval, InGrammar, Means}
use Rattle.expression_laws.specs.Reader.{Read, got, refused, Part, reads}

abbrev pub Piece : Type 0
Piece = Option (Bool × ℕ)

abbrev pub answer_of : Piece → Answer
answer_of (Some (v, i)) = accepted i
answer_of None = not_in_grammar

-- refused exactly when the text is not in the grammar; else its value with the place after it
abbrev pub Whole : List ℕ → Handed → Piece → Type 0
Whole s h r = given (InGrammar s → ⊥) not_in_grammar (answer_of r) ⊎ ((v : Bool) × Means s h v × (r ≡ Some (v, length s)))

abbrev pub piece_of : Handed → Read → Piece
piece_of h (got e i) = Some (eval h e, i)
piece_of h refused = None

unfoldable pub reads_as : Handed → List ℕ → Part → ℕ → Piece
reads_as h s p at = piece_of h (reads s p at)
