-- The texts of the spot checks, with their answers: those of document 01's examples and more. They are checked in proofs/Spots.antt.
--
--   spots         texts and their answers
--   Right xs      each answer of xs is the one that the table of refusals gives
use Rattle.std.specs.Prelude.{List, [], ◌∷◌, ℕ}
use Rattle.meaning.specs.Answers.{Answer, accepted, expression_length, too_deep, not_in_grammar, holds_on_nothing}
use Rattle.meaning.specs.Expression.{bytes, Judged}

pub record Spot : Type 0 where
  pub text : List ℕ
  pub answer : Answer

abbrev spot : List ℕ → Answer → Spot
spot s r = record { text = s; answer = r }

abbrev pub spots : List Spot
unfolding bytes
spots =
    -- 5
    spot (bytes "!a") holds_on_nothing
    ∷ spot (bytes "a+!a") holds_on_nothing
    ∷ spot (bytes "!a*b") (accepted 0)
    -- 6
    ∷ spot (bytes "()") not_in_grammar
    -- 12
    ∷ spot (bytes "((((((((((((((((a))))))))))))))))") (accepted 0)
    ∷ spot (bytes "(((((((((((((((((a)))))))))))))))))") too_deep
    -- 14
    ∷ spot (bytes "a+a+a+a+a+a+a+a+a+a+a+a+a+a+a+a+a+a+a+a+a+a+a+a+a+a+a+a+a+a+a+a+a") expression_length
    -- a beginning is counted from the front, and the whole text is one
    ∷ spot [] expression_length
    ∷ spot (bytes ")(((((((((((((((((") not_in_grammar
    ∷ spot (bytes "(((((((((((((((((") too_deep
    ∷ spot (bytes "a b") not_in_grammar
    ∷ spot (bytes "a*") not_in_grammar
    ∷ spot (bytes "i") not_in_grammar
    ∷ []

abbrev pub Right : List Spot → Type 0
Right [] = Unit {0}
Right (x ∷ xs) = Judged x.text x.answer × Right xs
