-- Verdicts on one text that meet the contract of `judge` are equal. (For `table` that is `one_table` of the laws of covers.) Assumes nothing.
use Rattle.std.specs.Prelude.{◌≡◌, refl, List, ℕ, Result}
use Rattle.answers.specs.declared.Refusal.{Refusal}
use Rattle.answers.specs.Told.{verdict, verdict_same}
use Rattle.meaning.specs.Expression.{Judged}
use Rattle.expression_laws.specs.Judging.{one_judgement}

pub one_verdict : (s : List ℕ) (v w : Result (Unit {0}) Refusal) → Judged s (verdict v) → Judged s (verdict w) → v ≡ w
one_verdict s v w a b = verdict_same (λ x y. refl) v w (one_judgement s (verdict v) (verdict w) a b)
