-- The answer that a call gives, as the paper's number and value.
--
--   said r       the number and the value of r
--   said_same    two answers that say the same are the same
use Rattle.std.specs.Prelude.{◌≡◌}
use Rattle.std.proofs.Common.{ap}
use Rattle.meaning.specs.Answers.{Answer, answer}
use Rattle.answers.specs.declared.Answer.{Answer as Given}

abbrev pub said : Given → Answer
said r = answer r.number r.value

pub said_same : (r s : Given) → said r ≡ said s → r ≡ s
said_same r s e = ap (λ (a : Answer). record { number = a.number; value = a.value }) e
