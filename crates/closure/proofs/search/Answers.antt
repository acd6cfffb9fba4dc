-- `closure::search` meets its contract. Assumes nothing.
use Rattle.std.proofs.Common.{◌≡◌, ℕ, ◌<◌, Some, None, rules, tests}
use Rattle.std.proofs.lemmas.Iterator.{first_from_Range}
use Rattle.strips.specs.Rows.{row_at}
use Rattle.closure.specs.Testing.{UnevenRow}
use Rattle.closure.specs.TestLaws.{told_yes, told_no, first_open, none_open}
use Rattle.closure.proofs.search.Goals as goal

pub returns-in-Some : goal.returns-in-Some
returns-in-Some c =
    let n = c.args.n in
    let cs = c.args.c.now in
    first_open n cs (first_from_Range _ _ _ (Some c.in-Some.rank) (UnevenRow n cs) (λ x. (l : ℕ) → l < 8 → row_at n cs l x ≡ 8192) c.in-Some.ensures.ran (λ x q k. search (rules, tests, told_no)) (λ x q k. search (rules, tests, told_yes)))

pub returns-in-None : goal.returns-in-None
returns-in-None c =
    let n = c.args.n in
    let cs = c.args.c.now in
    none_open n cs (first_from_Range _ _ _ None (UnevenRow n cs) (λ x. (l : ℕ) → l < 8 → row_at n cs l x ≡ 8192) c.in-None.ensures.ran (λ x q k. search (rules, tests, told_no)) (λ x q k. search (rules, tests, told_yes)))
