-- `closure::even_at` meets its contract. Assumes nothing.
use Rattle.std.proofs.Common.{◌≡◌, refl, rules, tests}
use Rattle.std.proofs.lemmas.Iterator.{cases_from_all, serves_from_Range, YieldsList-from_range}
use Rattle.strips.specs.Rows.{row_at}
use Rattle.closure.specs.TestLaws.{layers_told, layer_rows, layer_small}
use Rattle.closure.proofs.even_at.Goals as goal

pub all-requires-clause-callable : goal.all-requires-clause-callable
all-requires-clause-callable c =
    serves_from_Range (λ l q k. search (rules, tests))
    (λ l low high. let fits = layer_rows c.requires.0 l high in let small = layer_small c.requires.0 l high in search rules)

pub returns : goal.returns
returns c =
    let n = c.args.n in
    let cs = c.args.c.now in
    let x = c.args.x in
    layers_told n cs x c.all.result
    (cases_from_all _ _ _ (λ l. row_at n cs l x ≡ 8192) (λ l. row_at n cs l x ≡ 8192 → ⊥) c.all.ensures.ran (YieldsList-from_range 0 8 8 refl refl)
    (λ l q k. search (rules, tests)) (λ l q k. search (rules, tests)))
