-- `closure::all_even` meets its contract. Assumes nothing.
use Rattle.std.proofs.Common.{refl, rules, tests}
use Rattle.std.proofs.lemmas.Iterator.{cases_from_all, serves_from_Range, YieldsList-from_range}
use Rattle.closure.specs.TestLaws.{layer_rows, layer_small, NoneUneven, layers_even}
use Rattle.closure.proofs.all_even.Goals as goal

pub all-requires-clause-callable : goal.all-requires-clause-callable
all-requires-clause-callable c =
    serves_from_Range (λ l q k. search (rules, tests))
    (λ l low high. let fits = layer_rows c.requires l high in let small = layer_small c.requires l high in search rules)

pub returns : goal.returns
returns c =
    layers_even c.requires c.all.result
    (cases_from_all _ _ _ (NoneUneven c.args.n c.args.nx c.args.c.now) (λ _. Unit {0}) c.all.ensures.ran (YieldsList-from_range 0 8 8 refl refl)
    (λ l q k. search (rules, tests)) (λ l q k. tt))
