use mathlib.Core.Path.{subst}
use borrow.Author.Rules.{rules}
use native.Mathlib.Omega.{arith}
use Rattle.std.specs.Prelude.{◌<◌, ◌^◌}
use Rattle.meaning.specs.Printed.{first_line}
use Rattle.answers.specs.Said.{said}
use Rattle.printed_laws.specs.Lengths.{refused_length}
use Rattle.printed_laws.specs.Stores.{Front, at_front}
use Rattle.printed.proofs.refused.Goals as goal

pub first_line-requires : goal.first_line-requires
first_line-requires c =
    let n : c.args.given.number < 2 ^ 64 = search rules in
    let v : c.args.given.value < 2 ^ 64 = search rules in
    omega (arith, refused_length _ _ n v)

pub returns : goal.returns
returns c =
    let n : c.args.given.number < 2 ^ 64 = search rules in
    let v : c.args.given.value < 2 ^ 64 = search rules in
    subst (λ after. Front c.args.out.now (first_line (said c.args.given)) after c.first_line.new.to.at) (search rules)
    (at_front c.first_line.ensures.written (omega (arith, refused_length _ _ n v)))
