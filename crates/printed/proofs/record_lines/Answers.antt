use mathlib.Core.Path.{◌≡◌, refl, sym, ap, ◌∙◌}
use mathlib.Core.List.{List, [], ◌∷◌, ◌++◌}
use native.Mathlib.Omega.{arith}
use borrow.Author.Rules.{rules}
use lib.IntN.{ℤ}
use lib.ListN.{length, length-append}
use Rattle.std.specs.Slice.Iter.{chunks_exact_rest}
use Rattle.numerals.specs.Stored.{stored_none, stored_then, stored_as}
use Rattle.printed_laws.specs.Lines.{line_at, number_lines, lines_none}
use Rattle.printed.proofs.record_lines.Goals as goal

first_line : (r ns : List ℤ) → length r ≡ 4 → number_lines (r ++ ns) ≡ line_at r 0 ++ number_lines ns
unfolding number_lines line_at
first_line [] ns h = absurd (omega arith)
first_line (a ∷ []) ns h = absurd (omega arith)
first_line (a ∷ b ∷ []) ns h = absurd (omega arith)
first_line (a ∷ b ∷ c ∷ []) ns h = absurd (omega arith)
first_line (a ∷ b ∷ c ∷ d ∷ []) ns h = refl
first_line (a ∷ b ∷ c ∷ d ∷ e ∷ r) ns h = absurd (omega arith)

pub loop-r-preserved : goal.loop-r-preserved
loop-r-preserved c =
    let i = c.loop-r.invariant in
    let s = c.in-Some.ensures.steps in
    let four : length c.in-Some.r.now ≡ 4 = s.1.1 ∙ i.fours in
    record {
      fours = s.0 ∙ i.fours;
      room = omega (arith, ap length s.1.0 ∙ length-append c.in-Some.r.now (chunks_exact_rest c.next.new.self));
      long = search rules;
      left = λ after rest. i.left after (stored_as (sym (ap number_lines s.1.0 ∙ first_line _ _ four)) (stored_then c.record_line.ensures.stored rest));
    }

pub returns-clause-stored : goal.returns-clause-stored
returns-clause-stored c =
    let i = c.loop-r.invariant in
    i.left _ (stored_as (sym (lines_none _ 0 (omega (arith, c.in-None.ensures.steps.1.0)))) (stored_none _))
