-- Decimal numbers have no leading zeros. Assumes nothing.
--
--   only_decimal      `decimal n` is the only text of the value n in decimal without leading zeros
use Rattle.std.specs.Prelude.{◌≡◌, List, [], ◌∷◌, ◌++◌, ℕ, ◌+◌, ◌*◌, ◌/◌, ◌%◌}
use Rattle.std.proofs.Common.{sym, ap, ◌∙◌, arith}
use Rattle.meaning.specs.Printed.{digit, decimal}
use Rattle.printed_laws.specs.Decimals.{Decimal, decimal_large, decimal_small, more, one}

pub only_decimal : {n : ℕ} {t : List ℕ} → Decimal n t → t ≡ decimal n
only_decimal (one {d} h) = sym (decimal_small d h)
only_decimal (more {n} {d} {t} p h before) =
    let q : (10 * n + d) / 10 ≡ n = omega arith in
    let r : (10 * n + d) % 10 ≡ d = omega arith in
    ap (λ (u : List ℕ). u ++ (digit d ∷ [])) (only_decimal before)
    ∙ sym (decimal_large (10 * n + d) (omega arith) ∙ rw (q, r))
