use mathlib.Core.Path.{sym}
use mathlib.Core.List.{List, ◌++◌}
use Prim.Native.Nat.{ℕ, ◌<◌}
use native.Mathlib.Omega.{arith}
use lib.IntN.{ℤ}
use lib.Signed.{mag}
use mir.Syntax.{w32}
use mir.Val.{to_z, of_z}
use Rattle.meaning.specs.Printed.{signed_text}
use Rattle.basic_laws.specs.Signed.{read32}
use Rattle.numerals.specs.declared.Writer.{Writer}
use Rattle.numerals.specs.Stored.{Stored, stored_then, stored_as}
use Rattle.printed_laws.proofs.Lines.{record_words}
use Rattle.printed.proofs.record_line.Goals as goal

-- a number that was handed on as its bits
held : {a b : Writer} (t : List ℕ) (z : ℤ) → Stored a (signed_text (to_z w32 (of_z w32 z)) ++ t) b → mag z < 2147483648 → Stored a (signed_text z ++ t) b
held t z p h = rw (read32 z h) at p

pub returns-clause-stored : goal.returns-clause-stored
returns-clause-stored c =
    stored_as (sym (record_words _ 0))
    (stored_then (held _ _ c.item.ensures.stored (omega arith))
    (stored_then (held _ _ c.item-2.ensures.stored (omega arith))
    (stored_then (held _ _ c.item-3.ensures.stored (omega arith)) (held _ _ c.item-4.ensures.stored (omega arith)))))
