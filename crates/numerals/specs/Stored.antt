-- Texts that a Writer has stored, one after the other. Assumes nothing.
--
--   Stored before text after   the text stands in the lent buffer from the place of `before` on, and `after` has the place after it
--   stored_none, stored_then, stored_as   no text, a text after another, and the same text, written otherwise
use Rattle.std.specs.Prelude.{◌≡◌, refl, List, [], ◌++◌, ℕ, length}
use Rattle.std.proofs.Common.{◌∙◌}
use Rattle.printed_laws.specs.Stores.{Written, nothing, and_then, as_text}
use Rattle.numerals.specs.declared.Writer.{Writer}

-- the buffer is the same one and as long
pub record Stored (before : Writer) (text : List ℕ) (after : Writer) : Type 0 where
  pub buffer : after.out.ghost_name ≡ before.out.ghost_name
  pub long : length after.out.now ≡ length before.out.now
  pub written : Written before.out.now before.at text after.out.now after.at

pub stored_none : (a : Writer) → Stored a [] a
stored_none a = record { buffer = refl; long = refl; written = nothing _ _ }

pub stored_then : {a b c : Writer} {s t : List ℕ} → Stored a s b → Stored b t c → Stored a (s ++ t) c
stored_then p q = record { buffer = q.buffer ∙ p.buffer; long = q.long ∙ p.long; written = and_then p.written q.written }

pub stored_as : {a b : Writer} {s t : List ℕ} → s ≡ t → Stored a s b → Stored a t b
stored_as e p = record { buffer = p.buffer; long = p.long; written = as_text e p.written }
