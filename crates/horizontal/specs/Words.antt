-- A horizontal record by ranks as one word. Assumes nothing.
--
--   up_from a n                     the n numbers from a on: up_from 0 n are the ranks below n
--   on_level vx r                   the record in steps of a horizontal by ranks in the rising list vx of all x
--   Ranks n r                      both ends of r are ranks below n
--   packed y f t                   the word of the horizontal at y, in steps, from rank f to rank t
--   height_of w, from_of w, to_of w   what it holds
--   level_of w                      the record, by ranks
--   word_of r                       the word of a record, by ranks
--   level_packed   a word holds what it was made of
use Rattle.std.specs.Prelude.{◌≡◌, List, [], ◌∷◌, ℕ, zero, suc, ◌+◌, ◌*◌, ◌/◌, ◌%◌, ◌<◌, get_or}
use Rattle.std.proofs.Common.{ap, ap₂, ◌∙◌, arith}
use Rattle.meaning.specs.Records.{Record, rec}

unfoldable pub up_from : ℕ → ℕ → List ℕ
up_from a zero = []
up_from a (suc n) = a ∷ up_from (suc a) n

abbrev pub on_level : List ℕ → Record ℕ → Record ℕ
on_level vx (rec k y f t) = rec k y (get_or vx f 0) (get_or vx t 0)

abbrev pub Ranks : ℕ → Record ℕ → Type 0
Ranks n (rec k y f t) = (f < n) × (t < n)

abbrev pub packed : ℕ → ℕ → ℕ → ℕ
packed y f t = y * 67108864 + f * 8192 + t

abbrev pub height_of : ℕ → ℕ
height_of w = w / 67108864

abbrev pub from_of : ℕ → ℕ
from_of w = w / 8192 % 8192

abbrev pub to_of : ℕ → ℕ
to_of w = w % 8192

abbrev pub level_of : ℕ → Record ℕ
level_of w = rec 0 (height_of w) (from_of w) (to_of w)

unfoldable pub word_of : Record ℕ → ℕ
word_of (rec k y f t) = packed y f t

same_parts : (y y' f f' t t' : ℕ) → y ≡ y' → f ≡ f' → t ≡ t' → rec 0 y f t ≡ rec 0 y' f' t'
same_parts y y' f f' t t' a b c = ap₂ (λ (u v : ℕ). rec 0 u v t) a b ∙ ap (rec 0 y' f') c

pub level_packed : (y f t : ℕ) → f < 8192 → t < 8192 → level_of (packed y f t) ≡ rec 0 y f t
level_packed y f t hf ht = same_parts (packed y f t / 67108864) y (packed y f t / 8192 % 8192) f (packed y f t % 8192) t (omega arith) (omega arith) (omega arith)
