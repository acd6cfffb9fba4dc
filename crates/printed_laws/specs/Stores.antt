-- Texts stored in a buffer one after the other. Assumes nothing.
--
--   Written before at text after next   the buffer `before` has become `after` by storing `text` from the place `at` on, and `next` is the place after it
--   one_writing                         such a buffer and such a place are the only ones
--   nothing, one_byte, and_then         no text, a byte, and a text after another
--   as_text                             the same text, written otherwise
--   Front before text after n           the n bytes of `text` stand at the front of `after`, and then what stood in `before`; there was room for them
--   one_front                           such a buffer and such a length are the only ones
--   at_front                            a text from place 0 on
use Rattle.std.specs.Prelude.{◌≡◌, refl, List, [], ◌∷◌, ◌++◌, ℕ, ◌+◌, ◌≤◌, length, drop, set}
use Rattle.std.proofs.Common.{sym, ◌∙◌, subst, arith, zero-add, add-zero, length-append}
use Rattle.std.proofs.lemmas.List.Edits.{sets, sets-eq}
use Rattle.basic_laws.specs.Stores.{sets_append}

pub record Written (before : List ℕ) (at : ℕ) (text after : List ℕ) (next : ℕ) : Type 0 where
  pub buffer : after ≡ sets before at text
  pub place : next ≡ at + length text

pub one_writing : {l t m n : List ℕ} {i j k : ℕ} → Written l i t m j → Written l i t n k → (m ≡ n) × (j ≡ k)
one_writing p q = (p.buffer ∙ sym q.buffer, p.place ∙ sym q.place)

pub nothing : (l : List ℕ) (i : ℕ) → Written l i [] l i
nothing l i = record { buffer = refl; place = sym (add-zero i) }

pub one_byte : (l : List ℕ) (i b : ℕ) → Written l i (b ∷ []) (set l i b) (i + 1)
one_byte l i b = record { buffer = refl; place = refl }

pub and_then : {l m n s t : List ℕ} {i j k : ℕ} → Written l i s m j → Written m j t n k → Written l i (s ++ t) n k
and_then {l} {m} {n} {s} {t} {i} {j} {k} p q = record {
  buffer = q.buffer ∙ rw (p.buffer, p.place) (sets_append s t l i);
  place = rw length-append (omega (arith, p.place, q.place));
}

pub as_text : {l m s t : List ℕ} {i j : ℕ} → s ≡ t → Written l i s m j → Written l i t m j
as_text {l} {m} {s} {t} {i} {j} e p = subst (λ (u : List ℕ). Written l i u m j) e p

pub record Front (before text after : List ℕ) (n : ℕ) : Type 0 where
  pub buffer : after ≡ text ++ drop (length text) before
  pub size : n ≡ length text
  pub room : n ≤ length before

pub one_front : {l t m n : List ℕ} {j k : ℕ} → Front l t m j → Front l t n k → (m ≡ n) × (j ≡ k)
one_front p q = (p.buffer ∙ sym q.buffer, p.size ∙ sym q.size)

pub at_front : {l m t : List ℕ} {k : ℕ} → Written l 0 t m k → k ≤ length l → Front l t m k
at_front {l} {m} {t} {k} p h = record {
  buffer = p.buffer ∙ sets-eq t l 0 (omega (arith, p.place)) ∙ rw zero-add;
  size = omega (arith, p.place);
  room = h;
}
