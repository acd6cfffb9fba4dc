-- The answer that a call gives, as the paper's number and value.
--
--   answer_of r   the number and the value of the refusal r: the row of the table for each case
--   told a        the number and the value of the answer a: 0 with the value of what was accepted, or a refusal's
--   verdict j     the number and the value of a judgement j that finds nothing, or a refusal
--   told_same, answer_same   two answers that tell the same are the same, and two refusals; `verdict_same` is this of judgements
--   never_accepted, refusal_number   no refusal is told as accepted, and none has the number 0
use Rattle.std.specs.Prelude.{◌≡◌, refl, ℕ, eqb, Result, Ok, Err, is_ok}
use Rattle.std.proofs.Common.{sym, ap, ◌∙◌, true≢false}
use Rattle.meaning.specs.Numbers.{pick}
use Rattle.meaning.specs.Answers.{Answer, accepted, not_fours, too_many_edges, out_of_range, from_equals_to, not_closed, expression_length, too_deep, not_in_grammar, holds_on_nothing, too_little_room, file_too_long, ends_inside, bad_number, other_edition, ring_out_of_range, neighbours_equal, too_many_pairs, room_too_short}
use Rattle.answers.specs.declared.Refusal.{Refusal}
use Rattle.answers.specs.declared.Refusal.TheVariants.{NotFours, TooManyEdges, OutOfRange, FromEqualsTo, NotClosed, ExpressionLength, TooDeep, NotInGrammar, HoldsOnNothing, TooLittleRoom, FileTooLong, EndsInside, BadNumber, OtherEdition, RingOutOfRange, NeighboursEqual, TooManyPairs, RoomTooShort}

abbrev pub answer_of : Refusal → Answer
answer_of NotFours = not_fours
answer_of TooManyEdges = too_many_edges
answer_of (OutOfRange k) = out_of_range k
answer_of (FromEqualsTo k) = from_equals_to k
answer_of NotClosed = not_closed
answer_of ExpressionLength = expression_length
answer_of TooDeep = too_deep
answer_of NotInGrammar = not_in_grammar
answer_of HoldsOnNothing = holds_on_nothing
answer_of (TooLittleRoom records) = too_little_room records
answer_of FileTooLong = file_too_long
answer_of (EndsInside len) = ends_inside len
answer_of (BadNumber at) = bad_number at
answer_of OtherEdition = other_edition
answer_of (RingOutOfRange at) = ring_out_of_range at
answer_of (NeighboursEqual at) = neighbours_equal at
answer_of (TooManyPairs at) = too_many_pairs at
answer_of (RoomTooShort needed) = room_too_short needed

abbrev pub told : Result ℕ Refusal → Answer
told (Ok value) = accepted value
told (Err refusal) = answer_of refusal

abbrev pub verdict : {A : Type 0} → Result A Refusal → Answer
verdict (Ok found) = accepted 0
verdict (Err refusal) = answer_of refusal

-- ---- answers that tell the same

-- the refusal with a number and a value
refusal : ℕ → ℕ → Refusal
refusal n v =
    pick (eqb n 1) NotFours
    (pick (eqb n 2) TooManyEdges
    (pick (eqb n 3) (OutOfRange v)
    (pick (eqb n 4) (FromEqualsTo v)
    (pick (eqb n 5) NotClosed
    (pick (eqb n 6) ExpressionLength
    (pick (eqb n 7) TooDeep
    (pick (eqb n 8) NotInGrammar
    (pick (eqb n 9) HoldsOnNothing
    (pick (eqb n 10) (TooLittleRoom v)
    (pick (eqb n 11) FileTooLong
    (pick (eqb n 12) (EndsInside v)
    (pick (eqb n 13) (BadNumber v)
    (pick (eqb n 14) OtherEdition
    (pick (eqb n 15) (RingOutOfRange v)
    (pick (eqb n 16) (NeighboursEqual v)
    (pick (eqb n 17) (TooManyPairs v)
    (RoomTooShort v)))))))))))))))))

heard : Answer → Result ℕ Refusal
heard a = pick (eqb a.number 0) (Ok a.value) (Err (refusal a.number a.value))

heard_back : (r : Result ℕ Refusal) → heard (told r) ≡ r
unfolding heard refusal
heard_back (Ok value) = refl
heard_back (Err NotFours) = refl
heard_back (Err TooManyEdges) = refl
heard_back (Err (OutOfRange k)) = refl
heard_back (Err (FromEqualsTo k)) = refl
heard_back (Err NotClosed) = refl
heard_back (Err ExpressionLength) = refl
heard_back (Err TooDeep) = refl
heard_back (Err NotInGrammar) = refl
heard_back (Err HoldsOnNothing) = refl
heard_back (Err (TooLittleRoom records)) = refl
heard_back (Err FileTooLong) = refl
heard_back (Err (EndsInside len)) = refl
heard_back (Err (BadNumber at)) = refl
heard_back (Err OtherEdition) = refl
heard_back (Err (RingOutOfRange at)) = refl
heard_back (Err (NeighboursEqual at)) = refl
heard_back (Err (TooManyPairs at)) = refl
heard_back (Err (RoomTooShort needed)) = refl

pub told_same : (r s : Result ℕ Refusal) → told r ≡ told s → r ≡ s
told_same r s e = sym (heard_back r) ∙ ap heard e ∙ heard_back s

refusal_or : Refusal → Result ℕ Refusal → Refusal
refusal_or d (Ok value) = d
refusal_or d (Err r) = r

pub answer_same : (r s : Refusal) → answer_of r ≡ answer_of s → r ≡ s
unfolding refusal_or
answer_same r s e = ap (refusal_or r) (told_same (Err r) (Err s) e)

pub never_accepted : (r : Refusal) (v : ℕ) → accepted v ≡ answer_of r → ⊥
never_accepted r v e = true≢false (ap is_ok (told_same (Ok v) (Err r) e))

pub refusal_number : (r : Refusal) → (answer_of r).number ≡ 0 → ⊥
refusal_number r e = never_accepted r (answer_of r).value (sym (ap (λ (n : ℕ). record { number = n; value = (answer_of r).value }) e))

pub verdict_same : {A : Type 0} → ((x y : A) → x ≡ y) → (r s : Result A Refusal) → verdict r ≡ verdict s → r ≡ s
verdict_same one (Ok x) (Ok y) e = ap (λ z. Ok z) (one x y)
verdict_same one (Ok x) (Err s) e = absurd (never_accepted s 0 e)
verdict_same one (Err r) (Ok y) e = absurd (never_accepted r 0 (sym e))
verdict_same one (Err r) (Err s) e = ap (λ z. Err z) (answer_same r s e)
