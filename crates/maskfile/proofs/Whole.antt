-- The edition of a file. Assumes nothing.
--
--   edition_refused, edition_other, edition_one   the outcome by the edition
--   begins_one     what follows the edition 1
use mathlib.Core.Path.{◌≡◌, refl, sym, ap, ◌∙◌}
use mathlib.Core.Logic.{◌⊎◌, inl, inr}
use mathlib.Core.List.{List, ◌++◌}
use Prim.Native.Nat.{ℕ, ◌+◌, ◌≤◌}
use native.Mathlib.Omega.{arith}
use lib.IntN.{ℤ}
use lib.ListN.{length, drop, length-append}
use lib.Seq.{drop_at}
use Rattle.meaning.specs.Numbers.{limit}
use Rattle.std.specs.Prelude.{Err}
use Rattle.meaning.specs.Answers.{Answer, ends_inside, bad_number, other_edition}
use Rattle.answers.specs.Told.{answer_of}
use Rattle.answers.specs.declared.Refusal.{Refusal}
use Rattle.answers.specs.declared.Refusal.TheVariants.{EndsInside, BadNumber, OtherEdition}
use Rattle.meaning.specs.MaskFile.{spelt, five, Stands, Cut, NotShortest, TooLong}
use Rattle.meaning.specs.Faults.{FileFault}
use Rattle.ring_laws.specs.Groups.{Front, cut, bad, number, front, Bytes, Found, clash, number_front, cut_front, bad_front, front_cut, front_bad}
use Rattle.ring_laws.specs.Meet.{stands_front}
use Rattle.ring_laws.specs.Calls.{some}
use Rattle.numbers.specs.Reading.{Reading, Value, reading}
use Rattle.reading_laws.specs.Judging.{same_read}
use Rattle.reading_laws.specs.OutcomeLaws.{refuses}
use Rattle.maskfile.specs.Outcome.{RingsOutcome, FileOutcome}

-- ---- the edition

module _ (f : List ℕ) (out : List ℤ) (r : Reading) (e : r ≡ reading (length f) 0 0 (front five f)) where
  pub edition_refused : (g : Refusal) (after : List ℤ) → r ≡ Err g → FileOutcome f out r after
  unfolding reading
  edition_refused g after q = inl (record { refusal = g; is = q; fault = go (front five f) refl (sym e ∙ q) })
    where
      go : (fr : Front) → front five f ≡ fr → reading (length f) 0 0 fr ≡ Err g → FileFault five limit f (answer_of g)
      go cut x w = let i : g ≡ EndsInside (length f) = cc in rw i (inl (cut_front five f x, refl))
      go bad x w = let i : g ≡ BadNumber 0 = cc in rw i (inr (λ a j. clash (cc (x, front_cut five f j.0)), inl (bad_front five f x, refl)))
      go (number v c) x w = clash (cc)

  module _ (v next : ℕ) (h : Bytes f) (q : r ≡ Value v next) where
    found : (c : ℕ) × (front five f ≡ number v c) × (next ≡ c)
    unfolding reading
    found = go (front five f) refl (sym e ∙ q)
      where
        go : (fr : Front) → front five f ≡ fr → reading (length f) 0 0 fr ≡ Value v next → (c : ℕ) × (front five f ≡ number v c) × (next ≡ c)
        go cut x w = clash (cc)
        go bad x w = clash (cc)
        go (number u c) x w =
            let i = same_read u (0 + c) v next w in
            (c, x ∙ ap (λ (k : ℕ). number k c) i.0, omega arith)

    here : Found five f v found.0
    here = number_front five f v found.0 h found.1

    not_cut : (a : Answer) → Cut five f × (a ≡ ends_inside (length f)) → ⊥
    not_cut a j = clash (cc (found.1, front_cut five f j.0))

    not_bad : (a : Answer) → (TooLong five f ⊎ NotShortest five f) × (a ≡ bad_number 0) → ⊥
    not_bad a j = clash (cc (found.1, front_bad five f j.0))

    pub edition_other : (after : List ℤ) → (v ≡ 1 → ⊥) → FileOutcome f out (Err OtherEdition) after
    edition_other after n =
        inl (refuses answer_of (FileFault five limit f) OtherEdition (inr (not_cut, inr (not_bad, inl ((v, record { rest = here.rest; is = here.is; fits = here.fits }, n), refl)))))

    pub begins_one : v ≡ 1 → (next ≡ length (spelt five 1)) × ((f ≡ spelt five 1 ++ drop next f) × (next ≤ length f))
    begins_one i =
        let k : next ≡ length (spelt five 1) = found.2 ∙ here.long ∙ ap (λ (u : ℕ). length (spelt five u)) i in
        let g : f ≡ spelt five 1 ++ here.rest = here.is ∙ ap (λ (u : ℕ). spelt five u ++ here.rest) i in
        let d : drop next f ≡ here.rest = ap (drop next) g ∙ drop_at (spelt five 1) here.rest next (sym k) in
        (k, (g ∙ ap (λ (l : List ℕ). spelt five 1 ++ l) (sym d), omega (arith, k, ap length g, length-append (spelt five 1) here.rest)))

    pub edition_one : (a : Reading) (after : List ℤ) → v ≡ 1 → RingsOutcome f out a after → FileOutcome f out a after
    edition_one a after i (inl x) =
        inl (record { refusal = x.refusal; is = x.is; fault = inr (not_cut, inr (not_bad, inr (other, x.fault))) })
      where
        other : (b : Answer) → ((u : ℕ) × Stands five u f × (u ≡ 1 → ⊥)) × (b ≡ other_edition) → ⊥
        other b j =
            let k : number j.0.0 (length (spelt five j.0.0)) ≡ number v found.0 = sym (stands_front five limit some j.0.1) ∙ found.1 in
            let l : j.0.0 ≡ v = cc in
            j.0.2 (l ∙ i)
    edition_one a after i (inr x) = inr x
