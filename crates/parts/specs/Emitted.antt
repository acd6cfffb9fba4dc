-- Records written where there is room: what comes to stand there, and the rest as it was. Assumes nothing.
use Rattle.std.specs.Prelude.{◌≡◌, List, ◌++◌, ℕ, ◌+◌, ◌*◌, ◌-◌, ◌≤◌, ℤ, length, take, drop}
use Rattle.std.proofs.Common.{sym, ap, ◌∙◌, append_assoc, arith, length-append, length-drop, take-append-drop, take_at, drop_at, drop-drop, length-take-le}
use Rattle.meaning.specs.Records.{Record}
use Rattle.records.specs.Put.{numbers, emitted}
use Rattle.records.specs.Emitting.{length_numbers, emitted_from}

module _ (out : List ℤ) (n : ℕ) (rs : List (Record ℕ)) (room : 4 * (n + length rs) ≤ length out) where
  abbrev p : List ℤ
  p = take (4 * n) out

  long_p : length p ≡ 4 * n
  long_p = length-take-le (4 * n) out (omega arith)

  pub emitted_is : emitted out n rs ≡ (take (4 * n) out ++ numbers rs) ++ drop (4 * (n + length rs)) out
  emitted_is =
      let e : 4 * n + length rs * 4 ≡ 4 * (n + length rs) = omega arith in
      ap (λ o. emitted o n rs) (sym (take-append-drop (4 * n) out))
      ∙ emitted_from p (drop (4 * n) out) n rs (omega (arith, long_p)) (omega (arith, length-drop (4 * n) out))
      ∙ ap (λ o. p ++ (numbers rs ++ o)) (drop-drop (length rs * 4) (4 * n) out ∙ ap (λ m. drop m out) e)
      ∙ sym (append_assoc p (numbers rs) (drop (4 * (n + length rs)) out))

  long_front : length (p ++ numbers rs) ≡ 4 * (n + length rs)
  long_front = length-append p (numbers rs) ∙ omega (arith, long_p, length_numbers rs)

  pub emitted_front : take (4 * (n + length rs)) (emitted out n rs) ≡ take (4 * n) out ++ numbers rs
  emitted_front = ap (take (4 * (n + length rs))) emitted_is ∙ take_at (p ++ numbers rs) (drop (4 * (n + length rs)) out) (4 * (n + length rs)) long_front

  pub emitted_past : (h : ℕ) → n + length rs ≤ h → drop (4 * h) (emitted out n rs) ≡ drop (4 * h) out
  emitted_past h l =
      let k : ℕ = 4 * (n + length rs) in
      let j : ℕ = 4 * h - 4 * (n + length rs) in
      let e : 4 * (n + length rs) + (4 * h - 4 * (n + length rs)) ≡ 4 * h = omega arith in
      ap (λ m. drop m (emitted out n rs)) (sym e)
      ∙ sym (drop-drop j k (emitted out n rs))
      ∙ ap (drop j) (ap (drop k) emitted_is ∙ drop_at (p ++ numbers rs) (drop (4 * (n + length rs)) out) k long_front)
      ∙ drop-drop j k out
      ∙ ap (λ m. drop m out) e
