-- How often a byte stands in a text, and beginnings that are not too deep. Assumes nothing.
--
--   often_append    in two texts one after the other
--   often_more      in a beginning that is one byte longer
--   often_passed    a beginning that has not the byte, and one byte more that is another
--   often_found     a text that has the byte at a place has it
--   Shallow s i     no beginning of up to i bytes is too deep
use Rattle.std.specs.Prelude.{◌≡◌, List, [], ◌∷◌, ◌++◌, ℕ, zero, suc, ◌+◌, ◌≤◌, ◌<◌, eqb, length, get_or, take, drop}
use Rattle.std.proofs.Common.{ap, ⊎_elim, eq-or-lt_of_le, add-one, arith, take-append-drop, take-suc, eq-eqb, ne_eqb}
use Prim.Native.Char.{code}
use Rattle.meaning.specs.Numbers.{bit}
use Rattle.meaning.specs.Expression.{often, Deep}
use Rattle.meaning.specs.Edges.{number}
use Rattle.basic_laws.specs.Lists.{number_append}

pub often_append : (b : ℕ) (s t : List ℕ) → often b (s ++ t) ≡ often b s + often b t
unfolding often
often_append b s t = number_append (λ x. eqb x b) s t

pub often_more : (b : ℕ) (s : List ℕ) (i : ℕ) → i < length s → often b (take (i + 1) s) ≡ often b (take i s) + bit (eqb (get_or s i 0) b)
unfolding often number
often_more b s i h = rw (add-one, take-suc s i 0) (let k = often_append b (take i s) (get_or s i 0 ∷ []) in omega arith)

pub often_passed : (b : ℕ) (s : List ℕ) (i : ℕ) → i < length s → often b (take i s) ≡ 0 → (get_or s i 0 ≡ b → ⊥) → often b (take (i + 1) s) ≡ 0
often_passed b s i h n f = let e = ap bit (ne_eqb (get_or s i 0) b f) in omega (arith, often_more b s i h)

pub often_found : (b : ℕ) (s : List ℕ) (i : ℕ) → i < length s → get_or s i 0 ≡ b → often b s ≡ 0 → ⊥
often_found b s i h q n =
    let e = ap bit (eq-eqb (get_or s i 0) b q) in
    let w = ap (often b) (take-append-drop (i + 1) s) in
    omega (arith, often_more b s i h, often_append b (take (i + 1) s) (drop (i + 1) s))

abbrev pub Shallow : List ℕ → ℕ → Type 0
Shallow s i = (k : ℕ) → k ≤ i → often (code "(") (take k s) ≤ often (code ")") (take k s) + 16

pub shallow_none : (s : List ℕ) → Shallow s 0
unfolding often number
shallow_none s zero l = omega arith
shallow_none s (suc k) l = absurd (omega arith)

pub shallow_more : (s : List ℕ) (i : ℕ) → Shallow s i → often (code "(") (take (i + 1) s) ≤ often (code ")") (take (i + 1) s) + 16 → Shallow s (i + 1)
shallow_more s i h m k l = ⊎_elim (λ e. rw e m) (λ q. h k (omega arith)) (eq-or-lt_of_le l)

pub not_deep : (s : List ℕ) (i : ℕ) → Shallow s i → length s ≤ i → Deep s → ⊥
unfolding Deep
not_deep s i h l d = let k = h d.0 (let x = d.1 in omega arith) in let y = d.2 in omega arith
