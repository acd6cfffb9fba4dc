-- Work by parts, for texts: a part in parentheses may be replaced by a letter that the text does not use, at the cover in which the letter has the part's value; and the
-- AND and the OR of two expressions in parentheses mean and, and or. Assumes nothing.
--
--   around pre part post    pre, the part in parentheses, post
--   shorter_means           what the text means, the text with the letter means
--   longer_means            and the other way
--   shorter_accepted        where the text and the part are accepted, the text with the letter is
--   and_means, or_means     `(s)*(t)` and `(s)+(t)`
use Rattle.std.specs.Prelude.{◌≡◌, refl, Bool, true, false, ◌&&◌, ◌||◌, List, [], ◌∷◌, ◌++◌, eqb}
use Rattle.std.proofs.Common.{sym, subst, ◌∙◌, ne_eqb}
use Rattle.std.proofs.Math.Path.{ap}
use Prim.Native.Nat.{ℕ, suc, ◌+◌, ◌-◌, ◌≤◌, ◌<◌}
use Prim.Native.Char.{code}
use native.Mathlib.Omega.{arith}
use Rattle.std.proofs.Math.Decide.{dec_lt}
use Rattle.std.proofs.Math.ListN.{length, take, length-append}
use Rattle.std.proofs.lemmas.List.{take-append-le}
use Rattle.std.proofs.Math.Seq.{take-append-add}
use Rattle.meaning.specs.Numbers.{bit, pick}
use Rattle.meaning.specs.Answers.{accepted}
use Rattle.meaning.specs.Expression.{Operator, and, or, joins, Expr, joined, Handed, nothing, with_layer, eval, Level, sum, Is, a_letter, not_before, in_parentheses, one_factor, times, minus, one_product, plus, caret, Means, often, Deep, Judged}
use Rattle.meaning.specs.Edges.{number}
use Rattle.expression_laws.specs.Meanings.{one_value, means_same}
use Rattle.expression_laws.specs.Depth.{often_append}
use Rattle.expression_laws.specs.Judging.{accepted_says, says_so}
use Rattle.expression_laws.specs.Replace.{Unused, one_end, hole, fill}

abbrev pub around : List ℕ → List ℕ → List ℕ → List ℕ
around pre part post = pre ++ (code "(" ∷ (part ++ (code ")" ∷ post)))

-- ---- values

-- Where part is an expression of the value w, and the letter of the layer x stands nowhere in the text, the text means v exactly where the text with the letter in the place of
-- the parentheses means v, at the cover in which the layer x covers exactly where w holds.
module _ (h : Handed) (x : ℕ) (below : x ≤ 7) (pre part post : List ℕ) (w : Bool) (of_part : Means part h w) (free : Unused x (around pre part post)) where
  pub shorter_means : {v : Bool} → Means (around pre part post) h v → Means (pre ++ ((code "a" + x) ∷ post)) (with_layer h x w) v
  shorter_means m =
      let k = hole h x below m.is free pre (part ++ (code ")" ∷ post)) refl in
      let u = one_end part post of_part.expr of_part.is k.part k.post k.inner k.part_is k.closes in
      record {
        expr = k.outer;
        is = subst (λ (z : List ℕ). Is sum (pre ++ ((code "a" + x) ∷ z)) k.outer) (sym u.0) k.outer_is;
        value = m.value ∙ k.same ∙ ap (λ z. eval (with_layer h x z) k.outer) (ap (eval h) (sym u.1) ∙ sym of_part.value);
      }

  pub longer_means : {v : Bool} → Means (pre ++ ((code "a" + x) ∷ post)) (with_layer h x w) v → Means (around pre part post) h v
  longer_means m =
      let k = fill x part of_part.expr of_part.is m.is pre post refl in
      let n : Means (around pre part post) h (eval h k.expr) = record { expr = k.expr; is = k.is; value = refl } in
      record { expr = k.expr; is = k.is; value = one_value (pre ++ ((code "a" + x) ∷ post)) m (shorter_means n) }

-- ---- acceptance

both_balanced : (b : ℕ) (t u : List ℕ) → eqb b (code "(") ≡ false → eqb b (code ")") ≡ false → often (code "(") t ≡ often (code ")") t
    → often (code "(") u ≡ often (code ")") u → often (code "(") (t ++ (b ∷ u)) ≡ often (code ")") (t ++ (b ∷ u))
unfolding often number
both_balanced b t u x y p q =
    let m : bit (eqb b (code "(")) ≡ 0 = rw x in
    let n : bit (eqb b (code ")")) ≡ 0 = rw y in
    omega (arith, often_append (code "(") t (b ∷ u), often_append (code ")") t (b ∷ u))

balanced : {l : Level} {t : List ℕ} {e : Expr} → Is l t e → often (code "(") t ≡ often (code ")") t
unfolding often number
balanced (a_letter {l} k) = simp (ne_eqb (code "a" + l) (code "(") (λ e. omega arith), ne_eqb (code "a" + l) (code ")") (λ e. omega arith))
balanced (not_before is) = let k = balanced is in omega arith
balanced (in_parentheses {t} is) = let k = balanced is in omega (arith, often_append (code "(") t (code ")" ∷ []), often_append (code ")") t (code ")" ∷ []))
balanced (one_factor is) = balanced is
balanced (times {t} {u} p q) = both_balanced (code "*") t u refl refl (balanced p) (balanced q)
balanced (minus {t} {u} p q) = both_balanced (code "-") t u refl refl (balanced p) (balanced q)
balanced (one_product is) = balanced is
balanced (plus {t} {u} p q) = both_balanced (code "+") t u refl refl (balanced p) (balanced q)
balanced (caret {t} {u} p q) = both_balanced (code "^") t u refl refl (balanced p) (balanced q)

-- a beginning of the text with the letter is as deep as one of the text
module _ (x : ℕ) (below : x ≤ 7) (pre part post : List ℕ) (even : often (code "(") part ≡ often (code ")") part) where
  short_front : (k : ℕ) → k ≤ length pre → take k (pre ++ ((code "a" + x) ∷ post)) ≡ take k (around pre part post)
  short_front k h = take-append-le k pre ((code "a" + x) ∷ post) h ∙ sym (take-append-le k pre (code "(" ∷ (part ++ (code ")" ∷ post))) h)

  long_place : ℕ → ℕ
  long_place j = length pre + suc (length part + suc j)

  long_back : (j : ℕ) → take (long_place j) (around pre part post) ≡ pre ++ (code "(" ∷ (part ++ (code ")" ∷ take j post)))
  unfolding long_place
  long_back j =
      take-append-add pre (code "(" ∷ (part ++ (code ")" ∷ post))) (suc (length part + suc j))
      ∙ ap (λ z. pre ++ (code "(" ∷ z)) (take-append-add part (code ")" ∷ post) (suc j))

  short_back : (j : ℕ) → take (length pre + suc j) (pre ++ ((code "a" + x) ∷ post)) ≡ pre ++ ((code "a" + x) ∷ take j post)
  short_back j = take-append-add pre ((code "a" + x) ∷ post) (suc j)

  same_depth : (j : ℕ)
      → often (code "(") (pre ++ ((code "a" + x) ∷ take j post)) + often (code ")") (pre ++ (code "(" ∷ (part ++ (code ")" ∷ take j post))))
      ≡ often (code ")") (pre ++ ((code "a" + x) ∷ take j post)) + often (code "(") (pre ++ (code "(" ∷ (part ++ (code ")" ∷ take j post))))
  unfolding often number
  same_depth j =
      let o : bit (eqb (code "a" + x) (code "(")) ≡ 0 = simp (ne_eqb (code "a" + x) (code "(") (λ e. omega arith)) in
      let c : bit (eqb (code "a" + x) (code ")")) ≡ 0 = simp (ne_eqb (code "a" + x) (code ")") (λ e. omega arith)) in
      omega (
        arith,
        often_append (code "(") pre ((code "a" + x) ∷ take j post),
        often_append (code ")") pre ((code "a" + x) ∷ take j post),
        often_append (code "(") pre (code "(" ∷ (part ++ (code ")" ∷ take j post))),
        often_append (code ")") pre (code "(" ∷ (part ++ (code ")" ∷ take j post))),
        often_append (code "(") part (code ")" ∷ take j post),
        often_append (code ")") part (code ")" ∷ take j post),
      )

  shorter_flat : (Deep (around pre part post) → ⊥) → Deep (pre ++ ((code "a" + x) ∷ post)) → ⊥
  unfolding Deep long_place
  shorter_flat flat d = go (dec_lt (length pre) d.0)
    where
      sizes : length (around pre part post) ≡ length pre + suc (length part + suc (length post))
      sizes = omega (arith, length-append pre (code "(" ∷ (part ++ (code ")" ∷ post))), length-append part (code ")" ∷ post))

      size : length (pre ++ ((code "a" + x) ∷ post)) ≡ length pre + suc (length post)
      size = length-append pre ((code "a" + x) ∷ post)

      back : (j : ℕ) → d.0 ≡ length pre + suc j → ⊥
      back j q =
          let h = d.2 in
          let l = d.1 in
          let a : often (code ")") (pre ++ ((code "a" + x) ∷ take j post)) + 16 < often (code "(") (pre ++ ((code "a" + x) ∷ take j post)) =
          rw (q, short_back j) at h in
          let b : often (code ")") (pre ++ (code "(" ∷ (part ++ (code ")" ∷ take j post)))) + 16 < often (code "(") (pre ++ (code "(" ∷ (part ++ (code ")" ∷ take j post)))) =
          omega (arith, same_depth j) in
          flat (long_place j, omega (arith, sizes, size), rw (long_back j) b)

      go : Dec (length pre < d.0) → ⊥
      go (yes l) = back (d.0 - suc (length pre)) (omega arith)
      go (no l) = let n = d.1 in let h = d.2 in flat (d.0, omega (arith, sizes, size), rw (short_front d.0 (omega arith)) at h)

pub shorter_accepted : (x : ℕ) → x ≤ 7 → (pre part post : List ℕ) → Unused x (around pre part post) → Judged (around pre part post) (accepted 0) → Judged part (accepted 0)
    → Judged (pre ++ ((code "a" + x) ∷ post)) (accepted 0)
shorter_accepted x below pre part post free j k =
    let a = accepted_says (around pre part post) j in
    let b = accepted_says part k in
    let m = b.bounded in
    let n = a.short in
    says_so (pre ++ ((code "a" + x) ∷ post))
    (record {
      some = λ e. omega (arith, length-append pre ((code "a" + x) ∷ post));
      short = omega (
        arith,
        length-append pre ((code "a" + x) ∷ post),
        length-append pre (code "(" ∷ (part ++ (code ")" ∷ post))),
        length-append part (code ")" ∷ post),
      );
      flat = shorter_flat x below pre part post (balanced m.is) a.flat;
      bounded = means_same (with_layer nothing x false) nothing (λ l _. go (eqb l x)) (shorter_means nothing x below pre part post false m free a.bounded);
    })
  where
    go : (b : Bool) → pick b false false ≡ false
    go true = refl
    go false = refl

-- two expressions in parentheses, with the byte b between them
abbrev pub both : List ℕ → ℕ → List ℕ → List ℕ
both s b t = (code "(" ∷ (s ++ (code ")" ∷ []))) ++ (b ∷ (code "(" ∷ (t ++ (code ")" ∷ []))))

module _ {h : Handed} {s t : List ℕ} {v w : Bool} (m : Means s h v) (n : Means t h w) where
  joined_value : (o : Operator) → joins o v w ≡ eval h (joined o m.expr n.expr)
  unfolding eval
  joined_value o = ap (λ z. joins o z w) m.value ∙ ap (λ z. joins o (eval h m.expr) z) n.value

  pub and_means : Means (both s (code "*") t) h (v && w)
  and_means =
      record {
        expr = joined and m.expr n.expr;
        is = one_product (times (one_factor (in_parentheses m.is)) (in_parentheses n.is));
        value = joined_value and;
      }

  pub or_means : Means (both s (code "+") t) h (v || w)
  or_means =
      record {
        expr = joined or m.expr n.expr;
        is = plus (one_product (one_factor (in_parentheses m.is))) (one_factor (in_parentheses n.is));
        value = joined_value or;
      }
