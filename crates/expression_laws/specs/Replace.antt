-- A part in parentheses replaced by a letter in a text of the grammar, and the other way. Assumes nothing.
--
--   Unused x s    the letter of the layer x stands nowhere in the text s
--   unused_same   a letter that a text does not use has no part in its value
--   one_end       a sum that a parenthesis closes ends at one place
--   hole          a parenthesis that opens in a text of the grammar closes around a sum, and a letter that the text does not use may stand for the whole
--   fill          a sum in parentheses may stand for a letter
use Rattle.std.specs.Prelude.{◌≡◌, refl, Bool, ℕ, ◌+◌, ◌≤◌, ◌<◌, length, drop}
use Rattle.std.proofs.Common.{sym, ◌∙◌}
use Rattle.std.proofs.Math.Path.{ap, subst}
use Rattle.std.proofs.Math.Bool.{not}
use mathlib.Core.List.{List, [], ◌∷◌, ◌++◌, append_assoc}
use Prim.Native.Char.{code}
use native.Mathlib.Omega.{arith}
use Rattle.std.proofs.Math.Decide.{ℕ_discrete}
use Rattle.std.proofs.Math.Seq.{drop-append_seam}
use borrow.Author.Tests.{eq-eqb, ne_eqb}
use Rattle.meaning.specs.Expression.{Operator, and, and_not, or, exclusive_or, Expr, letter, negated, joined, Handed, with_layer, eval, Level, factor, product, sum, Is, a_letter, not_before, in_parentheses, one_factor, times, minus, one_product, plus, caret, often}
use Rattle.meaning.specs.Edges.{number}
use Rattle.expression_laws.specs.Complete.{closed}
use Rattle.expression_laws.specs.Meanings.{joined_same}
use Rattle.expression_laws.specs.Depth.{often_append}

abbrev pub Unused : ℕ → List ℕ → Type 0
Unused x s = often (code "a" + x) s ≡ 0

-- ---- a byte of one text in another

-- where the byte b of `pre ++ b ∷ rest` stands in `t ++ o ∷ u`
data Split (pre : List ℕ) (b : ℕ) (rest t : List ℕ) (o : ℕ) (u : List ℕ) : Type 0 where
  in_left : (r : List ℕ) → t ≡ pre ++ (b ∷ r) → rest ≡ r ++ (o ∷ u) → Split pre b rest t o u
  at_op : o ≡ b → Split pre b rest t o u
  in_right : (p : List ℕ) → pre ≡ t ++ (o ∷ p) → u ≡ p ++ (b ∷ rest) → Split pre b rest t o u

grow : {b o p y : ℕ} {pre rest t u : List ℕ} → y ≡ p → Split pre b rest t o u → Split (p ∷ pre) b rest (y ∷ t) o u
grow e (in_left r p q) = in_left r (cc) q
grow e (at_op p) = at_op p
grow e (in_right p q w) = in_right p (cc) w

split : (pre : List ℕ) (b : ℕ) (rest t : List ℕ) (o : ℕ) (u : List ℕ) → t ++ (o ∷ u) ≡ pre ++ (b ∷ rest) → Split pre b rest t o u
split [] b rest [] o u e = at_op (cc)
split [] b rest (y ∷ t) o u e = in_left t (cc) (cc)
split (p ∷ pre) b rest [] o u e = in_right pre (cc) (cc)
split (p ∷ pre) b rest (y ∷ t) o u e = grow (cc) (split pre b rest t o u (cc))

-- a byte has nothing after it in a text of one byte
nothing_after : {A : Type 0} (b : ℕ) (p rest : List ℕ) → ◌≡◌ {A = List ℕ} [] (p ++ (b ∷ rest)) → A
nothing_after b [] rest e = let k : ◌≡◌ {A = ℕ} 0 1 = cc in absurd (omega arith)
nothing_after b (z ∷ p) rest e = let k : ◌≡◌ {A = ℕ} 0 1 = cc in absurd (omega arith)

-- a sum that a parenthesis closes ends at one place
pub one_end : (t r : List ℕ) (e : Expr) → Is sum t e → (u q : List ℕ) (f : Expr) → Is sum u f → t ++ (code ")" ∷ r) ≡ u ++ (code ")" ∷ q) → (r ≡ q) × (e ≡ f)
one_end t r e is u q f js d =
    let s = t ++ (code ")" ∷ r) in
    let a = closed s is 0 r refl in
    let b = closed s js 0 q d in
    let n : 0 + length t ≡ 0 + length u = cc in
    let m : length t ≡ length u = omega arith in
    let v : e ≡ f = cc in
    let k : code ")" ∷ r ≡ code ")" ∷ q =
    sym (drop-append_seam t (code ")" ∷ r)) ∙ ap (λ z. drop z s) m ∙ ap (drop (length u)) d ∙ drop-append_seam u (code ")" ∷ q) in
    (cc, v)

-- ---- a letter that a text does not use has no part in its value

module _ (x : ℕ) (t : List ℕ) (o : ℕ) (u : List ℕ) (h : Unused x (t ++ (o ∷ u))) where
  left_unused : Unused x t
  unfolding often number
  left_unused = let k = often_append (code "a" + x) t (o ∷ u) in omega arith

  right_unused : Unused x u
  unfolding often number
  right_unused = let k = often_append (code "a" + x) t (o ∷ u) in omega arith

module _ (h : Handed) (x : ℕ) where
  other : (l : ℕ) (v : Bool) → Unused x ((code "a" + l) ∷ []) → h l ≡ with_layer h x v l
  unfolding often number
  other l v n = go (ℕ_discrete l x)
    where
      go : Dec (l ≡ x) → h l ≡ with_layer h x v l
      go (yes e) = let k = eq-eqb (code "a" + l) (code "a" + x) (omega arith) in let z : 1 + 0 ≡ 0 = simp k at n in absurd (omega arith)
      go (no f) = simp (ne_eqb l x f)

  pub unused_same : {l : Level} {t : List ℕ} {e : Expr} → Is l t e → (v : Bool) → Unused x t → eval h e ≡ eval (with_layer h x v) e
  unfolding eval often number
  unused_same (a_letter {l} k) v n = other l v n
  unused_same (not_before is) v n = ap not (unused_same is v (omega arith))
  unused_same (in_parentheses {t} is) v n = unused_same is v (let k = often_append (code "a" + x) t (code ")" ∷ []) in omega arith)
  unused_same (one_factor is) v n = unused_same is v n
  unused_same (one_product is) v n = unused_same is v n
  unused_same (times {t} {u} {e} {f} p q) v n =
      joined_same h (with_layer h x v) and e f e f (unused_same p v (left_unused x t (code "*") u n)) (unused_same q v (right_unused x t (code "*") u n))
  unused_same (minus {t} {u} {e} {f} p q) v n =
      joined_same h (with_layer h x v) and_not e f e f (unused_same p v (left_unused x t (code "-") u n)) (unused_same q v (right_unused x t (code "-") u n))
  unused_same (plus {t} {u} {e} {f} p q) v n =
      joined_same h (with_layer h x v) or e f e f (unused_same p v (left_unused x t (code "+") u n)) (unused_same q v (right_unused x t (code "+") u n))
  unused_same (caret {t} {u} {e} {f} p q) v n =
      joined_same h (with_layer h x v) exclusive_or e f e f (unused_same p v (left_unused x t (code "^") u n)) (unused_same q v (right_unused x t (code "^") u n))
      -- ---- from the part to the letter

  -- the parenthesis that opens after pre closes in the text, around a sum, and x may stand for the whole
  pub record Hole (l : Level) (pre rest : List ℕ) (e : Expr) : Type 0 where
    pub part : List ℕ
    pub inner : Expr
    pub post : List ℕ
    pub outer : Expr
    pub closes : rest ≡ part ++ (code ")" ∷ post)
    pub part_is : Is sum part inner
    pub outer_is : Is l (pre ++ ((code "a" + x) ∷ post)) outer
    pub same : eval h e ≡ eval (with_layer h x (eval h inner)) outer

  -- the hole of one side of an operator is one of both
  module _ (l l' : Level) (b : ℕ) (o : Operator) (pre rest t u : List ℕ) (e f : Expr)
      (join : (t u : List ℕ) (e f : Expr) → Is l t e → Is l' u f → Is l (t ++ (b ∷ u)) (joined o e f))
      (p : Is l t e) (q : Is l' u f) (free : Unused x (t ++ (b ∷ u))) (no-paren : b ≡ code "(" → ⊥)
      (left : (pre rest : List ℕ) → t ≡ pre ++ (code "(" ∷ rest) → Hole l pre rest e)
      (right : (pre rest : List ℕ) → u ≡ pre ++ (code "(" ∷ rest) → Hole l' pre rest f) where
    join_hole : Split pre (code "(") rest t b u → Hole l pre rest (joined o e f)
    join_hole (in_left r a c) =
        let k = left pre r a in
        record {
          part = k.part;
          inner = k.inner;
          post = k.post ++ (b ∷ u);
          outer = joined o k.outer f;
          closes = c ∙ ap (λ z. z ++ (b ∷ u)) k.closes ∙ append_assoc k.part (code ")" ∷ k.post) (b ∷ u);
          part_is = k.part_is;
          outer_is = subst (λ (z : List ℕ). Is l z (joined o k.outer f)) (append_assoc pre ((code "a" + x) ∷ k.post) (b ∷ u))
              (join (pre ++ ((code "a" + x) ∷ k.post)) u k.outer f k.outer_is q);
          same = joined_same h (with_layer h x (eval h k.inner)) o e f k.outer f k.same (unused_same q (eval h k.inner) (right_unused x t b u free));
        }
    join_hole (at_op a) = absurd (no-paren a)
    join_hole (in_right r a c) =
        let k = right r rest c in
        record {
          part = k.part;
          inner = k.inner;
          post = k.post;
          outer = joined o e k.outer;
          closes = k.closes;
          part_is = k.part_is;
          outer_is = subst (λ (z : List ℕ). Is l z (joined o e k.outer))
              (sym (append_assoc t (b ∷ r) ((code "a" + x) ∷ k.post)) ∙ ap (λ z. z ++ ((code "a" + x) ∷ k.post)) (sym a))
              (join t (r ++ ((code "a" + x) ∷ k.post)) e k.outer p k.outer_is);
          same = joined_same h (with_layer h x (eval h k.inner)) o e f e k.outer (unused_same p (eval h k.inner) (left_unused x t b u free)) k.same;
        }

  letter_hole : (l : ℕ) (pre rest : List ℕ) → ◌≡◌ {A = List ℕ} ((code "a" + l) ∷ []) (pre ++ (code "(" ∷ rest)) → Hole factor pre rest (letter l)
  letter_hole l [] rest e = let k : code "a" + l ≡ code "(" = cc in absurd (omega arith)
  letter_hole l (y ∷ pre) rest e = nothing_after (code "(") pre rest (cc)

  not_hole : (t : List ℕ) (e : Expr) → ((pre rest : List ℕ) → t ≡ pre ++ (code "(" ∷ rest) → Hole factor pre rest e)
      → (pre rest : List ℕ) → code "!" ∷ t ≡ pre ++ (code "(" ∷ rest) → Hole factor pre rest (negated e)
  unfolding eval
  not_hole t e ih [] rest q = let k : code "!" ≡ code "(" = cc in absurd (omega arith)
  not_hole t e ih (y ∷ pre) rest q =
      let k = ih pre rest (cc) in
      let b : code "!" ≡ y = cc in
      record {
        part = k.part;
        inner = k.inner;
        post = k.post;
        outer = negated k.outer;
        closes = k.closes;
        part_is = k.part_is;
        outer_is = subst (λ (z : ℕ). Is factor (z ∷ (pre ++ ((code "a" + x) ∷ k.post))) (negated k.outer)) b (not_before k.outer_is);
        same = ap not k.same;
      }

  inner_hole : (t : List ℕ) (e : Expr) → ((pre rest : List ℕ) → t ≡ pre ++ (code "(" ∷ rest) → Hole sum pre rest e)
      → (y : ℕ) (pre rest : List ℕ) → code "(" ≡ y → Split pre (code "(") rest t (code ")") [] → Hole factor (y ∷ pre) rest e
  inner_hole t e ih y pre rest b (in_left r a c) =
      let k = ih pre r a in
      record {
        part = k.part;
        inner = k.inner;
        post = k.post ++ (code ")" ∷ []);
        outer = k.outer;
        closes = c ∙ ap (λ z. z ++ (code ")" ∷ [])) k.closes ∙ append_assoc k.part (code ")" ∷ k.post) (code ")" ∷ []);
        part_is = k.part_is;
        outer_is = subst (λ (z : List ℕ). Is factor z k.outer)
            (ap (λ z. code "(" ∷ z) (append_assoc pre ((code "a" + x) ∷ k.post) (code ")" ∷ []))
            ∙ ap (λ z. z ∷ (pre ++ ((code "a" + x) ∷ (k.post ++ (code ")" ∷ []))))) b)
            (in_parentheses k.outer_is);
        same = k.same;
      }
  inner_hole t e ih y pre rest b (at_op a) = absurd (omega arith)
  inner_hole t e ih y pre rest b (in_right p a c) = nothing_after (code "(") p rest c

  module _ (below : x ≤ 7) where
    parentheses_hole : (t : List ℕ) (e : Expr) → Is sum t e → ((pre rest : List ℕ) → t ≡ pre ++ (code "(" ∷ rest) → Hole sum pre rest e)
        → (pre rest : List ℕ) → code "(" ∷ (t ++ (code ")" ∷ [])) ≡ pre ++ (code "(" ∷ rest) → Hole factor pre rest e
    unfolding eval
    parentheses_hole t e is ih [] rest q =
        record {
          part = t;
          inner = e;
          post = [];
          outer = letter x;
          closes = cc;
          part_is = is;
          outer_is = a_letter below;
          same = simp (eq-eqb x x refl);
        }
    parentheses_hole t e is ih (y ∷ pre) rest q = inner_hole t e ih y pre rest (cc) (split pre (code "(") rest t (code ")") [] (cc))

    pub hole : {l : Level} {t : List ℕ} {e : Expr} → Is l t e → Unused x t → (pre rest : List ℕ) → t ≡ pre ++ (code "(" ∷ rest) → Hole l pre rest e
    unfolding often number
    hole (a_letter {l} k) free pre rest q = letter_hole l pre rest q
    hole (not_before {t} {e} is) free pre rest q = not_hole t e (λ a b k. hole is (omega arith) a b k) pre rest q
    hole (in_parentheses {t} {e} is) free pre rest q =
        parentheses_hole t e is (λ a b d. hole is (let k = often_append (code "a" + x) t (code ")" ∷ []) in omega arith) a b d) pre rest q
    hole (one_factor is) free pre rest q = up (hole is free pre rest q)
      where
        up : {e : Expr} → Hole factor pre rest e → Hole product pre rest e
        up k =
            record { part = k.part; inner = k.inner; post = k.post; outer = k.outer; closes = k.closes; part_is = k.part_is; outer_is = one_factor k.outer_is; same = k.same }
    hole (one_product is) free pre rest q = up (hole is free pre rest q)
      where
        up : {e : Expr} → Hole product pre rest e → Hole sum pre rest e
        up k =
            record { part = k.part; inner = k.inner; post = k.post; outer = k.outer; closes = k.closes; part_is = k.part_is; outer_is = one_product k.outer_is; same = k.same }
    hole (times {t} {u} {e} {f} p q) free pre rest d =
        join_hole product factor (code "*") and pre rest t u e f (λ _ _ _ _. times) p q free (λ k. omega arith)
        (λ a b k. hole p (left_unused x t (code "*") u free) a b k) (λ a b k. hole q (right_unused x t (code "*") u free) a b k) (split pre (code "(") rest t (code "*") u d)
    hole (minus {t} {u} {e} {f} p q) free pre rest d =
        join_hole product factor (code "-") and_not pre rest t u e f (λ _ _ _ _. minus) p q free (λ k. omega arith)
        (λ a b k. hole p (left_unused x t (code "-") u free) a b k) (λ a b k. hole q (right_unused x t (code "-") u free) a b k) (split pre (code "(") rest t (code "-") u d)
    hole (plus {t} {u} {e} {f} p q) free pre rest d =
        join_hole sum product (code "+") or pre rest t u e f (λ _ _ _ _. plus) p q free (λ k. omega arith)
        (λ a b k. hole p (left_unused x t (code "+") u free) a b k) (λ a b k. hole q (right_unused x t (code "+") u free) a b k) (split pre (code "(") rest t (code "+") u d)
    hole (caret {t} {u} {e} {f} p q) free pre rest d =
        join_hole sum product (code "^") exclusive_or pre rest t u e f (λ _ _ _ _. caret) p q free (λ k. omega arith)
        (λ a b k. hole p (left_unused x t (code "^") u free) a b k) (λ a b k. hole q (right_unused x t (code "^") u free) a b k) (split pre (code "(") rest t (code "^") u d)

-- ---- from the letter to the part

module _ (x : ℕ) (part : List ℕ) (inner : Expr) (part_is : Is sum part inner) where
  abbrev pub block : List ℕ → List ℕ
  block post = code "(" ∷ (part ++ (code ")" ∷ post))

  pub record Filled (l : Level) (pre post : List ℕ) : Type 0 where
    pub expr : Expr
    pub is : Is l (pre ++ block post) expr

  block_more : (pre post more : List ℕ) → (pre ++ block post) ++ more ≡ pre ++ block (post ++ more)
  block_more pre post more = append_assoc pre (block post) more ∙ ap (λ z. pre ++ (code "(" ∷ z)) (append_assoc part (code ")" ∷ post) more)

  module _ (l l' : Level) (b : ℕ) (o : Operator) (pre post t u : List ℕ) (e f : Expr)
      (join : (t u : List ℕ) (e f : Expr) → Is l t e → Is l' u f → Is l (t ++ (b ∷ u)) (joined o e f))
      (p : Is l t e) (q : Is l' u f) (no-letter : b < code "a")
      (left : (pre post : List ℕ) → t ≡ pre ++ ((code "a" + x) ∷ post) → Filled l pre post)
      (right : (pre post : List ℕ) → u ≡ pre ++ ((code "a" + x) ∷ post) → Filled l' pre post) where
    join_fill : Split pre (code "a" + x) post t b u → Filled l pre post
    join_fill (in_left r a c) =
        let k = left pre r a in
        record {
          expr = joined o k.expr f;
          is = subst (λ (z : List ℕ). Is l z (joined o k.expr f)) (block_more pre r (b ∷ u) ∙ ap (λ z. pre ++ block z) (sym c)) (join (pre ++ block r) u k.expr f k.is q);
        }
    join_fill (at_op a) = absurd (omega arith)
    join_fill (in_right r a c) =
        let k = right r post c in
        record {
          expr = joined o e k.expr;
          is = subst (λ (z : List ℕ). Is l z (joined o e k.expr)) (sym (append_assoc t (b ∷ r) (block post)) ∙ ap (λ z. z ++ block post) (sym a))
              (join t (r ++ block post) e k.expr p k.is);
        }

  letter_fill : (l : ℕ) (pre post : List ℕ) → ◌≡◌ {A = List ℕ} ((code "a" + l) ∷ []) (pre ++ ((code "a" + x) ∷ post)) → Filled factor pre post
  letter_fill l [] post e =
      let k : [] ≡ post = cc in record { expr = inner; is = subst (λ (z : List ℕ). Is factor (block z) inner) k (in_parentheses part_is) }
  letter_fill l (y ∷ pre) post e = nothing_after (code "a" + x) pre post (cc)

  not_fill : (t : List ℕ) → ((pre post : List ℕ) → t ≡ pre ++ ((code "a" + x) ∷ post) → Filled factor pre post)
      → (pre post : List ℕ) → code "!" ∷ t ≡ pre ++ ((code "a" + x) ∷ post) → Filled factor pre post
  not_fill t ih [] post q = let k : code "!" ≡ code "a" + x = cc in absurd (omega arith)
  not_fill t ih (y ∷ pre) post q =
      let k = ih pre post (cc) in
      let b : code "!" ≡ y = cc in
      record { expr = negated k.expr; is = subst (λ (z : ℕ). Is factor (z ∷ (pre ++ block post)) (negated k.expr)) b (not_before k.is) }

  inner_fill : (t : List ℕ) → ((pre post : List ℕ) → t ≡ pre ++ ((code "a" + x) ∷ post) → Filled sum pre post)
      → (y : ℕ) (pre post : List ℕ) → code "(" ≡ y → Split pre (code "a" + x) post t (code ")") [] → Filled factor (y ∷ pre) post
  inner_fill t ih y pre post b (in_left r a c) =
      let k = ih pre r a in
      record {
        expr = k.expr;
        is = subst (λ (z : List ℕ). Is factor z k.expr)
            (ap (λ z. code "(" ∷ z) (block_more pre r (code ")" ∷ []) ∙ ap (λ z. pre ++ block z) (sym c)) ∙ ap (λ z. z ∷ (pre ++ block post)) b)
            (in_parentheses k.is);
      }
  inner_fill t ih y pre post b (at_op a) = absurd (omega arith)
  inner_fill t ih y pre post b (in_right p a c) = nothing_after (code "a" + x) p post c

  parentheses_fill : (t : List ℕ) → ((pre post : List ℕ) → t ≡ pre ++ ((code "a" + x) ∷ post) → Filled sum pre post)
      → (pre post : List ℕ) → code "(" ∷ (t ++ (code ")" ∷ [])) ≡ pre ++ ((code "a" + x) ∷ post) → Filled factor pre post
  parentheses_fill t ih [] post q = let k : code "(" ≡ code "a" + x = cc in absurd (omega arith)
  parentheses_fill t ih (y ∷ pre) post q = inner_fill t ih y pre post (cc) (split pre (code "a" + x) post t (code ")") [] (cc))

  pub fill : {l : Level} {t : List ℕ} {e : Expr} → Is l t e → (pre post : List ℕ) → t ≡ pre ++ ((code "a" + x) ∷ post) → Filled l pre post
  fill (a_letter {l} k) pre post q = letter_fill l pre post q
  fill (not_before {t} is) pre post q = not_fill t (λ a b d. fill is a b d) pre post q
  fill (in_parentheses {t} is) pre post q = parentheses_fill t (λ a b d. fill is a b d) pre post q
  fill (one_factor is) pre post q = let k = fill is pre post q in record { expr = k.expr; is = one_factor k.is }
  fill (one_product is) pre post q = let k = fill is pre post q in record { expr = k.expr; is = one_product k.is }
  fill (times {t} {u} {e} {f} p q) pre post d =
      join_fill product factor (code "*") and pre post t u e f (λ _ _ _ _. times) p q (omega arith) (λ a b k. fill p a b k) (λ a b k. fill q a b k)
      (split pre (code "a" + x) post t (code "*") u d)
  fill (minus {t} {u} {e} {f} p q) pre post d =
      join_fill product factor (code "-") and_not pre post t u e f (λ _ _ _ _. minus) p q (omega arith) (λ a b k. fill p a b k) (λ a b k. fill q a b k)
      (split pre (code "a" + x) post t (code "-") u d)
  fill (plus {t} {u} {e} {f} p q) pre post d =
      join_fill sum product (code "+") or pre post t u e f (λ _ _ _ _. plus) p q (omega arith) (λ a b k. fill p a b k) (λ a b k. fill q a b k)
      (split pre (code "a" + x) post t (code "+") u d)
  fill (caret {t} {u} {e} {f} p q) pre post d =
      join_fill sum product (code "^") exclusive_or pre post t u e f (λ _ _ _ _. caret) p q (omega arith) (λ a b k. fill p a b k) (λ a b k. fill q a b k)
      (split pre (code "a" + x) post t (code "^") u d)
