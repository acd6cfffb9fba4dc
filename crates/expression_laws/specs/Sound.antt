-- Sound: what the reader accepts is in the grammar, with the expression that it read. Assumes nothing.
--
--   Text      the text between two places is an expression at a level, after what stands before it
--   sound     what is read is such a text
use Rattle.std.specs.Prelude.{◌≡◌, refl, Bool, true, false, List, [], ◌∷◌, ◌++◌, eqb, get_or, drop}
use Rattle.std.proofs.Common.{sym, ap, subst, ◌∙◌, append_assoc, append-nil, add-one, arith, drop-cons, eqb-true}
use Rattle.std.proofs.lemmas.Bool.{false≢true}
use Prim.Native.Nat.{ℕ, zero, suc, ◌+◌, ◌<◌}
use Prim.Native.Char.{code}
use Rattle.meaning.specs.Expression.{Expr, joined, Level, factor, product, sum, Is, a_letter, not_before, in_parentheses, one_factor, times, minus, one_product, plus, caret}
use Rattle.expression_laws.specs.Reader.{Read, got, tight, loose, operator_of, Part, a_factor, a_product, a_sum, product_on, sum_on, step, read, reads, enough}
use Rattle.expression_laws.specs.Steps.{never, inside, FactorGot, by_not, by_parentheses, by_letter, factor_got, then_got, OnGot, goes_on, stops, on_got}

byte_at : (s : List ℕ) (at : ℕ) {b : ℕ} → get_or s at 0 ≡ b → 0 < b → drop at s ≡ b ∷ drop (at + 1) s
byte_at s at {b} e p = let h = inside s at (omega arith) in rw (add-one, drop-cons s at 0) (ap (λ x. x ∷ drop (suc at) s) e)

-- the text from at to i, with before in front of it, is at that level the expression e
pub record Text (s : List ℕ) (l : Level) (before : List ℕ) (at : ℕ) (e : Expr) (i : ℕ) : Type 0 where
  pub text : List ℕ
  pub parts : drop at s ≡ text ++ drop i s
  pub is : Is l (before ++ text) e

-- ---- operators

tight_joins : (b : ℕ) → tight b ≡ true → (t u : List ℕ) (e f : Expr) → Is product t e → Is factor u f → Is product (t ++ (b ∷ u)) (joined (operator_of b) e f)
tight_joins b h t u e f p q = go (eqb b (code "*")) refl (eqb b (code "-")) refl
  where
    go : (x : Bool) → eqb b (code "*") ≡ x → (y : Bool) → eqb b (code "-") ≡ y → Is product (t ++ (b ∷ u)) (joined (operator_of b) e f)
    go true a y k = rw (eqb-true b (code "*") a) (times p q)
    go false a true k = rw (eqb-true b (code "-") k) (minus p q)
    go false a false k = let z : false ≡ true = simp (a, k) at h in absurd (false≢true z)

loose_joins : (b : ℕ) → loose b ≡ true → (t u : List ℕ) (e f : Expr) → Is sum t e → Is product u f → Is sum (t ++ (b ∷ u)) (joined (operator_of b) e f)
loose_joins b h t u e f p q = go (eqb b (code "+")) refl (eqb b (code "^")) refl
  where
    go : (x : Bool) → eqb b (code "+") ≡ x → (y : Bool) → eqb b (code "^") ≡ y → Is sum (t ++ (b ∷ u)) (joined (operator_of b) e f)
    go true a y k = rw (eqb-true b (code "+") a) (plus p q)
    go false a true k = rw (eqb-true b (code "^") k) (caret p q)
    go false a false k = let z : false ≡ true = simp (a, k) at h in absurd (false≢true z)

module _ (s : List ℕ) where
  abbrev pub Found : Part → ℕ → Expr → ℕ → Type 0
  Found a_factor at e i = Text s factor [] at e i
  Found a_product at e i = Text s product [] at e i
  Found a_sum at e i = Text s sum [] at e i
  Found (product_on f) at e i = (t : List ℕ) → Is product t f → Text s product t at e i
  Found (sum_on f) at e i = (t : List ℕ) → Is sum t f → Text s sum t at e i

  abbrev Finds : (Part → ℕ → Read) → Type 0
  Finds r = (p : Part) (at : ℕ) (e : Expr) (i : ℕ) → r p at ≡ got e i → Found p at e i

  of_factor : (r : Part → ℕ → Read) → Finds r → (at : ℕ) (e : Expr) (i : ℕ) → FactorGot s r at e i → Text s factor [] at e i
  of_factor r m at e i (by_not f b p q) =
      let x = m a_factor (at + 1) f i p in
      record {
        text = code "!" ∷ x.text;
        parts = byte_at s at b (omega arith) ∙ ap (λ l. code "!" ∷ l) x.parts;
        is = rw q (not_before x.is);
      }
  of_factor r m at e i (by_parentheses j b p q w) =
      let x = m a_sum (at + 1) e j p in
      record {
        text = code "(" ∷ (x.text ++ (code ")" ∷ []));
        parts = byte_at s at b (omega arith)
            ∙ ap (λ l. code "(" ∷ l)
            (x.parts ∙ ap (λ l. x.text ++ l) (byte_at s j q (omega arith)) ∙ rw w (sym (append_assoc x.text (code ")" ∷ []) (drop (j + 1) s))));
        is = in_parentheses x.is;
      }
  of_factor r m at e i (by_letter x) =
      record {
        text = (code "a" + x.layer) ∷ [];
        parts = rw x.next (byte_at s at x.byte (omega arith));
        is = rw x.is (a_letter x.below);
      }

  -- what is left of a chain, at either level
  module _ (l l' : Level) (joins : ℕ → Bool) (none : joins 0 ≡ false)
      (join : (b : ℕ) → joins b ≡ true → (t u : List ℕ) (e f : Expr) → Is l t e → Is l' u f → Is l (t ++ (b ∷ u)) (joined (operator_of b) e f))
      (item : ℕ → Read) (self : Expr → ℕ → Read)
      (m-item : (at : ℕ) (e : Expr) (i : ℕ) → item at ≡ got e i → Text s l' [] at e i)
      (m-self : (f : Expr) (at : ℕ) (e : Expr) (i : ℕ) → self f at ≡ got e i → (t : List ℕ) → Is l t f → Text s l t at e i)
      (f : Expr) (at : ℕ) (e : Expr) (i : ℕ) (t : List ℕ) (is : Is l t f) where
    positive : (b : ℕ) → joins b ≡ true → 0 < b
    positive zero h = absurd (false≢true (sym none ∙ h))
    positive (suc b) h = omega arith

    of_on : OnGot s joins item self f at e i → Text s l t at e i
    of_on (goes_on g j b p q) =
        let x = m-item (at + 1) g j p in
        let y = m-self _ j e i q (t ++ (get_or s at 0 ∷ x.text)) (join (get_or s at 0) b t x.text f g is x.is) in
        record {
          text = get_or s at 0 ∷ (x.text ++ y.text);
          parts = byte_at s at refl (positive (get_or s at 0) b)
              ∙ ap (λ z. get_or s at 0 ∷ z) (x.parts ∙ ap (λ z. x.text ++ z) y.parts ∙ sym (append_assoc x.text y.text (drop i s)));
          is = subst (λ (z : List ℕ). Is l z e) (append_assoc t (get_or s at 0 ∷ x.text) y.text) y.is;
        }
    of_on (stops b p q) =
        record {
          text = [];
          parts = ap (λ z. drop z s) q;
          is = subst (λ (z : List ℕ). Is l z e) (sym (append-nil t)) (subst (Is l t) p is);
        }

  -- a chain from its first item
  from_first : {l l' : Level} {at j i : ℕ} {e f : Expr} (x : Text s l' [] at f j) → Text s l x.text j e i → Text s l [] at e i
  from_first {i = i} x y =
      record {
        text = x.text ++ y.text;
        parts = x.parts ∙ ap (λ z. x.text ++ z) y.parts ∙ sym (append_assoc x.text y.text (drop i s));
        is = y.is;
      }

  step_sound : (r : Part → ℕ → Read) → Finds r → Finds (step s r)
  step_sound r m a_factor at e i q = of_factor r m at e i (factor_got s r at e i q)
  step_sound r m a_product at e i q =
      let (f, j, p, q) = then_got (r a_factor at) (λ f j. r (product_on f) j) q in
      let x = m a_factor at f j p in
      from_first x (m (product_on f) j e i q x.text (one_factor x.is))
  step_sound r m a_sum at e i q =
      let (f, j, p, q) = then_got (r a_product at) (λ f j. r (sum_on f) j) q in
      let x = m a_product at f j p in
      from_first x (m (sum_on f) j e i q x.text (one_product x.is))
  step_sound r m (product_on f) at e i q = λ t is.
      of_on product factor tight refl tight_joins (r a_factor) (λ x j. r (product_on x) j) (m a_factor) (λ x. m (product_on x)) f at e i t is
      (on_got s tight (r a_factor) (λ x j. r (product_on x) j) f at e i q)
  step_sound r m (sum_on f) at e i q = λ t is.
      of_on sum product loose refl loose_joins (r a_product) (λ x j. r (sum_on x) j) (m a_product) (λ x. m (sum_on x)) f at e i t is
      (on_got s loose (r a_product) (λ x j. r (sum_on x) j) f at e i q)

  read_sound : (n : ℕ) → Finds (read s n)
  unfolding read
  read_sound zero p at e i q = never q
  read_sound (suc n) p at e i q = step_sound (read s n) (read_sound n) p at e i q

  pub sound : (p : Part) (at : ℕ) (e : Expr) (i : ℕ) → reads s p at ≡ got e i → Found p at e i
  unfolding reads
  sound p at e i q = read_sound (enough s p at) p at e i q
