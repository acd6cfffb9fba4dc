-- One meaning: a text is at most one expression, so it has at most one value where something is handed, and the grammar can be decided. Assumes nothing.
--
--   whole_read        a text of the grammar is read to its end
--   read_whole        a text that is read to its end is of the grammar
--   cut_short         a text that is read to a place before its end is not of the grammar
--   one_expression    a text is at most one expression
--   one_value         a text has at most one value
--   decided           a text is of the grammar or not
--   not_outside       a text that is not outside the grammar is in it
--   means_at          a text of the grammar has a value everywhere
--   means_same        two covers that agree on the eight layers give the same value
use Rattle.std.specs.Prelude.{◌≡◌, refl, Bool, List, [], ◌++◌, ℕ, ◌≤◌, ◌<◌, length, get_or}
use Rattle.std.proofs.Common.{sym, subst, ◌∙◌, append-nil, zero-add, le_refl, arith, drop_of_length-le}
use Rattle.std.proofs.Math.Path.{ap}
use Rattle.std.proofs.Math.Bool.{not}
use Rattle.std.proofs.Math.Decide.{dec_lt}
use Rattle.std.proofs.Math.ListN.{get_or-eq_default}
use Rattle.meaning.specs.Expression.{Operator, joins, Expr, joined, Handed, eval, Level, sum, Is, a_letter, not_before, in_parentheses, one_factor, times, minus, one_product, plus, caret, InGrammar, Means, and, and_not, or, exclusive_or}
use Rattle.expression_laws.specs.Reader.{Read, got, refused, tight, a_sum, sum_on, reads}
use Rattle.expression_laws.specs.Steps.{never, sum_chain, chain_ends}
use Rattle.expression_laws.specs.Sound.{sound}
use Rattle.expression_laws.specs.Complete.{complete}

module _ (s : List ℕ) where
  pub whole_read : {e : Expr} → Is sum s e → reads s a_sum 0 ≡ got e (length s)
  whole_read {e} is =
      let far = le_refl (length s) in
      let k : reads s a_sum 0 ≡ reads s (sum_on e) (length s) =
      complete s is 0 [] (sym (append-nil s)) (ap (λ n. tight (get_or s n 0)) (zero-add (length s)) ∙ ap tight (get_or-eq_default s 0 far))
      ∙ ap (λ n. reads s (sum_on e) n) (zero-add (length s)) in
      chain_ends (sum_chain s) 0 k far

  pub read_whole : {e : Expr} {i : ℕ} → reads s a_sum 0 ≡ got e i → length s ≤ i → Is sum s e
  read_whole {e} {i} q l =
      let x = sound s a_sum 0 e i q in
      let whole : s ≡ x.text = x.parts ∙ ap (λ z. x.text ++ z) (drop_of_length-le s l) ∙ append-nil x.text in
      subst (λ (z : List ℕ). Is sum z e) (sym whole) x.is

  pub cut_short : {e : Expr} {i : ℕ} → reads s a_sum 0 ≡ got e i → i < length s → InGrammar s → ⊥
  cut_short {i = i} q l x = let h = whole_read x.1 in let k : i ≡ length s = cc in omega arith

  pub not_read : reads s a_sum 0 ≡ refused → InGrammar s → ⊥
  not_read q x = never (sym q ∙ whole_read x.1)

  pub one_expression : {e f : Expr} → Is sum s e → Is sum s f → e ≡ f
  one_expression p q = let a = whole_read p in let b = whole_read q in cc

  pub one_value : {h : Handed} {v w : Bool} → Means s h v → Means s h w → v ≡ w
  one_value {h} x y = x.value ∙ ap (eval h) (one_expression x.is y.is) ∙ sym y.value

  pub decided : Dec (InGrammar s)
  decided = go (reads s a_sum 0) refl
    where
      at_place : (e : Expr) (i : ℕ) → reads s a_sum 0 ≡ got e i → Dec (i < length s) → Dec (InGrammar s)
      at_place e i q (yes l) = no (cut_short q l)
      at_place e i q (no l) = yes (e, read_whole q (omega arith))

      go : (x : Read) → reads s a_sum 0 ≡ x → Dec (InGrammar s)
      go (got e i) q = at_place e i q (dec_lt i (length s))
      go refused q = no (not_read q)

  pub not_outside : ((InGrammar s → ⊥) → ⊥) → InGrammar s
  not_outside n = go decided
    where
      go : Dec (InGrammar s) → InGrammar s
      go (yes x) = x
      go (no f) = absurd (n f)

  pub means_at : (x : InGrammar s) (h : Handed) → Means s h (eval h x.0)
  means_at x h = record { expr = x.0; is = x.1; value = refl }

-- ---- an expression looks at the eight layers alone

pub joined_same : (g h : Handed) (o : Operator) (e f e' f' : Expr) → eval g e ≡ eval h e' → eval g f ≡ eval h f' → eval g (joined o e f) ≡ eval h (joined o e' f')
unfolding eval
joined_same g h o e f e' f' p q = ap (λ z. joins o z (eval g f)) p ∙ ap (λ z. joins o (eval h e') z) q

module _ (g h : Handed) (same : (l : ℕ) → l < 8 → g l ≡ h l) where
  eval_same : {l : Level} {t : List ℕ} {e : Expr} → Is l t e → eval g e ≡ eval h e
  unfolding eval
  eval_same (a_letter {l} k) = same l (omega arith)
  eval_same (not_before is) = ap not (eval_same is)
  eval_same (in_parentheses is) = eval_same is
  eval_same (one_factor is) = eval_same is
  eval_same (times {e = e} {f = f} p q) = joined_same g h and e f e f (eval_same p) (eval_same q)
  eval_same (minus {e = e} {f = f} p q) = joined_same g h and_not e f e f (eval_same p) (eval_same q)
  eval_same (one_product is) = eval_same is
  eval_same (plus {e = e} {f = f} p q) = joined_same g h or e f e f (eval_same p) (eval_same q)
  eval_same (caret {e = e} {f = f} p q) = joined_same g h exclusive_or e f e f (eval_same p) (eval_same q)

  pub means_same : {s : List ℕ} {v : Bool} → Means s g v → Means s h v
  means_same m = record { expr = m.expr; is = m.is; value = m.value ∙ eval_same m.is }
