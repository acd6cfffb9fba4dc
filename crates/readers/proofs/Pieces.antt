-- The readers' answers are those of the reader as a function: a law for each way in which they answer. Assumes nothing.
--
--   moved              what was read ends after its start
--   at_end, not_refused, not_got, open_refused, open_closed, open_left, leaf    a factor
--   Going              a chain has come to a value at a place
--   first_refused, starts, stops, ends, breaks, goes_on    a product or a sum
--   whole_refused, whole_short, whole_got                  a whole text
use mathlib.Core.Path.{◌≡◌, refl, sym, ap, ◌∙◌}
use mathlib.Core.Logic.{inl, inr}
use Rattle.std.specs.Prelude.{Some, None}
use mathlib.Core.Bool.{Bool, true, false, not}
use mathlib.Core.List.{List}
use Prim.Native.Nat.{ℕ, ◌+◌, ◌≤◌, ◌<◌}
use Prim.Native.Char.{code}
use native.Mathlib.Omega.{arith}
use lib.ListN.{length, get_or}
use borrow.Author.Tests.{ne_eqb}
use Rattle.meaning.specs.Expression.{joins as joined_value, Expr, negated, joined, Handed, eval}
use Rattle.expression_laws.specs.Reader.{Read, got, refused, operator_of, Part, a_factor, a_sum, letter_at, reads}
use Rattle.expression_laws.specs.Steps
use Rattle.expression_laws.specs.Steps.{Chain}
use Rattle.expression_laws.specs.Meanings.{read_whole, cut_short, not_read}
use Rattle.readers.specs.Pieces.{Piece, answer_of, Whole, piece_of, reads_as}

module _ (h : Handed) where
  was_refused : (x : Read) → piece_of h x ≡ None → x ≡ refused
  was_refused (got e i) q = let z : ◌≡◌ {A = ℕ} 0 1 = cc in absurd (omega arith)
  was_refused refused q = refl

  was_got : (x : Read) {v : Bool} {i : ℕ} → piece_of h x ≡ Some (v, i) → (e : Expr) × (x ≡ got e i) × (v ≡ eval h e)
  was_got (got e j) {v = v} {i = i} q =
      let k : ◌≡◌ {A = Bool × ℕ} (eval h e, j) (v, i) = cc in (e, ap (λ (n : ℕ). got e n) (ap (λ (p : Bool × ℕ). p.1) k), sym (ap (λ (p : Bool × ℕ). p.0) k))
  was_got refused q = let z : ◌≡◌ {A = ℕ} 0 1 = cc in absurd (omega arith)

module _ (h : Handed) (s : List ℕ) where
  refused_at : (p : Part) (at : ℕ) {x : Piece} → x ≡ reads_as h s p at → x ≡ None → reads s p at ≡ refused
  unfolding reads_as
  refused_at p at e r = was_refused h (reads s p at) (sym e ∙ r)

  got_at : (p : Part) (at : ℕ) {x : Piece} {v : Bool} {i : ℕ} → x ≡ reads_as h s p at → x ≡ Some (v, i) → (e : Expr) × (reads s p at ≡ got e i) × (v ≡ eval h e)
  unfolding reads_as
  got_at p at e r = was_got h (reads s p at) (sym e ∙ r)

  answers : (p : Part) (at : ℕ) {x : Read} → reads s p at ≡ x → piece_of h x ≡ reads_as h s p at
  unfolding reads_as
  answers p at e = ap (piece_of h) (sym e)

  pub moved : (p : Part) (at : ℕ) {x : Piece} {v : Bool} {i : ℕ} → x ≡ reads_as h s p at → x ≡ Some (v, i) → at + Steps.lead p ≤ i
  moved p at {i = i} e r = let k = got_at p at e r in (Steps.reads_move s p at k.0 i k.1).0

  -- ---- a factor

  pub at_end : (at : ℕ) → length s ≤ at → None ≡ reads_as h s a_factor at
  at_end at l = answers a_factor at (Steps.at_end s at l)

  pub not_refused : (at : ℕ) {x : Piece} → get_or s at 0 ≡ code "!" → x ≡ reads_as h s a_factor (at + 1) → x ≡ None → x ≡ reads_as h s a_factor at
  not_refused at b e r = let k = refused_at a_factor (at + 1) e r in r ∙ answers a_factor at {x = refused} (Steps.at_not s at b ∙ simp k)

  pub not_got : (at : ℕ) {x : Piece} {v : Bool} {i : ℕ} → get_or s at 0 ≡ code "!" → x ≡ reads_as h s a_factor (at + 1) → x ≡ Some (v, i) → Some (not v, i) ≡ reads_as h s a_factor at
  unfolding eval
  not_got at {i = i} b e r =
      let (f, k, q) = got_at a_factor (at + 1) e r in ap (λ z. Some (not z, i)) q ∙ answers a_factor at {x = got (negated f) i} (Steps.at_not s at b ∙ simp k)

  pub open_refused : (at : ℕ) {x : Piece} → get_or s at 0 ≡ code "(" → x ≡ reads_as h s a_sum (at + 1) → x ≡ None → x ≡ reads_as h s a_factor at
  open_refused at b e r = let k = refused_at a_sum (at + 1) e r in r ∙ answers a_factor at {x = refused} (Steps.at_open s at b ∙ simp k)

  pub open_closed : (at : ℕ) {x : Piece} {v : Bool} {i : ℕ} → get_or s at 0 ≡ code "(" → x ≡ reads_as h s a_sum (at + 1) → x ≡ Some (v, i) → get_or s i 0 ≡ code ")"
      → Some (v, i + 1) ≡ reads_as h s a_factor at
  open_closed at {i = i} b e r c =
      let (f, k, q) = got_at a_sum (at + 1) e r in ap (λ z. Some (z, i + 1)) q ∙ answers a_factor at {x = got f (i + 1)} (Steps.at_open s at b ∙ simp (k, c))

  pub open_left : (at : ℕ) {x : Piece} {v : Bool} {i : ℕ} → get_or s at 0 ≡ code "(" → x ≡ reads_as h s a_sum (at + 1) → x ≡ Some (v, i) → (get_or s i 0 ≡ code ")" → ⊥)
      → None ≡ reads_as h s a_factor at
  open_left at {i = i} b e r c =
      let (f, k, q) = got_at a_sum (at + 1) e r in answers a_factor at {x = refused} (Steps.at_open s at b ∙ simp (k, ne_eqb (get_or s i 0) (code ")") c))

  pub leaf : (at : ℕ) {x : Piece} → (get_or s at 0 ≡ code "!" → ⊥) → (get_or s at 0 ≡ code "(" → ⊥) → x ≡ piece_of h (letter_at s at) → x ≡ reads_as h s a_factor at
  leaf at n o e = e ∙ answers a_factor at (Steps.at_leaf s at n o)

-- ---- a product or a sum

pub record Going (h : Handed) (s : List ℕ) (whole : Part) (more : Expr → Part) (at : ℕ) (v : Bool) (i : ℕ) : Type 0 where
  pub expr : Expr
  pub value : v ≡ eval h expr
  pub same : reads s whole at ≡ reads s (more expr) i

module _ {s : List ℕ} {whole item : Part} {more : Expr → Part} {joins : ℕ → Bool} (C : Chain s whole item more joins) (h : Handed) (at : ℕ) where
  pub first_refused : {x : Piece} → x ≡ reads_as h s item at → x ≡ None → x ≡ reads_as h s whole at
  first_refused e r = r ∙ answers h s whole at (Steps.chain_refused C at (refused_at h s item at e r))

  pub starts : {x : Piece} {v : Bool} {i : ℕ} → x ≡ reads_as h s item at → x ≡ Some (v, i) → Going h s whole more at v i
  starts e r = let k = got_at h s item at e r in record { expr = k.0; value = k.2; same = Steps.chain_starts C at k.1 }

  pub stops : {v : Bool} {i : ℕ} → Going h s whole more at v i → joins (get_or s i 0) ≡ false → Some (v, i) ≡ reads_as h s whole at
  stops {i = i} g t = ap (λ z. Some (z, i)) g.value ∙ answers h s whole at {x = got g.expr i} (Steps.chain_stops C at g.same t)

  pub ends : {v : Bool} {i : ℕ} → Going h s whole more at v i → length s ≤ i → Some (v, i) ≡ reads_as h s whole at
  ends {i = i} g l = ap (λ z. Some (z, i)) g.value ∙ answers h s whole at {x = got g.expr i} (Steps.chain_ends C at g.same l)

  pub breaks : {v : Bool} {i : ℕ} {x : Piece} → Going h s whole more at v i → joins (get_or s i 0) ≡ true → x ≡ reads_as h s item (i + 1) → x ≡ None
      → x ≡ reads_as h s whole at
  breaks {i = i} g t e r = r ∙ answers h s whole at (Steps.chain_breaks C at i g.expr g.same t (refused_at h s item (i + 1) e r))

  pub goes_on : {v : Bool} {i : ℕ} {w : Bool} {j : ℕ} {u : Bool} {x : Piece} → Going h s whole more at v i → joins (get_or s i 0) ≡ true
      → x ≡ reads_as h s item (i + 1) → x ≡ Some (w, j) → u ≡ joined_value (operator_of (get_or s i 0)) v w → Going h s whole more at u j
  unfolding eval
  goes_on {i = i} {w = w} g t e r q =
      let k = got_at h s item (i + 1) e r in
      record {
        expr = joined (operator_of (get_or s i 0)) g.expr k.0;
        value = q
            ∙ ap (λ z. joined_value (operator_of (get_or s i 0)) z w) g.value
            ∙ ap (λ z. joined_value (operator_of (get_or s i 0)) (eval h g.expr) z) k.2;
        same = Steps.chain_goes_on C at i g.expr g.same t k.1;
      }

-- ---- a whole text

module _ (h : Handed) (s : List ℕ) where
  pub whole_refused : {x : Piece} → x ≡ reads_as h s a_sum 0 → x ≡ None → Whole s h x
  whole_refused e r = inl (not_read s (refused_at h s a_sum 0 e r), ap answer_of r)

  pub whole_short : {x : Piece} {v : Bool} {i : ℕ} → x ≡ reads_as h s a_sum 0 → x ≡ Some (v, i) → i < length s → Whole s h None
  whole_short e r l = inl (cut_short s (got_at h s a_sum 0 e r).1 l, refl)

  pub whole_got : {x : Piece} {v : Bool} {i : ℕ} → x ≡ reads_as h s a_sum 0 → x ≡ Some (v, i) → length s ≤ i → Whole s h (Some (v, i))
  whole_got {v = v} {i = i} e r l =
      let k = got_at h s a_sum 0 e r in
      let m = (Steps.reads_move s a_sum 0 k.0 i k.1).1 in
      let n : i ≡ length s = omega arith in
      inr (v, record { expr = k.0; is = read_whole s k.1 l; value = k.2 }, ap (λ (z : ℕ). Some (v, z)) n)
