-- The laws of the reader: how it comes to an answer, that it moves on, that more steps change nothing, and that it is its own step. Assumes nothing.
--
--   FactorGot, OnGot, LetterGot   how one step came to an answer
--   reads_move                    what is read lies in the text, and a factor, a product and a sum take a byte at least
--   at_not, at_open, at_leaf, at_letter, at_end    the reader at a factor, by its first byte
--   Chain                         a product is a chain of factors, and a sum one of products
use Rattle.std.specs.Prelude.{◌≡◌, ◌⊎◌, Bool, true, false, List, eqb, leb, length}
use Rattle.std.proofs.Math.Path.{refl}
use Rattle.std.proofs.Common.{ap, ◌∙◌, inl, inr}
use Rattle.std.proofs.Math.Logic.{⊎_elim}
use Prim.Native.Nat.{ℕ, zero, suc, ◌+◌, ◌-◌, ◌≤◌, ◌<◌, max}
use Prim.Native.Char.{code}
use native.Mathlib.Omega.{arith}
use Rattle.std.proofs.Math.Decide.{dec_lt}
use Rattle.std.proofs.Math.ListN.{get_or, get_or-eq_default}
use borrow.Author.Tests.{eqb-true, leb-true, ne_eqb, le-leb, lt-leb}
use Rattle.meaning.specs.Expression.{Expr, letter, negated, joined}
use Rattle.expression_laws.specs.Reader.{Read, got, refused, tight, loose, operator_of, Part, a_factor, a_product, a_sum, product_on, sum_on, choose, then, letter_at, closing, on, step, read, level, enough, reads}

pub never : {A : Type 0} {e : Expr} {i : ℕ} → refused ≡ got e i → A
never e = let z : ◌≡◌ {A = ℕ} 0 1 = cc in absurd (omega arith)

-- a byte that is not 0 stands inside the text
pub inside : (s : List ℕ) (at : ℕ) → 0 < get_or s at 0 → at < length s
inside s at h = go (dec_lt at (length s))
  where
    go : Dec (at < length s) → at < length s
    go (yes l) = l
    go (no f) = let e = get_or-eq_default s 0 {n = at} (omega arith) in absurd (omega arith)

-- an operator stands inside the text
inside_by : (s : List ℕ) (joins : ℕ → Bool) (at : ℕ) → joins 0 ≡ false → joins (get_or s at 0) ≡ true → at < length s
inside_by s joins at z h = inside s at (go (get_or s at 0) refl)
  where
    go : (b : ℕ) → get_or s at 0 ≡ b → 0 < b
    go zero e = let k : ◌≡◌ {A = ℕ} 0 1 = cc in absurd (omega arith)
    go (suc b) e = omega arith

-- ---- how an answer came about

choose_got : (b : Bool) (f g : Unit {0} → Read) {e : Expr} {i : ℕ} → choose b f g ≡ got e i → ((b ≡ true) × (f tt ≡ got e i)) ⊎ ((b ≡ false) × (g tt ≡ got e i))
choose_got true f g q = inl (refl, q)
choose_got false f g q = inr (refl, q)

pub then_got : (x : Read) (k : Expr → ℕ → Read) {e : Expr} {i : ℕ} → then x k ≡ got e i → (f : Expr) × (j : ℕ) × (x ≡ got f j) × (k f j ≡ got e i)
then_got (got f j) k q = (f, j, refl, q)
then_got refused k q = never q

choose_same : (b : Bool) (f g f' g' : Unit {0} → Read) → (b ≡ true → f tt ≡ f' tt) → (b ≡ false → g tt ≡ g' tt) → choose b f g ≡ choose b f' g'
choose_same true f g f' g' p q = p refl
choose_same false f g f' g' p q = q refl

then_same : (x : Read) {x' : Read} (k k' : Expr → ℕ → Read) → x ≡ x' → ((e : Expr) (i : ℕ) → x ≡ got e i → k e i ≡ k' e i) → then x k ≡ then x' k'
then_same (got e i) k k' p h = h e i refl ∙ ap (λ y. then y k') p
then_same refused k k' p h = ap (λ y. then y k') p

module _ (s : List ℕ) (at : ℕ) (e : Expr) (i : ℕ) where
  pub record LetterGot : Type 0 where
    pub layer : ℕ
    pub below : layer ≤ 7
    pub byte : get_or s at 0 ≡ code "a" + layer
    pub is : e ≡ letter layer
    pub next : i ≡ at + 1

  letter_got : letter_at s at ≡ got e i → LetterGot
  unfolding letter_at
  letter_got q = ⊎_elim (λ w. low (leb-true _ _ w.0) w.1) (λ w. never w.1) (choose_got (leb (code "a") (get_or s at 0)) _ _ q)
    where
      high : code "a" ≤ get_or s at 0 → get_or s at 0 ≤ code "h" → got (letter (get_or s at 0 - code "a")) (at + 1) ≡ got e i → LetterGot
      high a h q = record { layer = get_or s at 0 - code "a"; below = omega arith; byte = omega arith; is = cc; next = cc }

      low : code "a" ≤ get_or s at 0
          → choose (leb (get_or s at 0) (code "h")) (λ _. got (letter (get_or s at 0 - code "a")) (at + 1)) (λ _. refused) ≡ got e i → LetterGot
      low a q = ⊎_elim (λ w. high a (leb-true _ _ w.0) w.1) (λ w. never w.1) (choose_got (leb (get_or s at 0) (code "h")) _ _ q)

module _ (s : List ℕ) (r : Part → ℕ → Read) (at : ℕ) (e : Expr) (i : ℕ) where
  pub data FactorGot : Type 0 where
    by_not : (f : Expr) → get_or s at 0 ≡ code "!" → r a_factor (at + 1) ≡ got f i → e ≡ negated f → FactorGot
    by_parentheses : (j : ℕ) → get_or s at 0 ≡ code "(" → r a_sum (at + 1) ≡ got e j → get_or s j 0 ≡ code ")" → i ≡ j + 1 → FactorGot
    by_letter : LetterGot s at e i → FactorGot

  closed : (f : Expr) (j : ℕ) → get_or s at 0 ≡ code "(" → r a_sum (at + 1) ≡ got f j
      → (b : Bool) → eqb (get_or s j 0) (code ")") ≡ b → choose b (λ _. got f (j + 1)) (λ _. refused) ≡ got e i → FactorGot
  closed f j h p true t q = by_parentheses j h (cc) (eqb-true _ _ t) (cc)
  closed f j h p false t q = never q

  after_open : get_or s at 0 ≡ code "(" → (x : Read) → r a_sum (at + 1) ≡ x → then x (closing s) ≡ got e i → FactorGot
  after_open h (got f j) p q = closed f j h p (eqb (get_or s j 0) (code ")")) refl q
  after_open h refused p q = never q

  after_not : get_or s at 0 ≡ code "!" → (x : Read) → r a_factor (at + 1) ≡ x → then x (λ f j. got (negated f) j) ≡ got e i → FactorGot
  after_not h (got f j) p q = by_not f h (cc) (cc)
  after_not h refused p q = never q

  pub factor_got : step s r a_factor at ≡ got e i → FactorGot
  factor_got q =
      ⊎_elim (λ w. after_not (eqb-true _ _ w.0) (r a_factor (at + 1)) refl w.1)
      (λ x. ⊎_elim (λ w. after_open (eqb-true _ _ w.0) (r a_sum (at + 1)) refl w.1) (λ w. by_letter (letter_got s at e i w.1))
      (choose_got (eqb (get_or s at 0) (code "(")) _ _ x.1))
      (choose_got (eqb (get_or s at 0) (code "!")) _ _ q)

module _ (s : List ℕ) (joins : ℕ → Bool) (item : ℕ → Read) (self : Expr → ℕ → Read) (f : Expr) (at : ℕ) (e : Expr) (i : ℕ) where
  pub data OnGot : Type 0 where
    goes_on : (g : Expr) (j : ℕ) → joins (get_or s at 0) ≡ true → item (at + 1) ≡ got g j → self (joined (operator_of (get_or s at 0)) f g) j ≡ got e i → OnGot
    stops : joins (get_or s at 0) ≡ false → f ≡ e → at ≡ i → OnGot

  pub on_got : on s joins item self f at ≡ got e i → OnGot
  on_got q =
      ⊎_elim (λ w. let (g, j, p, q) = then_got (item (at + 1)) (λ g j. self (joined (operator_of (get_or s at 0)) f g) j) w.1 in goes_on g j w.0 p q)
      (λ w. let h = w.1 in stops w.0 (cc) (cc))
      (choose_got (joins (get_or s at 0)) _ _ q)

-- ---- the reader moves on

-- the least that a part takes
abbrev pub lead : Part → ℕ
lead a_factor = 1
lead a_product = 1
lead a_sum = 1
lead (product_on e) = 0
lead (sum_on e) = 0

abbrev pub Moves : List ℕ → (Part → ℕ → Read) → Type 0
Moves s r = (p : Part) (at : ℕ) (e : Expr) (i : ℕ) → r p at ≡ got e i → (at + lead p ≤ i) × (i ≤ max at (length s))

module _ (s : List ℕ) where
  step_moves : (r : Part → ℕ → Read) → Moves s r → Moves s (step s r)
  step_moves r m a_factor at e i q = by (factor_got s r at e i q)
    where
      by : FactorGot s r at e i → (at + 1 ≤ i) × (i ≤ max at (length s))
      by (by_not f b p q) = let l = inside s at (omega arith) in let k = m a_factor (at + 1) f i p in omega arith
      by (by_parentheses j b p q w) =
          let l = inside s at (omega arith) in
          let l' = inside s j (omega arith) in
          let k = m a_sum (at + 1) e j p in
          omega arith
      by (by_letter x) = let l = inside s at (let y = x.byte in omega arith) in let n = x.next in omega arith
  step_moves r m a_product at e i q =
      let (f, j, p, q) = then_got (r a_factor at) (λ f j. r (product_on f) j) q in
      let k = m a_factor at f j p in
      let k' = m (product_on f) j e i q in
      omega arith
  step_moves r m a_sum at e i q =
      let (f, j, p, q) = then_got (r a_product at) (λ f j. r (sum_on f) j) q in
      let k = m a_product at f j p in
      let k' = m (sum_on f) j e i q in
      omega arith
  step_moves r m (product_on f) at e i q = by (on_got s tight (r a_factor) (λ x j. r (product_on x) j) f at e i q)
    where
      by : OnGot s tight (r a_factor) (λ x j. r (product_on x) j) f at e i → (at + 0 ≤ i) × (i ≤ max at (length s))
      by (goes_on g j t p q) =
          let l = inside_by s tight at refl t in
          let k = m a_factor (at + 1) g j p in
          let k' = m (product_on (joined (operator_of (get_or s at 0)) f g)) j e i q in
          omega arith
      by (stops t p q) = omega arith
  step_moves r m (sum_on f) at e i q = by (on_got s loose (r a_product) (λ x j. r (sum_on x) j) f at e i q)
    where
      by : OnGot s loose (r a_product) (λ x j. r (sum_on x) j) f at e i → (at + 0 ≤ i) × (i ≤ max at (length s))
      by (goes_on g j t p q) =
          let l = inside_by s loose at refl t in
          let k = m a_product (at + 1) g j p in
          let k' = m (sum_on (joined (operator_of (get_or s at 0)) f g)) j e i q in
          omega arith
      by (stops t p q) = omega arith

  moves : (n : ℕ) → Moves s (read s n)
  unfolding read
  moves zero p at e i q = never q
  moves (suc n) p at e i q = step_moves (read s n) (moves n) p at e i q

  pub reads_move : Moves s (reads s)
  unfolding reads
  reads_move p at e i q = moves (enough s p at) p at e i q

  -- ---- more steps change nothing

  -- a step asks only what is nearer to the end
  step_same : (r r' : Part → ℕ → Read) → Moves s r → (p : Part) (at : ℕ)
      → ((q : Part) (j : ℕ) → enough s q j < enough s p at → r q j ≡ r' q j) → step s r p at ≡ step s r' p at
  step_same r r' m a_factor at g =
      choose_same (eqb (get_or s at 0) (code "!")) _ _ _ _
      (λ t. let l = inside_by s (λ b. eqb b (code "!")) at refl t in then_same (r a_factor (at + 1)) _ _ (g a_factor (at + 1) (omega arith)) (λ e i q. refl))
      (λ _. choose_same (eqb (get_or s at 0) (code "(")) _ _ _ _
      (λ t. let l = inside_by s (λ b. eqb b (code "(")) at refl t in then_same (r a_sum (at + 1)) _ _ (g a_sum (at + 1) (omega arith)) (λ e i q. refl))
      (λ _. refl))
  step_same r r' m a_product at g =
      then_same (r a_factor at) _ _ (g a_factor at (omega arith)) (λ e i q. g (product_on e) i (let k = m a_factor at e i q in omega arith))
  step_same r r' m a_sum at g =
      then_same (r a_product at) _ _ (g a_product at (omega arith)) (λ e i q. g (sum_on e) i (let k = m a_product at e i q in omega arith))
  step_same r r' m (product_on f) at g =
      choose_same (tight (get_or s at 0)) _ _ _ _
      (λ t.
      let l = inside_by s tight at refl t in
      then_same (r a_factor (at + 1)) _ _ (g a_factor (at + 1) (omega arith))
      (λ w i q. g (product_on (joined (operator_of (get_or s at 0)) f w)) i (let k = m a_factor (at + 1) w i q in omega arith)))
      (λ _. refl)
  step_same r r' m (sum_on f) at g =
      choose_same (loose (get_or s at 0)) _ _ _ _
      (λ t.
      let l = inside_by s loose at refl t in
      then_same (r a_product (at + 1)) _ _ (g a_product (at + 1) (omega arith))
      (λ w i q. g (sum_on (joined (operator_of (get_or s at 0)) f w)) i (let k = m a_product (at + 1) w i q in omega arith)))
      (λ _. refl)

  level_pos : (p : Part) → 0 < level p
  level_pos a_factor = omega arith
  level_pos a_product = omega arith
  level_pos a_sum = omega arith
  level_pos (product_on e) = omega arith
  level_pos (sum_on e) = omega arith

  more_steps : (m n : ℕ) (p : Part) (at : ℕ) → enough s p at ≤ m → enough s p at ≤ n → read s m p at ≡ read s n p at
  unfolding read
  more_steps zero n p at h k = let l = level_pos p in absurd (omega arith)
  more_steps (suc m) zero p at h k = let l = level_pos p in absurd (omega arith)
  more_steps (suc m) (suc n) p at h k = step_same (read s m) (read s n) (moves m) p at (λ q j l. more_steps m n q j (omega arith) (omega arith))

  -- ---- the reader is its own step

  reads_step : (p : Part) (at : ℕ) → reads s p at ≡ step s (reads s) p at
  unfolding reads read
  reads_step p at = go (enough s p at) refl
    where
      go : (n : ℕ) → enough s p at ≡ n → read s n p at ≡ step s (reads s) p at
      go zero e = let l = level_pos p in absurd (omega arith)
      go (suc n) e = step_same (read s n) (reads s) (moves n) p at (λ q j l. more_steps n (enough s q j) q j (omega arith) (omega arith))

  pub at_not : (at : ℕ) → get_or s at 0 ≡ code "!" → reads s a_factor at ≡ then (reads s a_factor (at + 1)) (λ e i. got (negated e) i)
  at_not at b = reads_step a_factor at ∙ simp b

  pub at_open : (at : ℕ) → get_or s at 0 ≡ code "(" → reads s a_factor at ≡ then (reads s a_sum (at + 1)) (closing s)
  at_open at b = reads_step a_factor at ∙ simp b

  pub at_leaf : (at : ℕ) → (get_or s at 0 ≡ code "!" → ⊥) → (get_or s at 0 ≡ code "(" → ⊥) → reads s a_factor at ≡ letter_at s at
  at_leaf at p q = reads_step a_factor at ∙ simp (ne_eqb (get_or s at 0) (code "!") p, ne_eqb (get_or s at 0) (code "(") q)

  pub at_letter : (at l : ℕ) → l ≤ 7 → get_or s at 0 ≡ code "a" + l → reads s a_factor at ≡ got (letter l) (at + 1)
  unfolding letter_at
  at_letter at l h b =
      let n : get_or s at 0 - code "a" ≡ l = omega arith in
      at_leaf at (λ q. omega arith) (λ q. omega arith)
      ∙ simp (le-leb (code "a") (get_or s at 0) (omega arith), le-leb (get_or s at 0) (code "h") (omega arith)) (ap (λ k. got (letter k) (at + 1)) n)

  pub at_end : (at : ℕ) → length s ≤ at → reads s a_factor at ≡ refused
  unfolding letter_at
  at_end at h =
      let z = get_or-eq_default s 0 {n = at} h in
      at_leaf at (λ q. omega arith) (λ q. omega arith) ∙ simp (lt-leb (code "a") (get_or s at 0) (omega arith))

pub record Chain (s : List ℕ) (whole item : Part) (more : Expr → Part) (joins : ℕ → Bool) : Type 0 where
  pub none : joins 0 ≡ false
  pub first : (at : ℕ) → reads s whole at ≡ then (reads s item at) (λ e i. reads s (more e) i)
  pub rest : (e : Expr) (at : ℕ) → reads s (more e) at ≡ on s joins (reads s item) (λ f j. reads s (more f) j) e at

pub product_chain : (s : List ℕ) → Chain s a_product a_factor product_on tight
product_chain s = record { none = refl; first = λ at. reads_step s a_product at; rest = λ e at. reads_step s (product_on e) at }

pub sum_chain : (s : List ℕ) → Chain s a_sum a_product sum_on loose
sum_chain s = record { none = refl; first = λ at. reads_step s a_sum at; rest = λ e at. reads_step s (sum_on e) at }

module _ {s : List ℕ} {whole item : Part} {more : Expr → Part} {joins : ℕ → Bool} (C : Chain s whole item more joins) where
  pub chain_refused : (at : ℕ) → reads s item at ≡ refused → reads s whole at ≡ refused
  chain_refused at k = C.first at ∙ simp k

  pub chain_starts : (at : ℕ) {i : ℕ} {e : Expr} → reads s item at ≡ got e i → reads s whole at ≡ reads s (more e) i
  chain_starts at k = C.first at ∙ simp k

  pub chain_stops : (at : ℕ) {i : ℕ} {e : Expr} → reads s whole at ≡ reads s (more e) i → joins (get_or s i 0) ≡ false → reads s whole at ≡ got e i
  chain_stops at {i} {e} q t = q ∙ C.rest e i ∙ simp t

  pub chain_ends : (at : ℕ) {i : ℕ} {e : Expr} → reads s whole at ≡ reads s (more e) i → length s ≤ i → reads s whole at ≡ got e i
  chain_ends at q l = chain_stops at q (ap joins (get_or-eq_default s 0 l) ∙ C.none)

  pub chain_breaks : (at i : ℕ) (e : Expr) → reads s whole at ≡ reads s (more e) i → joins (get_or s i 0) ≡ true → reads s item (i + 1) ≡ refused → reads s whole at ≡ refused
  chain_breaks at i e q t k = q ∙ C.rest e i ∙ simp (t, k)

  pub chain_goes_on : (at i : ℕ) (e : Expr) {j : ℕ} {f : Expr} → reads s whole at ≡ reads s (more e) i → joins (get_or s i 0) ≡ true → reads s item (i + 1) ≡ got f j
      → reads s whole at ≡ reads s (more (joined (operator_of (get_or s i 0)) e f)) j
  chain_goes_on at i e q t k = q ∙ C.rest e i ∙ simp (t, k)
