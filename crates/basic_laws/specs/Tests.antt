-- Tests on numbers as truth values: both halves of an `&&`, and a number's place beside a stretch. Assumes nothing.
--
--   and_left, and_right   what `p && q` says of each half
--   and_off, and_on, or_true   `&&` and `||` with a half that is known
--   not_self, is_other    a truth value is not its own contrary; what it is not, it is the contrary of
--   bit_le                a truth value as a number is at most 1
--   pick_and              what is counted where a test holds is counted by both tests
--   one_column, one_corner   the tests of one edge: its sides at a column, and its ends
--   and_parts             two tests that exclude each other, and what they make together, behind one test
--   not_leb               below is not at-or-above
--   ltb_more              one number more is below
--   leb_same, eqb_same    two tests that hold together are equal
--   spans l h k           k is in the stretch from l up to h, h not included
--   spans_in, ..          its value by where k lies; `place` has the three cases
use Rattle.std.specs.Prelude.{◌≡◌, refl, Bool, true, false, not, ◌&&◌, ◌||◌, ℕ, suc, ◌+◌, ◌≤◌, ◌<◌, leb, ltb, eqb}
use Rattle.std.proofs.Common.{sym, ap, ◌∙◌, true≢false, arith, lt-ltb, le-ltb, le-leb, leb-true, eq-eqb, ne_eqb, eqb-true}
use Rattle.std.proofs.lemmas.Bool.{false≢true, lt-leb}
use Rattle.std.proofs.Math.Decide.{dec_lt, ℕ_discrete}
use Rattle.meaning.specs.Numbers.{bit, pick}

pub and_left : (p q : Bool) → (p && q) ≡ true → p ≡ true
and_left true q e = refl
and_left false q e = absurd (false≢true e)

pub and_right : (p q : Bool) → (p && q) ≡ true → q ≡ true
and_right true q e = e
and_right false q e = absurd (false≢true e)

pub and_off : (p : Bool) → (p && false) ≡ false
and_off true = refl
and_off false = refl

pub and_on : (p : Bool) → (p && true) ≡ p
and_on true = refl
and_on false = refl

pub or_true : (p : Bool) → (p || true) ≡ true
or_true true = refl
or_true false = refl

pub not_self : (b : Bool) → b ≡ not b → ⊥
not_self true e = true≢false e
not_self false e = false≢true e

pub is_other : (a b : Bool) → (a ≡ b → ⊥) → a ≡ not b
is_other true true n = absurd (n refl)
is_other true false n = refl
is_other false true n = refl
is_other false false n = absurd (n refl)

pub bit_le : (b : Bool) → bit b ≤ 1
bit_le true = omega arith
bit_le false = omega arith

pub pick_and : (a p : Bool) → pick a (bit p) 0 ≡ bit (p && a)
pick_and true true = refl
pick_and true false = refl
pick_and false true = refl
pick_and false false = refl

-- p its layer, a and b whether its from and its to are at or before the column, q its height
pub one_column : (p a b : Bool) → bit (p && (b && not a)) + bit (p && a) ≡ bit (p && (a && not b)) + bit (p && b)
one_column false a b = refl
one_column true true true = refl
one_column true true false = refl
one_column true false true = refl
one_column true false false = refl

pub one_corner : (p q a b : Bool) → bit ((p && (b && not a)) && q) + bit ((p && a) && q) ≡ bit ((p && (a && not b)) && q) + bit ((p && b) && q)
one_corner false q a b = refl
one_corner true q true true = refl
one_corner true q false false = refl
one_corner true true true false = refl
one_corner true true false true = refl
one_corner true false true false = refl
one_corner true false false true = refl

pub and_parts : (t a b c : Bool) → bit a + bit b ≡ bit c → bit (t && a) + bit (t && b) ≡ bit (t && c)
and_parts true a b c e = e
and_parts false a b c e = refl

pub not_leb : (k h : ℕ) → ltb k h ≡ not (leb h k)
not_leb k h = go (dec_lt k h)
  where
    go : Dec (k < h) → ltb k h ≡ not (leb h k)
    go (yes u) = rw (lt-ltb k h u, lt-leb h k u)
    go (no u) = rw (le-ltb k h (omega arith), le-leb h k (omega arith))

pub ltb_more : (e k : ℕ) → bit (ltb e (suc k)) ≡ bit (ltb e k) + bit (eqb e k)
ltb_more e k = go (dec_lt e k) (ℕ_discrete e k)
  where
    go : Dec (e < k) → Dec (e ≡ k) → bit (ltb e (suc k)) ≡ bit (ltb e k) + bit (eqb e k)
    go (yes l) (yes q) = let z : ⊥ = omega arith in absurd z
    go (yes l) (no q) = omega (arith, ap bit (lt-ltb e (suc k) (omega arith)), ap bit (lt-ltb e k l), ap bit (ne_eqb e k q))
    go (no l) (yes q) = omega (arith, ap bit (lt-ltb e (suc k) (omega arith)), ap bit (le-ltb e k (omega arith)), ap bit (eq-eqb e k q))
    go (no l) (no q) = omega (arith, ap bit (le-ltb e (suc k) (omega arith)), ap bit (le-ltb e k (omega arith)), ap bit (ne_eqb e k q))

pub leb_same : (a b c d : ℕ) → (a ≤ b → c ≤ d) → (c ≤ d → a ≤ b) → leb a b ≡ leb c d
leb_same a b c d f g = go (leb a b) (leb c d) refl refl
  where
    go : (t u : Bool) → leb a b ≡ t → leb c d ≡ u → leb a b ≡ leb c d
    go true u p q = p ∙ sym (le-leb c d (f (leb-true a b p)))
    go false true p q = le-leb a b (g (leb-true c d q)) ∙ sym q
    go false false p q = p ∙ sym q

pub eqb_same : (a b c d : ℕ) → (a ≡ b → c ≡ d) → (c ≡ d → a ≡ b) → eqb a b ≡ eqb c d
eqb_same a b c d f g = go (eqb a b) (eqb c d) refl refl
  where
    go : (t u : Bool) → eqb a b ≡ t → eqb c d ≡ u → eqb a b ≡ eqb c d
    go true u p q = p ∙ sym (eq-eqb c d (f (eqb-true a b p)))
    go false true p q = eq-eqb a b (g (eqb-true c d q)) ∙ sym q
    go false false p q = p ∙ sym q

-- ---- a stretch

unfoldable pub spans : ℕ → ℕ → ℕ → Bool
spans l h k = leb l k && ltb k h

pub spans_in : (l h k : ℕ) → l ≤ k → k < h → spans l h k ≡ true
unfolding spans
spans_in l h k p q = rw (le-leb l k p, lt-ltb k h q)

pub spans_below : (l h k : ℕ) → k < l → spans l h k ≡ false
unfolding spans
spans_below l h k p = rw (lt-leb l k p)

pub spans_above : (l h k : ℕ) → h ≤ k → spans l h k ≡ false
unfolding spans
spans_above l h k p = rw (le-ltb k h p, and_off (leb l k))

pub data Place (l h k : ℕ) : Type 0 where
  below : k < l → Place l h k
  within : l ≤ k → k < h → Place l h k
  above : l ≤ k → h ≤ k → Place l h k

pub place : (l h k : ℕ) → Place l h k
place l h k = go (dec_lt k l) (dec_lt k h)
  where
    go : Dec (k < l) → Dec (k < h) → Place l h k
    go (yes p) q = below p
    go (no p) (yes q) = within (omega arith) q
    go (no p) (no q) = above (omega arith) (omega arith)

-- no number is in a stretch that ends where it starts, or before
pub spans_empty : (l h k : ℕ) → h ≤ l → spans l h k ≡ false
spans_empty l h k p = go (dec_lt k l)
  where
    go : Dec (k < l) → spans l h k ≡ false
    go (yes u) = spans_below l h k u
    go (no u) = spans_above l h k (omega arith)

-- a stretch cut in two
pub spans_parts : (a b c i : ℕ) → a ≤ b → b ≤ c → bit (spans a b i) + bit (spans b c i) ≡ bit (spans a c i)
spans_parts a b c i p q = go (place a b i) (dec_lt i c)
  where
    go : Place a b i → Dec (i < c) → bit (spans a b i) + bit (spans b c i) ≡ bit (spans a c i)
    go (below u) v = rw (spans_below a b i u, spans_below b c i (omega arith), spans_below a c i u)
    go (within u w) v = rw (spans_in a b i u w, spans_below b c i w, spans_in a c i u (omega arith))
    go (above u w) (yes v) = rw (spans_above a b i w, spans_in b c i w v, spans_in a c i u v)
    go (above u w) (no v) = rw (spans_above a b i w, spans_above b c i (omega arith), spans_above a c i (omega arith))
