-- The laws of covers as bytes, of the table and of the layers on which an expression depends. Assumes nothing.
--
--   byte_of_below         a byte is below 256
--   cover_byte           every cover is, as far as the eight layers go, the cover of its byte
--   byte_cover           a byte is the byte of its cover
--   one_byte             bytes of one cover are equal
--   no_layer             a byte below 2^l says that the layer l does not cover
--   more_byte            the byte of a cover with one layer more
--   no_cover             the byte 0 says that nothing covers
--   one_table            tables of one text are equal
--   looked_up            the table tells the value at every cover
--   means_looked_up      and of a text in the grammar it tells a value
use Rattle.std.specs.Prelude.{◌≡◌, refl, ◌⊎◌, Bool, true, false, List, ℕ, zero, suc, ◌+◌, ◌/◌, ◌^◌, ◌≤◌, ◌<◌, ltb, get_or}
use Rattle.std.proofs.Common.{sym, ap, ◌∙◌, inl, inr, true≢false, arith, pow_pos, ext_get_or, lt-ltb, le-ltb, eq-eqb, ne_eqb}
use Rattle.std.proofs.lemmas.Bool.{false≢true}
use Rattle.std.proofs.Math.Nat.{div-eq_of_lt}
use Rattle.std.proofs.Math.Decide.{dec_lt}
use Rattle.meaning.specs.Numbers.{pick}
use Rattle.meaning.specs.Expression.{Handed, nothing, with_layer, InGrammar, Means}
use Rattle.basic_laws.specs.Bits.{bit_at, of_bits_below, of_bits_same, of_bits_step, bit_at_of_bits, of_bits_bit_at}
use Rattle.expression_laws.specs.Cover.{cover_of, byte_of, Entry, Table}
use Rattle.expression_laws.specs.Meanings.{one_value, means_same}

-- ---- bytes

pub byte_of_below : (h : Handed) → byte_of h < 256
byte_of_below h = of_bits_below 8 h

pub cover_byte : (h : Handed) (l : ℕ) → l < 8 → cover_of (byte_of h) l ≡ h l
cover_byte h l k = bit_at_of_bits 8 h l k

pub byte_cover : (m : ℕ) → m < 256 → byte_of (cover_of m) ≡ m
byte_cover m k = of_bits_bit_at 8 m k

pub byte_same : (g h : Handed) → ((l : ℕ) → l < 8 → g l ≡ h l) → byte_of g ≡ byte_of h
byte_same g h e = of_bits_same 8 g h e

pub one_byte : (m n : ℕ) → m < 256 → n < 256 → ((l : ℕ) → l < 8 → cover_of m l ≡ cover_of n l) → m ≡ n
one_byte m n a b e = sym (byte_cover m a) ∙ byte_same (cover_of m) (cover_of n) e ∙ byte_cover n b

pub no_layer : (m l : ℕ) → m < 2 ^ l → cover_of m l ≡ false
unfolding bit_at
no_layer m l h = let e : m / 2 ^ l ≡ 0 = div-eq_of_lt h in rw e

pub more_byte : (m l : ℕ) → m < 256 → l < 8 → cover_of m l ≡ false → byte_of (with_layer (cover_of m) l true) ≡ m + 2 ^ l
more_byte m l h u e =
    let s = of_bits_step 8 l (cover_of m) (with_layer (cover_of m) l true) u (λ k _ f. simp (ne_eqb k l f)) in
    let a : pick (cover_of m l) (2 ^ l) 0 ≡ 0 = rw e in
    let b : pick (with_layer (cover_of m) l true l) (2 ^ l) 0 ≡ 2 ^ l = simp (eq-eqb l l refl) in
    omega (arith, byte_cover m h)

pub no_cover : {s : List ℕ} {v : Bool} → Means s (cover_of 0) v → Means s nothing v
no_cover m = means_same (cover_of 0) nothing (λ l _. no_layer 0 l (pow_pos l)) m

-- ---- the table

one_entry : (s : List ℕ) (h : Handed) (v w : Bool) → Entry s h v → Entry s h w → v ≡ w
one_entry s h v w (inl x) (inl y) = one_value s x y
one_entry s h v w (inl x) (inr y) = absurd (y.0 (x.expr, x.is))
one_entry s h v w (inr x) (inl y) = absurd (x.0 (y.expr, y.is))
one_entry s h v w (inr x) (inr y) = x.1 ∙ sym y.1

pub one_table : (s : List ℕ) (t u : List Bool) → Table s t → Table s u → t ≡ u
one_table s t u a b =
    ext_get_or false t u (a.size ∙ sym b.size)
    (λ m k. let n : m < 256 = (let e = a.size in omega arith) in one_entry s (cover_of m) (get_or t m false) (get_or u m false) (a.each m n) (b.each m n))

entry_means : (s : List ℕ) (h : Handed) (v : Bool) → InGrammar s → Entry s h v → Means s h v
entry_means s h v x (inl m) = m
entry_means s h v x (inr y) = absurd (y.0 x)

module _ {s : List ℕ} {truth : List Bool} (t : Table s truth) where
  pub means_looked_up : InGrammar s → (h : Handed) → Means s h (get_or truth (byte_of h) false)
  means_looked_up x h =
      means_same (cover_of (byte_of h)) h (λ l k. cover_byte h l k)
      (entry_means s (cover_of (byte_of h)) (get_or truth (byte_of h) false) x (t.each (byte_of h) (byte_of_below h)))

  pub looked_up : (h : Handed) {v : Bool} → Means s h v → get_or truth (byte_of h) false ≡ v
  looked_up h m = one_value s (means_looked_up (m.expr, m.is) h) m

  outside : (InGrammar s → ⊥) → (h : Handed) → get_or truth (byte_of h) false ≡ false
  outside f h = go (t.each (byte_of h) (byte_of_below h))
    where
      go : Entry s (cover_of (byte_of h)) (get_or truth (byte_of h) false) → get_or truth (byte_of h) false ≡ false
      go (inl m) = absurd (f (m.expr, m.is))
      go (inr y) = y.1

-- ---- the layers on which an expression depends

same_or_not : (v w : Bool) → (v ≡ w) ⊎ (v ≡ w → ⊥)
same_or_not true true = inl refl
same_or_not true false = inr true≢false
same_or_not false true = inr false≢true
same_or_not false false = inl refl

-- A value that looks at the eight layers alone, and two covers that agree on each layer with which it changes: one layer after the other is changed from g to h.
module _ (worth : Handed → Bool) (sees : (a b : Handed) → ((l : ℕ) → l < 8 → a l ≡ b l) → worth a ≡ worth b) (g h : Handed)
    (agree : (l : ℕ) → l < 8 → (one other : Handed) → ((k : ℕ) → (k ≡ l → ⊥) → one k ≡ other k) → (worth one ≡ worth other → ⊥) → g l ≡ h l) where
  mix : ℕ → Handed
  mix n k = pick (ltb k n) (h k) (g k)

  mix_below : (n k : ℕ) → k < n → mix n k ≡ h k
  unfolding mix
  mix_below n k u = simp (lt-ltb k n u)

  mix_above : (n k : ℕ) → n ≤ k → mix n k ≡ g k
  unfolding mix
  mix_above n k u = simp (le-ltb k n u)

  mix_alike : (n k : ℕ) → (k ≡ n → ⊥) → mix n k ≡ mix (suc n) k
  mix_alike n k f = go (dec_lt k n)
    where
      go : Dec (k < n) → mix n k ≡ mix (suc n) k
      go (yes u) = mix_below n k u ∙ sym (mix_below (suc n) k (omega arith))
      go (no u) = mix_above n k (omega arith) ∙ sym (mix_above (suc n) k (omega arith))

  mix_all : (n : ℕ) → g n ≡ h n → (k : ℕ) → mix n k ≡ mix (suc n) k
  mix_all n e k = go (dec_lt k n) (dec_lt n k)
    where
      go : Dec (k < n) → Dec (n < k) → mix n k ≡ mix (suc n) k
      go (yes u) w = mix_alike n k (λ q. omega arith)
      go (no u) (yes w) = mix_alike n k (λ q. omega arith)
      go (no u) (no w) =
          let q : k ≡ n = omega arith in
          mix_above n k (omega arith) ∙ ap g q ∙ e ∙ ap h (sym q) ∙ sym (mix_below (suc n) k (omega arith))

  mix_step : (n : ℕ) → n < 8 → worth (mix n) ≡ worth (mix (suc n))
  mix_step n u = go (same_or_not (worth (mix n)) (worth (mix (suc n))))
    where
      go : (worth (mix n) ≡ worth (mix (suc n))) ⊎ (worth (mix n) ≡ worth (mix (suc n)) → ⊥) → worth (mix n) ≡ worth (mix (suc n))
      go (inl e) = e
      go (inr f) = sees (mix n) (mix (suc n)) (λ k _. mix_all n (agree n u (mix n) (mix (suc n)) (mix_alike n) f) k)

  mix_to : (n : ℕ) → n ≤ 8 → worth (mix 0) ≡ worth (mix n)
  mix_to zero u = refl
  mix_to (suc n) u = mix_to n (omega arith) ∙ mix_step n (omega arith)

  unchanged : worth g ≡ worth h
  unchanged = sees g (mix 0) (λ l _. sym (mix_above 0 l (omega arith))) ∙ mix_to 8 (omega arith) ∙ sees (mix 8) h (λ l u. mix_below 8 l u)
