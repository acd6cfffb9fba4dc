-- Laws of finite floats by their values, for any format: a value is written in one way, and a product is the rounded product of the values.
-- `HasValue x s a c`, of the library, says that x is finite, has the sign s and is a / c in size. Assumes nothing.
use mathlib.Core.Path.{◌≡◌, refl, sym, ap, ◌∙◌}
use Prim.Native.Nat.{ℕ, zero, suc, ◌+◌, ◌*◌, ◌%◌, ◌^◌, ◌<◌}
use native.Mathlib.Nat.{zero-lt-suc, mul-pos, mul-one, one-mul, zero-mul, mul_assoc, mul_left_comm, mul_right_comm, pow-succ', eq_of_mul-eq-mul_right}
use native.Mathlib.Omega.{arith}
use mathlib.Core.Bool.{Bool, ◌&&◌}
use lib.IntN.{ℤ, pos, negsuc}
use lib.Dec.{T, ltb, leb, eqb, eqb→eq}
use lib.Pow.{pow-add, pow_pos}
use lib.Ieee.{Float, nan, inf, fin, Format, prec, emax, low, up, down, unlike, round, mul, fits}
use lib.Ieee.Fits.{and_l, up_pos, down_pos}
use lib.Ieee.Exact.{HasValue}
use lib.Ieee.Scale.{round_same}

even_odd : (m t : ℕ) → m % 2 ≡ 1 → m ≡ 2 * t → ⊥
even_odd m t o h = omega arith

pub twice : (m a : ℕ) → m * 2 ^ suc a ≡ 2 * (m * 2 ^ a)
twice m a = ap (λ (x : ℕ). m * x) (pow-succ' 2 a) ∙ mul_left_comm m 2 (2 ^ a)

pub halve : (a b : ℕ) → 2 * a ≡ 2 * b → a ≡ b
halve a b h = omega arith

odd_pow : (m n a b : ℕ) → m % 2 ≡ 1 → n % 2 ≡ 1 → m * 2 ^ a ≡ n * 2 ^ b → (m ≡ n) × (a ≡ b)
odd_pow m n zero zero o p h = (sym (mul-one m) ∙ h ∙ mul-one n, refl)
odd_pow m n zero (suc b) o p h = absurd (even_odd m (n * 2 ^ b) o (sym (mul-one m) ∙ h ∙ twice n b))
odd_pow m n (suc a) zero o p h = absurd (even_odd n (m * 2 ^ a) p (sym (mul-one n) ∙ sym h ∙ twice m a))
odd_pow m n (suc a) (suc b) o p h =
    let r = odd_pow m n a b o p (halve (m * 2 ^ a) (n * 2 ^ b) (sym (twice m a) ∙ h ∙ twice n b)) in (r.0, ap suc r.1)

is_odd : (f : Format) (s : Bool) (m : ℕ) (e : ℤ) → T (fits f (fin s (suc m) e)) → suc m % 2 ≡ 1
unfolding fits
is_odd f s m e t =
    let a : Bool = eqb (suc m % 2) 1 in
    let b : Bool = ltb (suc m) (2 ^ prec f) in
    let c : Bool = leb (down e) (2 ^ low f) in
    let d : Bool = ltb (suc m * up e) (2 ^ suc (emax f) * down e) in
    eqb→eq (suc m % 2) 1 (and_l a b (and_l (a && b) c (and_l (a && b && c) d t)))

two_up : (p : ℕ) → 0 < p → 2 * p ≡ 1 → ⊥
two_up p h e = omega arith

flat : (e : ℤ) → up e * down e ≡ 1 → e ≡ pos 0
flat (pos zero) h = refl
flat (pos (suc k)) h = absurd (two_up (2 ^ k) (pow_pos k) (sym (pow-succ' 2 k) ∙ sym (mul-one (2 ^ suc k)) ∙ h))
flat (negsuc k) h = absurd (two_up (2 ^ k) (pow_pos k) (sym (pow-succ' 2 k) ∙ sym (one-mul (2 ^ suc k)) ∙ h))

zero_exp : (f : Format) (s : Bool) (e : ℤ) → T (fits f (fin s zero e)) → e ≡ pos 0
unfolding fits
zero_exp f s e t = flat e (eqb→eq (up e * down e) 1 t)

-- two fractions that equal a / c, crosswise
cross : (x y p q a c : ℕ) → 0 < c → x * c ≡ a * p → y * c ≡ a * q → x * q ≡ y * p
cross x y p q a c C h k =
    eq_of_mul-eq-mul_right c C (x * q) (y * p)
    (mul_right_comm x q c ∙ ap (λ (w : ℕ). w * q) h ∙ mul_right_comm a p q ∙ ap (λ (w : ℕ). w * p) (sym k) ∙ mul_right_comm y c p)

no_sum : (a b : ℕ) → a + suc b ≡ 0 → ⊥
no_sum a b h = omega arith

-- an odd m and the exponent e are fixed by the value
odd_one_way : (m n : ℕ) (e g : ℤ) → m % 2 ≡ 1 → n % 2 ≡ 1 → m * up e * down g ≡ n * up g * down e → (m ≡ n) × (e ≡ g)
odd_one_way m n (pos a) (pos b) o p h =
    let r = odd_pow m n a b o p (sym (mul-one (m * 2 ^ a)) ∙ h ∙ mul-one (n * 2 ^ b)) in (r.0, ap pos r.1)
odd_one_way m n (pos a) (negsuc b) o p h =
    absurd (no_sum a b (odd_pow m n (a + suc b) 0 o p
    (ap (λ (x : ℕ). m * x) (pow-add 2 a (suc b)) ∙ sym (mul_assoc m (2 ^ a) (2 ^ suc b)) ∙ h ∙ mul-one (n * 1))).1)
odd_one_way m n (negsuc a) (pos b) o p h =
    absurd (no_sum b a (odd_pow n m (b + suc a) 0 p o
    (ap (λ (x : ℕ). n * x) (pow-add 2 b (suc a)) ∙ sym (mul_assoc n (2 ^ b) (2 ^ suc a)) ∙ sym h ∙ mul-one (m * 1))).1)
odd_one_way m n (negsuc a) (negsuc b) o p h =
    let r = odd_pow m n (suc b) (suc a) o p (ap (λ (x : ℕ). x * 2 ^ suc b) (sym (mul-one m)) ∙ h ∙ ap (λ (x : ℕ). x * 2 ^ suc a) (mul-one n)) in
    (r.0, ap negsuc (same r.1))
  where
    same : suc b ≡ suc a → a ≡ b
    same q = omega arith

not_zero : (n : ℕ) (g e : ℤ) (k : ℕ) → zero * k * down g ≡ suc n * up g * down e → ⊥
not_zero n g e k h =
    let z : zero * k * down g ≡ 0 = ap (λ (x : ℕ). x * down g) (zero-mul k) ∙ zero-mul (down g) in
    let p : 0 < suc n * up g * down e = mul-pos (mul-pos (zero-lt-suc n) (up_pos g)) (down_pos e) in
    omega arith

-- A format holds one float of each sign and value.
pub value_unique : (f : Format) (x y : Float) (s : Bool) (a c : ℕ) → 0 < c → T (fits f x) → T (fits f y) → HasValue x s a c → HasValue y s a c → x ≡ y
value_unique f (fin t zero e) (fin u zero g) s a c C p q v w = λ i. fin ((v.0 ∙ sym w.0) i) zero ((zero_exp f t e p ∙ sym (zero_exp f u g q)) i)
value_unique f (fin t zero e) (fin u (suc n) g) s a c C p q v w =
    absurd (not_zero n g e (up e) (cross (zero * up e) (suc n * up g) (down e) (down g) a c C v.1 w.1))
value_unique f (fin t (suc m) e) (fin u zero g) s a c C p q v w =
    absurd (not_zero m e g (up g) (cross (zero * up g) (suc m * up e) (down g) (down e) a c C w.1 v.1))
value_unique f (fin t (suc m) e) (fin u (suc n) g) s a c C p q v w =
    let r = odd_one_way (suc m) (suc n) e g (is_odd f t m e p) (is_odd f u n g q) (cross (suc m * up e) (suc n * up g) (down e) (down g) a c C v.1 w.1) in
    λ i. fin ((v.0 ∙ sym w.0) i) (r.0 i) (r.1 i)
value_unique f nan y s a c C p q v w = elim v [ ]
value_unique f (inf _) y s a c C p q v w = elim v [ ]
value_unique f (fin t zero e) nan s a c C p q v w = elim w [ ]
value_unique f (fin t zero e) (inf _) s a c C p q v w = elim w [ ]
value_unique f (fin t (suc m) e) nan s a c C p q v w = elim w [ ]
value_unique f (fin t (suc m) e) (inf _) s a c C p q v w = elim w [ ]

-- from one fraction to another of the same size
pub rescale : (x : Float) (s : Bool) (w l num den : ℕ) → 0 < l → num * l ≡ w * den → HasValue x s w l → HasValue x s num den
rescale (fin t m e) s w l num den p h v = (
  v.0,
  eq_of_mul-eq-mul_right l p (m * up e * den) (num * down e)
      (mul_right_comm (m * up e) den l
      ∙ ap (λ (x : ℕ). x * den) v.1
      ∙ mul_right_comm w (down e) den
      ∙ ap (λ (x : ℕ). x * down e) (sym h)
      ∙ mul_right_comm num l (down e)),
)
rescale nan s w l num den p h v = elim v [ ]
rescale (inf _) s w l num den p h v = elim v [ ]

four : (a b c d : ℕ) → a * b * (c * d) ≡ a * c * (b * d)
four a b c d = simp (mul_assoc, mul_left_comm)

-- A product is the product of the values, rounded once.
pub mul_value : (f : Format) (x y : Float) (s t : Bool) (a c b d : ℕ) → 0 < c → 0 < d → HasValue x s a c → HasValue y t b d → mul f x y ≡ round f (unlike s t) (a * b) (c * d)
unfolding mul
mul_value f (fin s' m e) (fin t' n g) s t a c b d C D v w =
    ap (λ (z : Bool). round f (unlike z t') (m * up e * (n * up g)) (down e * down g)) v.0
    ∙ ap (λ (z : Bool). round f (unlike s z) (m * up e * (n * up g)) (down e * down g)) w.0
    ∙ round_same f (unlike s t) (m * up e * (n * up g)) (down e * down g) (a * b) (c * d) (mul-pos (down_pos e) (down_pos g)) (mul-pos C D)
    (four (m * up e) (n * up g) c d ∙ ap (λ (z : ℕ). z * (n * up g * d)) v.1 ∙ ap (λ (z : ℕ). a * down e * z) w.1 ∙ four a (down e) b (down g))
mul_value f nan y s t a c b d C D v w = elim v [ ]
mul_value f (inf _) y s t a c b d C D v w = elim v [ ]
mul_value f (fin s' m e) nan s t a c b d C D v w = elim w [ ]
mul_value f (fin s' m e) (inf _) s t a c b d C D v w = elim w [ ]
