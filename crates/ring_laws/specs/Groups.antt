-- Numbers as groups of seven bits, over any number of groups. Assumes nothing.
--
--   Front, front G bs   what stands at the front of bytes: a number and how many bytes it takes, one that is cut short, or a bad one
--   Bytes bs            each element is below 256
--   front_number, number_front   the bytes begin with a spelt number exactly where `front` finds it
--   front_cut, cut_front, front_bad, bad_front   the same of the other two
--   front_bounds        a number's bounds, and how many bytes it takes
--   one_spelling        no spelt number begins another
--   spelt_most, spelt_some, ..   how long it is
use Rattle.std.specs.Prelude.{◌≡◌, refl, Bool, true, false, ◌⊎◌, List, [], ◌∷◌, ◌++◌, ℕ, zero, suc, ◌+◌, ◌*◌, ◌/◌, ◌%◌, ◌≤◌, ◌<◌, ltb, eqb, length, get_or}
use Rattle.std.proofs.Common.{sym, ap, subst, ◌∙◌, inl, inr, arith, pow-suc, lit≤, lt-ltb, le-ltb, ne_eqb}
use Rattle.std.proofs.Math.Path.{subst⁻¹}
use Rattle.std.proofs.lemmas.List.{append_cancel_left}
use Rattle.std.proofs.Math.Decide.{dec_lt}
use Rattle.meaning.specs.Numbers.{pick}
use Rattle.meaning.specs.MaskFile.{spelt, most, Continued, Cut, NotShortest, TooLong}

pub data Front : Type 0 where
  cut : Front
  bad : Front
  number : ℕ → ℕ → Front

-- a group b that is continued, before what the groups after it make
abbrev pub continue : ℕ → Front → Front
continue b cut = cut
continue b bad = bad
continue b (number v n) = pick (eqb v 0) bad (number (b % 128 + 128 * v) (suc n))

unfoldable pub front : ℕ → List ℕ → Front
front zero bs = bad
front (suc g) [] = cut
front (suc g) (b ∷ bs) = pick (ltb b 128) (number b 1) (continue b (front g bs))

abbrev pub Bytes : List ℕ → Type 0
Bytes bs = (i : ℕ) → get_or bs i 0 < 256

pub clash : {A : Type 0} → ◌≡◌ {A = ℕ} 0 1 → A
clash e = absurd (omega arith)

most_some : (g : ℕ) → 1 ≤ most g
most_some zero = lit≤ tt
most_some (suc g) = omega (arith, pow-suc 128 g, most_some g)

-- ---- spelling, group by group

pub spelt_one : (g v : ℕ) → v < 128 → spelt (suc g) v ≡ v ∷ []
unfolding spelt
spelt_one g v h = rw (lt-ltb v 128 h)

pub spelt_more : (g v : ℕ) → 128 ≤ v → spelt (suc g) v ≡ (v % 128 + 128) ∷ spelt g (v / 128)
unfolding spelt
spelt_more g v h = rw (le-ltb v 128 h)

pub front_one : (g b : ℕ) (bs : List ℕ) → b < 128 → front (suc g) (b ∷ bs) ≡ number b 1
unfolding front
front_one g b bs h = rw (lt-ltb b 128 h)

pub front_more : (g b : ℕ) (bs : List ℕ) → 128 ≤ b → front (suc g) (b ∷ bs) ≡ continue b (front g bs)
unfolding front
front_more g b bs h = rw (le-ltb b 128 h)

continue_number : (b v n : ℕ) → 1 ≤ v → continue b (number v n) ≡ number (b % 128 + 128 * v) (suc n)
continue_number b v n h = rw (ne_eqb v 0 (λ e. omega arith))

-- ---- a spelt number is found, and what is found is spelt

pub front_number : (g v : ℕ) (rest : List ℕ) → 1 ≤ g → v < most g → front g (spelt g v ++ rest) ≡ number v (length (spelt g v))
front_number zero v rest o h = absurd (omega arith)
front_number (suc g) v rest o h = split (λ j k. front_number g (v / 128) rest j k) (dec_lt v 128)
  where
    less : v / 128 < most g
    less = omega (arith, pow-suc 128 g)

    some : (g : ℕ) → v / 128 < most g → 128 ≤ v → 1 ≤ g
    some zero q k = absurd (omega arith)
    some (suc g) q k = omega arith

    split : (1 ≤ g → v / 128 < most g → front g (spelt g (v / 128) ++ rest) ≡ number (v / 128) (length (spelt g (v / 128)))) → Dec (v < 128) → front (suc g) (spelt (suc g) v ++ rest) ≡ number v (length (spelt (suc g) v))
    split ih (yes k) = rw (spelt_one g v k, front_one g v rest k)
    split ih (no k) =
        rw (spelt_more g v (omega arith), front_more g (v % 128 + 128) (spelt g (v / 128) ++ rest) (omega arith), ih (some g less (omega arith)) less, continue_number (v % 128 + 128) (v / 128) (length (spelt g (v / 128))) (omega arith))
        (ap (λ (u : ℕ). number u (suc (length (spelt g (v / 128))))) (omega arith))

-- the number v of n bytes at the front, and what is after it
pub record Found (g : ℕ) (bs : List ℕ) (v n : ℕ) : Type 0 where
  pub rest : List ℕ
  pub is : bs ≡ spelt g v ++ rest
  pub long : n ≡ length (spelt g v)
  pub fits : v < most g

found_one : (g b : ℕ) (bs : List ℕ) (v n : ℕ) → b < 128 → number b 1 ≡ number v n → Found (suc g) (b ∷ bs) v n
found_one g b bs v n h e =
    let ev : v ≡ b = cc in
    let en : n ≡ 1 = cc in
    record { rest = bs; is = rw (ev, spelt_one g b h); long = rw (ev, spelt_one g b h, en); fits = omega (arith, pow-suc 128 g, most_some g) }

found_more : (g b : ℕ) (bs : List ℕ) (v n w m : ℕ) → 128 ≤ b → b < 256 → Found g bs w m → continue b (number w m) ≡ number v n → Found (suc g) (b ∷ bs) v n
found_more g b bs v n zero m h k f e = clash (cc)
found_more g b bs v n (suc w) m h k f e =
    let q : number (b % 128 + 128 * suc w) (suc m) ≡ number v n = sym (continue_number b (suc w) m (omega arith)) ∙ e in
    let ev : v ≡ b % 128 + 128 * suc w = cc in
    let en : n ≡ suc m = cc in
    let hi : v / 128 ≡ suc w = omega arith in
    let lo : v % 128 + 128 ≡ b = omega arith in
    record { rest = f.rest; is = rw (spelt_more g v (omega arith), lo, hi) (ap (λ (l : List ℕ). b ∷ l) f.is); long = rw (spelt_more g v (omega arith), hi, en) (ap suc f.long); fits = omega (arith, pow-suc 128 g, f.fits) }

found_rest : (g b : ℕ) (bs : List ℕ) (v n : ℕ) (r : Front) → 128 ≤ b → b < 256 → ((w m : ℕ) → r ≡ number w m → Found g bs w m) → continue b r ≡ number v n → Found (suc g) (b ∷ bs) v n
found_rest g b bs v n cut h k ih e = clash (cc)
found_rest g b bs v n bad h k ih e = clash (cc)
found_rest g b bs v n (number w m) h k ih e = found_more g b bs v n w m h k (ih w m refl) e

pub number_front : (g : ℕ) (bs : List ℕ) (v n : ℕ) → Bytes bs → front g bs ≡ number v n → Found g bs v n
unfolding front
number_front zero bs v n h e = clash (cc)
number_front (suc g) [] v n h e = clash (cc)
number_front (suc g) (b ∷ bs) v n h e = split (λ w m q. number_front g bs w m (λ i. h (suc i)) q) (dec_lt b 128)
  where
    split : ((w m : ℕ) → front g bs ≡ number w m → Found g bs w m) → Dec (b < 128) → Found (suc g) (b ∷ bs) v n
    split ih (yes k) = found_one g b bs v n k (sym (front_one g b bs k) ∙ e)
    split ih (no k) = found_rest g b bs v n (front g bs) (omega arith) (h 0) ih (sym (front_more g b bs (omega arith)) ∙ e)

-- ---- bounds of what is found, whatever the bytes

-- a number below m, of at least one and at most len bytes
abbrev Bounded : ℕ → ℕ → Front → Type 0
Bounded m len cut = Unit {0}
Bounded m len bad = Unit {0}
Bounded m len (number v n) = (v < m) × ((1 ≤ n) × (n ≤ len))

bounded_more : (m len b : ℕ) (r : Front) → Bounded m len r → Bounded (m * 128) (suc len) (continue b r)
bounded_more m len b cut h = tt
bounded_more m len b bad h = tt
bounded_more m len b (number zero n) h = tt
bounded_more m len b (number (suc v) n) h =
    subst⁻¹ (Bounded (m * 128) (suc len)) (continue_number b (suc v) n (omega arith)) (omega arith, (omega arith, omega arith))

bounded : (g : ℕ) (bs : List ℕ) → Bounded (most g) (length bs) (front g bs)
unfolding front
bounded zero bs = tt
bounded (suc g) [] = tt
bounded (suc g) (b ∷ bs) = split (bounded g bs) (dec_lt b 128)
  where
    split : Bounded (most g) (length bs) (front g bs) → Dec (b < 128) → Bounded (most (suc g)) (suc (length bs)) (front (suc g) (b ∷ bs))
    split ih (yes k) =
        subst⁻¹ (Bounded (most (suc g)) (suc (length bs))) (front_one g b bs k) (omega (arith, pow-suc 128 g, most_some g), (lit≤ tt, omega arith))
    split ih (no k) = subst⁻¹ (Bounded (most (suc g)) (suc (length bs))) (front_more g b bs (omega arith)) (rw (pow-suc 128 g) (bounded_more (most g) (length bs) b (front g bs) ih))

pub front_bounds : (g : ℕ) (bs : List ℕ) (v n : ℕ) → front g bs ≡ number v n → (v < most g) × ((1 ≤ n) × (n ≤ length bs))
front_bounds g bs v n e = subst (Bounded (most g) (length bs)) e (bounded g bs)

-- ---- cut short

pub front_cut : (g : ℕ) (bs : List ℕ) → Cut g bs → front g bs ≡ cut
unfolding front
front_cut zero bs c = absurd (omega (arith, c.short))
front_cut (suc g) [] c = refl
front_cut (suc g) (b ∷ bs) c =
    rw (le-ltb b 128 c.continued.0, front_cut g bs (record { continued = c.continued.1; short = omega (arith, c.short) }))

cut_rest : (b : ℕ) (r : Front) → continue b r ≡ cut → r ≡ cut
cut_rest b cut e = refl
cut_rest b bad e = e
cut_rest b (number zero n) e = clash (cc)
cut_rest b (number (suc v) n) e = clash (cc (continue_number b (suc v) n (omega arith)))

pub cut_front : (g : ℕ) (bs : List ℕ) → front g bs ≡ cut → Cut g bs
unfolding front
cut_front zero bs e = clash (cc)
cut_front (suc g) [] e = record { continued = tt; short = omega arith }
cut_front (suc g) (b ∷ bs) e = split (λ q. cut_front g bs q) (dec_lt b 128)
  where
    split : (front g bs ≡ cut → Cut g bs) → Dec (b < 128) → Cut (suc g) (b ∷ bs)
    split ih (yes k) = clash (cc (front_one g b bs k))
    split ih (no k) =
        let c = ih (cut_rest b (front g bs) (sym (front_more g b bs (omega arith)) ∙ e)) in
        record { continued = (omega arith, c.continued); short = omega (arith, c.short) }

-- ---- not shortest, or too long

pub front_long : (g : ℕ) (first rest : List ℕ) → Continued first → length first ≡ g → front g (first ++ rest) ≡ bad
unfolding front
front_long zero first rest c e = refl
front_long (suc g) [] rest c e = absurd (omega arith)
front_long (suc g) (b ∷ bs) rest c e = rw (le-ltb b 128 c.0, front_long g bs rest c.1 (omega arith))

-- a last group of zero: a number by itself, and bad after others
pub front_zero : (g : ℕ) (first rest : List ℕ) → Continued first → 1 ≤ length first → length first < g → front g (first ++ 0 ∷ rest) ≡ bad
front_zero zero first rest c e h = absurd (omega arith)
front_zero (suc g) [] rest c e h = absurd (omega arith)
front_zero (suc g) (b ∷ []) rest c e h = front_more g b (0 ∷ rest) c.0 ∙ ap (continue b) (zeroth g (omega arith))
  where
    zeroth : (g : ℕ) → 1 ≤ g → front g (0 ∷ rest) ≡ number 0 1
    zeroth zero k = absurd (omega arith)
    zeroth (suc g) k = front_one g 0 rest (omega arith)
front_zero (suc g) (b ∷ d ∷ bs) rest c e h =
    front_more g b (d ∷ bs ++ 0 ∷ rest) c.0 ∙ ap (continue b) (front_zero g (d ∷ bs) rest c.1 (omega arith) (omega arith))

pub front_bad : (g : ℕ) (bs : List ℕ) → TooLong g bs ⊎ NotShortest g bs → front g bs ≡ bad
front_bad g bs (inl t) = ap (front g) t.is ∙ front_long g t.first t.rest t.continued t.long
front_bad g bs (inr t) = ap (front g) t.is ∙ front_zero g t.first t.rest t.continued t.several t.short

one_more : (g b : ℕ) (bs : List ℕ) → 128 ≤ b → TooLong g bs ⊎ NotShortest g bs → TooLong (suc g) (b ∷ bs) ⊎ NotShortest (suc g) (b ∷ bs)
one_more g b bs h (inl t) =
    inl (record { first = b ∷ t.first; rest = t.rest; is = ap (λ (l : List ℕ). b ∷ l) t.is; continued = (h, t.continued); long = ap suc t.long })
one_more g b bs h (inr t) =
    inr (record { first = b ∷ t.first; rest = t.rest; is = ap (λ (l : List ℕ). b ∷ l) t.is; continued = (h, t.continued); several = omega arith; short = omega (arith, t.short) })

-- the number 0 after a continued group
zero_after : (g b : ℕ) (bs : List ℕ) (n : ℕ) → 128 ≤ b → front g bs ≡ number 0 n → NotShortest (suc g) (b ∷ bs)
unfolding front
zero_after zero b bs n h e = clash (cc)
zero_after (suc g) b [] n h e = clash (cc)
zero_after (suc g) b (d ∷ bs) n h e = split (dec_lt d 128)
  where
    never : (r : Front) → continue d r ≡ number 0 n → NotShortest (suc (suc g)) (b ∷ d ∷ bs)
    never cut q = clash (cc)
    never bad q = clash (cc)
    never (number zero m) q = clash (cc)
    never (number (suc v) m) q =
        let r : number (d % 128 + 128 * suc v) (suc m) ≡ number 0 n = sym (continue_number d (suc v) m (omega arith)) ∙ q in
        let z : d % 128 + 128 * suc v ≡ 0 = cc in
        absurd (omega arith)

    split : Dec (d < 128) → NotShortest (suc (suc g)) (b ∷ d ∷ bs)
    split (yes k) =
        let q : number d 1 ≡ number 0 n = sym (front_one g d bs k) ∙ e in
        let z : d ≡ 0 = cc in
        record { first = b ∷ []; rest = bs; is = ap (λ (x : ℕ). b ∷ x ∷ bs) z; continued = (h, tt); several = lit≤ tt; short = omega arith }
    split (no k) = never (front g bs) (sym (front_more g d bs (omega arith)) ∙ e)

pub bad_front : (g : ℕ) (bs : List ℕ) → front g bs ≡ bad → TooLong g bs ⊎ NotShortest g bs
unfolding front
bad_front zero bs e = inl (record { first = []; rest = bs; is = refl; continued = tt; long = refl })
bad_front (suc g) [] e = clash (cc)
bad_front (suc g) (b ∷ bs) e = split (λ q. bad_front g bs q) (dec_lt b 128)
  where
    rest : (front g bs ≡ bad → TooLong g bs ⊎ NotShortest g bs) → 128 ≤ b → (r : Front) → front g bs ≡ r → continue b r ≡ bad → TooLong (suc g) (b ∷ bs) ⊎ NotShortest (suc g) (b ∷ bs)
    rest ih h cut q s = clash (cc)
    rest ih h bad q s = one_more g b bs h (ih q)
    rest ih h (number zero n) q s = inr (zero_after g b bs n h q)
    rest ih h (number (suc v) n) q s = clash (cc (continue_number b (suc v) n (omega arith)))

    split : (front g bs ≡ bad → TooLong g bs ⊎ NotShortest g bs) → Dec (b < 128) → TooLong (suc g) (b ∷ bs) ⊎ NotShortest (suc g) (b ∷ bs)
    split ih (yes k) = clash (cc (front_one g b bs k))
    split ih (no k) = rest ih (omega arith) (front g bs) refl (sym (front_more g b bs (omega arith)) ∙ e)

-- ---- one spelling, and its length

pub one_spelling : (g v w : ℕ) (m n : List ℕ) → 1 ≤ g → v < most g → w < most g → spelt g v ++ m ≡ spelt g w ++ n → (v ≡ w) × (m ≡ n)
one_spelling g v w m n o hv hw e =
    let q : number v (length (spelt g v)) ≡ number w (length (spelt g w)) = sym (front_number g v m o hv) ∙ ap (front g) e ∙ front_number g w n o hw in
    let r : v ≡ w = cc in
    (r, append_cancel_left (spelt g w) m n (subst (λ (u : ℕ). spelt g u ++ m ≡ spelt g w ++ n) r e))

pub spelt_most : (g v : ℕ) → length (spelt g v) ≤ g
unfolding spelt
spelt_most zero v = lit≤ tt
spelt_most (suc g) v = split (spelt_most g (v / 128)) (ltb v 128)
  where
    split : length (spelt g (v / 128)) ≤ g → (b : Bool) → length (pick b (v ∷ []) ((v % 128 + 128) ∷ spelt g (v / 128))) ≤ suc g
    split h true = omega arith
    split h false = omega arith

pub spelt_some : (g v : ℕ) → 1 ≤ g → 1 ≤ length (spelt g v)
unfolding spelt
spelt_some zero v o = absurd (omega arith)
spelt_some (suc g) v o = split (ltb v 128)
  where
    split : (b : Bool) → 1 ≤ length (pick b (v ∷ []) ((v % 128 + 128) ∷ spelt g (v / 128)))
    split true = lit≤ tt
    split false = omega arith

pub spelt_two : (g v : ℕ) → v < 16384 → length (spelt (suc (suc g)) v) ≤ 2
spelt_two g v h = split (dec_lt v 128)
  where
    split : Dec (v < 128) → length (spelt (suc (suc g)) v) ≤ 2
    split (yes k) = rw (spelt_one (suc g) v k) (lit≤ tt)
    split (no k) = rw (spelt_more (suc g) v (omega arith), spelt_one g (v / 128) (omega arith)) (lit≤ tt)
