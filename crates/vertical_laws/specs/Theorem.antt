-- Records by kind, and how many ends they have. The theorem is in proofs/Theorem.antt. Assumes nothing.
--
--   lower_tip L t       the end in coordinates that an end in steps stands for
--   keep_map, map_each  of lists
--   those kind rs      the records of a kind, in their order
--   those_level, those_upright   of a result, those of kind 0 are its horizontal records, those of kind 1 its vertical ones
--   tips_many, opposed_many   there are twice as many ends as records
--   pairs_at           record k is made of the ends 2k and 2k + 1
use Rattle.std.specs.Prelude.{◌≡◌, refl, Bool, true, false, List, [], ◌∷◌, ◌++◌, map, ℕ, zero, suc, ◌*◌, ◌<◌, eqb, ℤ, length, get_or}
use Rattle.std.proofs.Common.{sym, ap, ap₂, ◌∙◌, append-nil, arith}
use Rattle.meaning.specs.Numbers.{step}
use Rattle.meaning.specs.Cells.{Dir, level, upright, off, fwd, bwd}
use Rattle.meaning.specs.Records.{Run, run, line, Record, rec, record_of, each, kind_of, result}
use Rattle.basic_laws.specs.Lists.{map_append}
use Rattle.vertical_laws.specs.Tips.{Tip, tip, tips_of, keep_if, pair_of, pairs}
use Rattle.vertical_laws.specs.PlaneTips.{keep_append, Opposed}

abbrev pub lower_tip : ℕ → Tip ℕ → Tip ℤ
lower_tip L (tip x y b) = tip (step L x) (step L y) b

pub keep_map : {A B : Type 0} (f : A → B) (c : Bool) (x : A) (xs : List A) → keep_if c (f x) (map f xs) ≡ map f (keep_if c x xs)
keep_map f true x xs = refl
keep_map f false x xs = refl

pub map_each : {A B : Type 0} (f : A → B) (h : ℕ → List A) (a n : ℕ) → each (λ p. map f (h p)) a n ≡ map f (each h a n)
unfolding each
map_each f h a zero = refl
map_each f h a (suc n) = ap (◌++◌ (map f (h a))) (map_each f h (suc a) n) ∙ sym (map_append f (h a) (each h (suc a) n))

-- ---- by kind, out of the result

unfoldable pub those : {A : Type 0} → ℕ → List (Record A) → List (Record A)
those k [] = []
those k (rec kind p f t ∷ rs) = keep_if (eqb kind k) (rec kind p f t) (those k rs)

those_append : {A : Type 0} (k : ℕ) (rs ss : List (Record A)) → those k (rs ++ ss) ≡ those k rs ++ those k ss
unfolding those
those_append k [] ss = refl
those_append k (rec kind p f t ∷ rs) ss =
    ap (keep_if (eqb kind k) (rec kind p f t)) (those_append k rs ss) ∙ keep_append (eqb kind k) (rec kind p f t) (those k rs) (those k ss)

same_line : (L k p : ℕ) (rs : List Run) → eqb k k ≡ true → those k (map (record_of (step L) k (step L p)) rs) ≡ map (record_of (step L) k (step L p)) rs
unfolding those
same_line L k p [] e = refl
same_line L k p (run l h off ∷ rs) e = rw e (ap (◌∷◌ (rec k (step L p) (step L l) (step L l))) (same_line L k p rs e))
same_line L k p (run l h fwd ∷ rs) e = rw e (ap (◌∷◌ (rec k (step L p) (step L l) (step L h))) (same_line L k p rs e))
same_line L k p (run l h bwd ∷ rs) e = rw e (ap (◌∷◌ (rec k (step L p) (step L h) (step L l))) (same_line L k p rs e))

other_line : (L k j p : ℕ) (rs : List Run) → eqb k j ≡ false → those j (map (record_of (step L) k (step L p)) rs) ≡ []
unfolding those
other_line L k j p [] e = refl
other_line L k j p (run l h off ∷ rs) e = rw e (other_line L k j p rs e)
other_line L k j p (run l h fwd ∷ rs) e = rw e (other_line L k j p rs e)
other_line L k j p (run l h bwd ∷ rs) e = rw e (other_line L k j p rs e)

those_each : (j : ℕ) (h i : ℕ → List (Record ℤ)) (a n : ℕ) → ((p : ℕ) → those j (h p) ≡ i p) → those j (each h a n) ≡ each i a n
unfolding each those
those_each j h i a zero e = refl
those_each j h i a (suc n) e = those_append j (h a) (each h (suc a) n) ∙ ap₂ (λ xs ys. xs ++ ys) (e a) (those_each j h i (suc a) n e)

abbrev nothing : ℕ → List (Record ℤ)
nothing p = []

each_empty : (a n : ℕ) → each nothing a n ≡ []
unfolding each
each_empty a zero = refl
each_empty a (suc n) = each_empty (suc a) n

those_same : (L k : ℕ) (F : ℤ → ℤ → Dir) → eqb k k ≡ true → those k (kind_of L k F) ≡ kind_of L k F
unfolding kind_of
those_same L k F e = those_each k _ _ 0 (suc (2 * L)) (λ p. same_line L k p (line (λ i. F (step L p) (step L i)) 0 (2 * L)) e)

those_other : (L k j : ℕ) (F : ℤ → ℤ → Dir) → eqb k j ≡ false → those j (kind_of L k F) ≡ []
unfolding kind_of
those_other L k j F e = those_each j _ nothing 0 (suc (2 * L)) (λ p. other_line L k j p (line (λ i. F (step L p) (step L i)) 0 (2 * L)) e) ∙ each_empty 0 (suc (2 * L))

pub those_level : (L : ℕ) (g : ℤ → ℤ → Bool) → those 0 (result L g) ≡ kind_of L 0 (level g)
unfolding result
those_level L g =
    those_append 0 (kind_of L 0 (level g)) (kind_of L 1 (upright g))
    ∙ ap₂ (λ xs ys. xs ++ ys) (those_same L 0 (level g) refl) (those_other L 1 0 (upright g) refl)
    ∙ append-nil (kind_of L 0 (level g))

pub those_upright : (L : ℕ) (g : ℤ → ℤ → Bool) → those 1 (result L g) ≡ kind_of L 1 (upright g)
unfolding result
those_upright L g =
    those_append 1 (kind_of L 0 (level g)) (kind_of L 1 (upright g))
    ∙ ap₂ (λ xs ys. xs ++ ys) (those_other L 0 1 (level g) refl) (those_same L 1 (upright g) refl)

-- ---- how many

pub tips_many : {A : Type 0} (hs : List (Record A)) → length (tips_of hs) ≡ 2 * length hs
unfolding tips_of
tips_many [] = refl
tips_many (rec kind y f t ∷ hs) = omega (arith, tips_many hs)

pub opposed_many : {A : Type 0} (ts : List (Tip A)) → Opposed ts → length ts ≡ 2 * length (pairs ts)
unfolding pairs
opposed_many [] o = refl
opposed_many (t ∷ []) o = absurd o
opposed_many (tip x y b ∷ tip x' y' b' ∷ ts) o = omega (arith, opposed_many ts o.2)

pub pairs_at : {A : Type 0} (ts : List (Tip A)) (k : ℕ) (t : Tip A) (r : Record A) → suc (2 * k) < length ts → get_or (pairs ts) k r ≡ pair_of (get_or ts (2 * k) t) (get_or ts (suc (2 * k)) t)
unfolding pairs
pairs_at [] k t r h = absurd (omega arith)
pairs_at (u ∷ []) k t r h = absurd (omega arith)
pairs_at (u ∷ v ∷ ts) zero t r h = refl
pairs_at (u ∷ v ∷ ts) (suc k) t r h = pairs_at ts k t r (omega arith) ∙ ap₂ pair_of (ap (λ i. get_or (u ∷ v ∷ ts) i t) (twice k)) (ap (λ i. get_or (v ∷ ts) i t) (twice k))
  where
    twice : (k : ℕ) → suc (suc (2 * k)) ≡ 2 * suc k
    twice k = omega arith
