-- The loop over the edges of one place, by each way: how far it is, and the ends so far. Assumes nothing.
--
--   least_min, most_max     `min` and `max` are the lesser and the greater of two
--   least_both, most_both   which are
--   many_no, many_told      `many`
--   low_all, high_all, high_below   the least and the greatest of some
--   Along, along_start, along_turn  the edges from g on, below e, are of one place; lo and hi are the ends so far
--   along_more, along_across, along_below   and what that shows at its end
use mathlib.Core.Path.{◌≡◌, ap, ◌∙◌}
use mathlib.Core.Logic.{◌≢◌}
use mathlib.Core.Bool.{Bool, true, false}
use mathlib.Core.List.{List}
use Prim.Native.Nat.{ℕ, zero, suc, ◌+◌, ◌-◌, ◌%◌, ◌<◌, ◌≤◌}
use native.Mathlib.Omega.{arith}
use Rattle.std.proofs.Common.{min, max}
use native.Mathlib.Decide.{dec_lt, ℕ_discrete}
use lib.Dec.{eqb, ltb}
use lib.ListN.{length, get_or}
use borrow.Author.Tests.{lt-ltb, le-ltb}
use Rattle.meaning.specs.Numbers.{pick}
use Rattle.strips.specs.Strips.{lower, upper}
use Rattle.crossings.specs.Swept.{height_of, from_of, to_of, Words, least_of, most_of, low_to, high_to, lower_at, upper_at, many_at}

-- ---- least and greatest

pub least_min : (a b : ℕ) → min a b ≡ least_of a b
least_min a b = go (dec_lt a b)
  where
    go : Dec (a < b) → min a b ≡ least_of a b
    go (yes u) = rw (lt-ltb a b u) (omega arith)
    go (no u) = let v : b ≤ a = omega arith in rw (le-ltb a b v) (omega arith)

pub most_max : (a b : ℕ) → max a b ≡ most_of a b
most_max a b = go (dec_lt a b)
  where
    go : Dec (a < b) → max a b ≡ most_of a b
    go (yes u) = rw (lt-ltb a b u) (omega arith)
    go (no u) = let v : b ≤ a = omega arith in rw (le-ltb a b v) (omega arith)

pub least_both : (a b : ℕ) → (least_of a b ≤ a) × (least_of a b ≤ b)
least_both a b = go (dec_lt a b)
  where
    go : Dec (a < b) → (least_of a b ≤ a) × (least_of a b ≤ b)
    go (yes u) = rw (lt-ltb a b u) (omega arith, omega arith)
    go (no u) = let v : b ≤ a = omega arith in rw (le-ltb a b v) (omega arith, omega arith)

pub most_both : (a b : ℕ) → (a ≤ most_of a b) × (b ≤ most_of a b)
most_both a b = go (dec_lt a b)
  where
    go : Dec (a < b) → (a ≤ most_of a b) × (b ≤ most_of a b)
    go (yes u) = rw (lt-ltb a b u) (omega arith, omega arith)
    go (no u) = let v : b ≤ a = omega arith in rw (le-ltb a b v) (omega arith, omega arith)

pub pick_le : (b : Bool) (x y n : ℕ) → x ≤ n → y ≤ n → pick b x y ≤ n
pick_le true x y n p q = p
pick_le false x y n p q = q

pub low_all : (h : ℕ → ℕ) (n k i : ℕ) → i < k → low_to h n k ≤ h i
unfolding low_to
low_all h n zero i u = absurd (omega arith)
low_all h n (suc k) i u = go (ℕ_discrete i k) (λ v. low_all h n k i v)
  where
    go : Dec (i ≡ k) → (i < k → low_to h n k ≤ h i) → least_of (low_to h n k) (h k) ≤ h i
    go (yes e) ih = rw e (least_both (low_to h n k) (h k)).1
    go (no e) ih = omega (arith, ih (omega arith), (least_both (low_to h n k) (h k)).0)

pub high_all : (h : ℕ → ℕ) (k i : ℕ) → i < k → h i ≤ high_to h k
unfolding high_to
high_all h zero i u = absurd (omega arith)
high_all h (suc k) i u = go (ℕ_discrete i k) (λ v. high_all h k i v)
  where
    go : Dec (i ≡ k) → (i < k → h i ≤ high_to h k) → h i ≤ most_of (high_to h k) (h k)
    go (yes e) ih = rw e (most_both (high_to h k) (h k)).1
    go (no e) ih = omega (arith, ih (omega arith), (most_both (high_to h k) (h k)).0)

high_below : (h : ℕ → ℕ) (k m : ℕ) → ((i : ℕ) → i < k → h i ≤ m) → high_to h k ≤ m
unfolding high_to
high_below h zero m u = omega arith
high_below h (suc k) m u = pick_le (ltb (high_to h k) (h k)) (h k) (high_to h k) m (u k (omega arith)) (high_below h k m (λ i v. u i (omega arith)))

-- ---- `many`

pub many_no : (ws : List ℕ) (g : ℕ) → length ws - g < 32 → false ≡ many_at ws g
unfolding many_at
many_no ws g h = rw (lt-ltb (length ws - g) 32 h)

pub many_told : (ws : List ℕ) (g : ℕ) {x y : ℕ} → 32 ≤ length ws - g → x ≡ height_of (get_or ws (g + 32 - 1) 0) → y ≡ height_of (get_or ws g 0) → eqb x y ≡ many_at ws g
unfolding many_at
many_told ws g h a b = rw (le-ltb (length ws - g) 32 h, a, b)

-- ---- the loop

pub record Along (n : ℕ) (ws ends : List ℕ) (g e lo hi : ℕ) : Type 0 where
  pub from : g ≤ e
  pub to : e ≤ length ws
  pub here : (i : ℕ) → g ≤ i → i < e → height_of (get_or ws i 0) ≡ height_of (get_or ws g 0)
  pub lo_is : lo ≡ low_to (lower_at ws ends g) n (e - g)
  pub hi_is : hi ≡ high_to (upper_at ws ends g) (e - g)
  pub lo_top : lo ≤ n
  pub hi_top : hi ≤ n

pub along_start : {n : ℕ} {ws : List ℕ} (ends : List ℕ) {g : ℕ} → g < length ws → Along n ws ends g g n 0
unfolding low_to high_to
along_start {n} {ws} ends {g} h = let z : g - g ≡ 0 = omega arith in record {
  from = omega arith;
  to = omega arith;
  here = λ i u v. let z : ⊥ = omega arith in absurd z;
  lo_is = rw z;
  hi_is = rw z;
  lo_top = omega arith;
  hi_top = omega arith;
}

module _ {n : ℕ} {ws layers ends : List ℕ} (W : Words n ws layers ends) where
  ends_below : (m : ℕ) → ((p : ℕ) → p < length ends → get_or ends p 0 ≤ m) → (e : ℕ) → e < length ws → upper (from_of ends (get_or ws e 0)) (to_of ends (get_or ws e 0)) ≤ m
  ends_below m h e u =
      let k = W.known e u in
      pick_le (ltb (to_of ends (get_or ws e 0)) (from_of ends (get_or ws e 0))) _ _ m (h _ (omega (arith, k, W.two))) (h _ (omega (arith, k, W.two)))

  module _ {g e lo hi : ℕ} (A : Along n ws ends g e lo hi) where
    pub along_turn : {x y : ℕ} → e < length ws → x ≡ lower (from_of ends (get_or ws e 0)) (to_of ends (get_or ws e 0)) → y ≡ upper (from_of ends (get_or ws e 0)) (to_of ends (get_or ws e 0))
        → (lo' hi' v : ℕ) → lo' ≡ least_of lo x → hi' ≡ most_of hi y → height_of (get_or ws e 0) ≡ v → v ≡ height_of (get_or ws g 0) → Along n ws ends g (e + 1) lo' hi'
    unfolding low_to high_to
    along_turn {x} {y} h x-is y-is lo' hi' v p q here-too v-is =
        let z : e + 1 - g ≡ suc (e - g) = omega (arith, A.from) in
        let k : g + (e - g) ≡ e = omega (arith, A.from) in
        let a : x ≡ lower_at ws ends g (e - g) = rw k x-is in
        let b : y ≡ upper_at ws ends g (e - g) = rw k y-is in
        record {
          from = omega (arith, A.from);
          to = omega arith;
          here = λ i u w. now i u w (ℕ_discrete i e);
          lo_is = rw z (p ∙ ap (λ (k : ℕ). least_of k x) A.lo_is ∙ ap (λ (k : ℕ). least_of (low_to (lower_at ws ends g) n (e - g)) k) a);
          hi_is = rw z (q ∙ ap (λ (k : ℕ). most_of k y) A.hi_is ∙ ap (λ (k : ℕ). most_of (high_to (upper_at ws ends g) (e - g)) k) b);
          lo_top = omega (arith, (least_both lo x).0, A.lo_top);
          hi_top = rw q (pick_le (ltb hi y) y hi n (omega (arith, y-is, ends_below n (λ i u. omega (arith, W.ranks i u)) e h)) A.hi_top);
        }
      where
        now : (i : ℕ) → g ≤ i → i < e + 1 → Dec (i ≡ e) → height_of (get_or ws i 0) ≡ height_of (get_or ws g 0)
        now i u w (yes j) = ap (λ (k : ℕ). height_of (get_or ws k 0)) j ∙ here-too ∙ v-is
        now i u w (no j) = A.here i u (omega arith)

    pub along_more : g < length ws → (e < length ws → height_of (get_or ws e 0) ≢ height_of (get_or ws g 0)) → g < e
    along_more some stop = go (dec_lt g e)
      where
        go : Dec (g < e) → g < e
        go (yes u) = u
        go (no u) = let q : e ≡ g = omega (arith, A.from) in absurd (stop (omega arith) (ap (λ (k : ℕ). height_of (get_or ws k 0)) q))

    module _ (more : g < e) where
      pub along_across : lo ≤ hi
      along_across =
          let z : 0 < e - g = omega arith in
          let f = from_of ends (get_or ws (g + 0) 0) in
          let t = to_of ends (get_or ws (g + 0) 0) in
          omega (
            arith,
            A.lo_is,
            A.hi_is,
            low_all (lower_at ws ends g) n (e - g) 0 z,
            high_all (upper_at ws ends g) (e - g) 0 z,
            (least_both t f).0,
            (most_both t f).0,
          )

      pub along_below : (m : ℕ) → ((p : ℕ) → p < length ends → get_or ends p 0 < m) → hi < m
      along_below m h =
          let k = W.known g (omega (arith, A.to)) in
          let one : 0 < m = omega (arith, h (get_or ws g 0 % 8192 + get_or ws g 0 % 8192) (omega (arith, k, W.two))) in
          omega (arith, A.hi_is, high_below (upper_at ws ends g) (e - g) (m - 1) (λ i u. ends_below (m - 1) (λ p w. omega (arith, h p w)) (g + i) (omega (arith, A.to))))
