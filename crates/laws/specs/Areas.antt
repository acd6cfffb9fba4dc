-- The area: the sum of y times (to - from) over the kind 0 records is the number of inside cells. Assumes nothing.
--
--   signed_area     THE AREA, in the caller's signed numbers
--   area_at_most    it never exceeds (2 * L)^2, which is 2^62 for the limit 2^30
use Rattle.std.specs.Prelude.{◌≡◌, refl, Bool, false, List, [], ◌∷◌, ◌++◌, map, ℕ, zero, suc, ◌+◌, ◌-◌, ◌*◌, ◌≤◌, ◌<◌, ℤ, pos, neg_ℤ, ◌+ℤ◌, ◌-ℤ◌, ◌*ℤ◌}
use Rattle.std.proofs.Common.{sym, ap, ap₂, ◌∙◌, arith, zero-add, mul-add}
use Rattle.std.proofs.Math.Path.{fun_ext}
use Rattle.std.proofs.Math.Decide.{dec_lt}
use Rattle.std.proofs.Math.IntN.{sub_ℕ, +ℤ_idl}
use Rattle.meaning.specs.Numbers.{bit, step}
use Rattle.meaning.specs.Cells.{Dir, off, fwd, bwd, level, upright, Within}
use Rattle.meaning.specs.Records.{Run, run, line, Record, rec, record_of, each, kind_of, result}
use Rattle.meaning.specs.Area.{total, cells, signed_term, signed_sum}
use Rattle.basic_laws.specs.Lists.{All}
use Rattle.basic_laws.specs.Signed.{minus_sub, sub_pos, sub_neg, sub_same}
use Rattle.grid_laws.specs.Plane.{record_at, level_n, kind_n}
use Rattle.basic_laws.specs.Sums.{sum_of}
use Rattle.basic_laws.specs.Steps.{lowered}
use Rattle.grid_laws.specs.Sums.{total_same, total_swap}
use Rattle.grid_laws.specs.AreaLaws.{Additive, sum_kind, east, west, step_n, climb, plus, minus, cells_n, area}
use Rattle.grid_laws.specs.Wrap.{cells_le}
use Rattle.laws.specs.View.{view, levels_view, within_bounded, cells_view}
use Rattle.laws.specs.Parts.{Kind0, kind_zero}

-- ---- differences of naturals

-- a difference is a natural or the negative of one: with the number that tells
data Diff (a b : ℕ) : Type 0 where
  up : (n : ℕ) → a ≡ b + n → Diff a b
  down : (n : ℕ) → b ≡ a + suc n → Diff a b

diff : (a b : ℕ) → Diff a b
diff a b = go (dec_lt a b)
  where
    go : Dec (a < b) → Diff a b
    go (yes p) = down (b - suc a) (omega arith)
    go (no p) = up (a - b) (omega arith)

sub_add : (a b c d : ℕ) → sub_ℕ a b +ℤ sub_ℕ c d ≡ sub_ℕ (a + c) (b + d)
sub_add a b c d = go (diff a b) (diff c d)
  where
    mixed : (m n x y : ℕ) → x + suc n ≡ y + m → sub_ℕ m (suc n) ≡ sub_ℕ x y
    mixed m n x y e = far (diff m (suc n))
      where
        far : Diff m (suc n) → sub_ℕ m (suc n) ≡ sub_ℕ x y
        far (up k q) = sub_pos m (suc n) k q ∙ sym (sub_pos x y k (omega arith))
        far (down k q) = sub_neg m (suc n) k q ∙ sym (sub_neg x y k (omega arith))

    go : Diff a b → Diff c d → sub_ℕ a b +ℤ sub_ℕ c d ≡ sub_ℕ (a + c) (b + d)
    go (up m p) (up n q) = rw (sub_pos a b m p, sub_pos c d n q) (sym (sub_pos (a + c) (b + d) (m + n) (omega arith)))
    go (up m p) (down n q) = rw (sub_pos a b m p, sub_neg c d n q) (mixed m n (a + c) (b + d) (omega arith))
    go (down m p) (up n q) = rw (sub_neg a b m p, sub_pos c d n q) (mixed n m (a + c) (b + d) (omega arith))
    go (down m p) (down n q) = rw (sub_neg a b m p, sub_neg c d n q) (sym (sub_neg (a + c) (b + d) (suc (m + n)) (omega arith)))

sub_flip : (a b : ℕ) → neg_ℤ (sub_ℕ a b) ≡ sub_ℕ b a
sub_flip a b = go (diff a b)
  where
    go : Diff a b → neg_ℤ (sub_ℕ a b) ≡ sub_ℕ b a
    go (up zero p) = rw (sub_pos a b zero p) (sym (sub_pos b a zero (omega arith)))
    go (up (suc n) p) = rw (sub_pos a b (suc n) p) (sym (sub_neg b a n (omega arith)))
    go (down n p) = rw (sub_neg a b n p) (sym (sub_pos b a (suc n) p))

neg_is : (k a b : ℕ) → b ≡ a + k → neg_ℤ (pos k) ≡ sub_ℕ a b
neg_is zero a b e = sym (sub_pos a b zero (omega arith))
neg_is (suc k) a b e = sym (sub_neg a b k e)

sub_times : (y s t f : ℕ) → sub_ℕ y s *ℤ sub_ℕ t f ≡ sub_ℕ (y * (t - f) + s * (f - t)) (y * (f - t) + s * (t - f))
sub_times y s t f = go (diff y s) (diff t f)
  where
    go : Diff y s → Diff t f → sub_ℕ y s *ℤ sub_ℕ t f ≡ sub_ℕ (y * (t - f) + s * (f - t)) (y * (f - t) + s * (t - f))
    go (up m p) (up n q) =
        let a : t - f ≡ n = omega arith in
        let b : f - t ≡ 0 = omega arith in
        rw (sub_pos y s m p, sub_pos t f n q, a, b, p) (sym (sub_pos ((s + m) * n + s * 0) ((s + m) * 0 + s * n) (m * n) (omega arith)))
    go (up m p) (down n q) =
        let a : t - f ≡ 0 = omega arith in
        let b : f - t ≡ suc n = omega arith in
        rw (sub_pos y s m p, sub_neg t f n q, a, b, p) (neg_is (m * suc n) ((s + m) * 0 + s * suc n) ((s + m) * suc n + s * 0) (omega arith))
    go (down m p) (up n q) =
        let a : t - f ≡ n = omega arith in
        let b : f - t ≡ 0 = omega arith in
        rw (sub_neg y s m p, sub_pos t f n q, a, b, p) (neg_is (suc m * n) (y * n + (y + suc m) * 0) (y * 0 + (y + suc m) * n) (omega arith))
    go (down m p) (down n q) =
        let a : t - f ≡ 0 = omega arith in
        let b : f - t ≡ suc n = omega arith in
        rw (sub_neg y s m p, sub_neg t f n q, a, b, p) (sym (sub_pos (y * 0 + (y + suc m) * suc n) (y * suc n + (y + suc m) * 0) (suc m * suc n) (omega arith)))

-- ---- the sum

abbrev fore : Record ℕ → ℕ
fore (rec kind y f t) = t - f

abbrev back : Record ℕ → ℕ
back (rec kind y f t) = f - t

step_sub : (L n : ℕ) → step L n ≡ sub_ℕ n L
unfolding step
step_sub L n = minus_sub n L

term_is : (L y f t : ℕ) → step L y *ℤ (step L t -ℤ step L f) ≡ sub_ℕ (y * (t - f) + L * (f - t)) (y * (f - t) + L * (t - f))
term_is L y f t =
    ap₂ ◌*ℤ◌ (step_sub L y) (ap₂ ◌+ℤ◌ (step_sub L t) (ap neg_ℤ (step_sub L f) ∙ sub_flip f L) ∙ sub_add t L L f ∙ sub_same (t + L) (L + f) t f (omega arith))
    ∙ sub_times y L t f

sum_is : (L : ℕ) (rs : List (Record ℕ)) → All Kind0 rs → signed_sum (map (lowered L) rs) ≡ sub_ℕ (sum_of plus rs + L * sum_of back rs) (sum_of minus rs + L * sum_of fore rs)
unfolding signed_sum sum_of
sum_is L [] a = sym (sub_pos (0 + L * 0) (0 + L * 0) 0 (omega arith))
sum_is L (rec zero y f t ∷ rs) a =
    ap₂ ◌+ℤ◌ (term_is L y f t) (sum_is L rs a.1)
    ∙ sub_add (y * (t - f) + L * (f - t)) (y * (f - t) + L * (t - f)) (sum_of plus rs + L * sum_of back rs) (sum_of minus rs + L * sum_of fore rs)
    ∙ sub_same (y * (t - f) + L * (f - t) + (sum_of plus rs + L * sum_of back rs)) (y * (f - t) + L * (t - f) + (sum_of minus rs + L * sum_of fore rs))
    (y * (t - f) + sum_of plus rs + L * (f - t + sum_of back rs)) (y * (f - t) + sum_of minus rs + L * (t - f + sum_of fore rs)) (regroup (y * (t - f)) (y * (f - t)) (f - t) (t - f) (sum_of plus rs) (sum_of minus rs) (sum_of back rs) (sum_of fore rs))
  where
    regroup : (p q b c P Q B C : ℕ) → p + L * b + (P + L * B) + (q + Q + L * (c + C)) ≡ p + P + L * (b + B) + (q + L * c + (Q + L * C))
    regroup p q b c P Q B C = rw (mul-add L c C, mul-add L b B) (omega arith)
sum_is L (rec (suc k) y f t ∷ rs) a = absurd (omega (arith, a.0))

-- ---- as much goes east as west

lengths : (ψ : Record ℕ → ℕ) (m : Dir → ℕ) → ((y : ℕ) → Additive (λ r. ψ (record_at 0 y r))) → ((y k : ℕ) (d : Dir) → ψ (record_at 0 y (run k (suc k) d)) ≡ m d)
    → (N : ℕ) (g : ℕ → ℕ → Bool) → sum_of ψ (kind_n 0 (level_n g) N) ≡ total (λ i. total (λ y. m (step_n (g i) y)) 0 (suc N)) 0 N
unfolding level_n
lengths ψ m A piece N g =
    sum_kind ψ 0 (level_n g) N A
    ∙ ap (λ (h : ℕ → ℕ → ℕ). total (λ y. total (h y) 0 N) 0 (suc N)) (fun_ext (λ y. fun_ext (λ k. piece y k (level_n g y k))))
    ∙ total_swap (λ y i. m (step_n (g i) y)) 0 (suc N) 0 N

fore_adds : (y : ℕ) → Additive (λ r. fore (record_at 0 y r))
fore_adds y = record { none = λ a b. omega arith; both = go }
  where
    go : (a b c : ℕ) (d : Dir) → a ≤ b → b ≤ c → fore (record_at 0 y (run a b d)) + fore (record_at 0 y (run b c d)) ≡ fore (record_at 0 y (run a c d))
    go a b c off p q = omega arith
    go a b c fwd p q = omega arith
    go a b c bwd p q = omega arith

back_adds : (y : ℕ) → Additive (λ r. back (record_at 0 y r))
back_adds y = record { none = λ a b. omega arith; both = go }
  where
    go : (a b c : ℕ) (d : Dir) → a ≤ b → b ≤ c → back (record_at 0 y (run a b d)) + back (record_at 0 y (run b c d)) ≡ back (record_at 0 y (run a c d))
    go a b c off p q = omega arith
    go a b c fwd p q = omega arith
    go a b c bwd p q = omega arith

fore_piece : (y k : ℕ) (d : Dir) → fore (record_at 0 y (run k (suc k) d)) ≡ east d
fore_piece y k off = omega arith
fore_piece y k fwd = omega arith
fore_piece y k bwd = omega arith

back_piece : (y k : ℕ) (d : Dir) → back (record_at 0 y (run k (suc k) d)) ≡ west d
back_piece y k off = omega arith
back_piece y k fwd = omega arith
back_piece y k bwd = omega arith

level_balance : (N : ℕ) (g : ℕ → ℕ → Bool) → ((i : ℕ) → g i N ≡ false) → sum_of fore (kind_n 0 (level_n g) N) ≡ sum_of back (kind_n 0 (level_n g) N)
level_balance N g top =
    lengths fore east fore_adds fore_piece N g
    ∙ total_same _ _ 0 N (λ i _ _. omega (arith, climb (g i) 0 N, ap bit (ap (g i) (zero-add N) ∙ top i)))
    ∙ sym (lengths back west back_adds back_piece N g)

-- ---- the verticals add nothing

sum_append : (rs ss : List (Record ℤ)) → signed_sum ss ≡ pos 0 → signed_sum (rs ++ ss) ≡ signed_sum rs
unfolding signed_sum
sum_append [] ss h = h
sum_append (r ∷ rs) ss h = ap (◌+ℤ◌ (signed_term r)) (sum_append rs ss h)

line_adds : (L : ℕ) (z : ℤ) (rs : List Run) → signed_sum (map (record_of (step L) 1 z) rs) ≡ pos 0
unfolding signed_sum
line_adds L z [] = refl
line_adds L z (run l h off ∷ rs) = +ℤ_idl (signed_sum (map (record_of (step L) 1 z) rs)) ∙ line_adds L z rs
line_adds L z (run l h fwd ∷ rs) = +ℤ_idl (signed_sum (map (record_of (step L) 1 z) rs)) ∙ line_adds L z rs
line_adds L z (run l h bwd ∷ rs) = +ℤ_idl (signed_sum (map (record_of (step L) 1 z) rs)) ∙ line_adds L z rs

lines_add : (L : ℕ) (F : ℕ → ℕ → Dir) (N a n : ℕ) → signed_sum (each (λ p. map (record_of (step L) 1 (step L p)) (line (F p) 0 N)) a n) ≡ pos 0
unfolding each signed_sum
lines_add L F N a zero = refl
lines_add L F N a (suc n) =
    sum_append (map (record_of (step L) 1 (step L a)) (line (F a) 0 N)) (each (λ p. map (record_of (step L) 1 (step L p)) (line (F p) 0 N)) (suc a) n) (lines_add L F N (suc a) n)
    ∙ line_adds L (step L a) (line (F a) 0 N)

-- ---- the area

pub signed_area : (L : ℕ) (g : ℤ → ℤ → Bool) → Within L g → signed_sum (result L g) ≡ pos (cells L g)
unfolding result kind_of
signed_area L g w =
    let ks : List (Record ℕ) = kind_n 0 (level_n (view L g)) (2 * L) in
    let top : (i : ℕ) → view L g i (2 * L) ≡ false = λ i. (within_bounded L g w).top i (2 * L) (omega arith) in
    sum_append (kind_of L 0 (level g)) (kind_of L 1 (upright g)) (lines_add L (λ p k. upright g (step L p) (step L k)) (2 * L) 0 (suc (2 * L)))
    ∙ ap signed_sum (levels_view L g w)
    ∙ sum_is L ks (kind_zero 0 L g w)
    ∙ sub_pos (sum_of plus ks + L * sum_of back ks) (sum_of minus ks + L * sum_of fore ks) (cells_n (2 * L) (view L g))
    (even (sum_of plus ks) (sum_of minus ks) (sum_of back ks) (sum_of fore ks) (cells_n (2 * L) (view L g)) (area (2 * L) (view L g) top) (level_balance (2 * L) (view L g) top))
    ∙ ap pos (sym (cells_view L g))
  where
    even : (P M B F c : ℕ) → P ≡ M + c → F ≡ B → P + L * B ≡ M + L * F + c
    even P M B F c p q = rw (p, q) (omega arith)

pub area_at_most : (L : ℕ) (g : ℤ → ℤ → Bool) → cells L g ≤ 2 * L * (2 * L)
area_at_most L g = rw (cells_view L g) (cells_le (2 * L) (view L g))
