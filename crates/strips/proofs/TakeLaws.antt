-- What the loop of `take_over` keeps, and what `cross` hands on. Assumes nothing.
use mathlib.Core.Path.{◌≡◌, refl, ap, ap₂, ◌∙◌}
use mathlib.Core.List.{List}
use Prim.Native.Nat.{ℕ, ◌+◌, ◌*◌, ◌<◌, ◌≤◌}
use native.Mathlib.Omega.{arith}
use native.Mathlib.Decide.{dec_lt, ℕ_discrete}
use Rattle.std.proofs.Common.{min, max}
use lib.Dec.{ltb}
use lib.IntN.{pos, ◌-ℤ◌}
use lib.ListN.{length, get_or, set, length-set}
use lib.Seq.{get_or-set_same, get_or-set_other}
use Rattle.meaning.specs.Numbers.{bit}
use Rattle.meaning.specs.Edges.{covers}
use Rattle.strips.specs.Rows.{row_at}
use Rattle.strips.specs.Cover.{turned_to, Passed}
use Rattle.strips.specs.PassLaws.{pass_here}
use borrow.Author.Tests.{lt-ltb, le-ltb}
use mathlib.Core.Bool.{Bool}
use Rattle.scanline.specs.declared.Scanline.{Scanline}
use Rattle.scanline.specs.Handed.{changed, fresh_line, past}
use Rattle.scanline.specs.HandedLaws.{handed_on}
use Rattle.strips.specs.Strips.{taken_over, Taken, TakeOk, lower, upper, Crossed}

-- ---- one pass: the places below r are done

pass_turn : (f : ℕ → ℕ) (a r r' : ℕ) (xs₀ xs : List ℕ) (v : ℕ) → Passed 0 f a r xs₀ xs → a ≤ r → r < length xs → v ≡ f r → r' ≡ r + 1 → Passed 0 f a r' xs₀ (set xs r v)
pass_turn f a r r' xs₀ xs v P h l e w = record {
  long = length-set xs r v ∙ P.long;
  made = λ q g k. go q g k (ℕ_discrete q r);
  same = λ q n. get_or-set_other xs r q v 0 (λ p. n (omega arith) (omega arith)) ∙ P.same q (λ u u'. n u (omega arith));
}
  where
    go : (q : ℕ) → a ≤ q → q < r' → Dec (q ≡ r) → get_or (set xs r v) q 0 ≡ f q
    go q g k (yes p) = rw p (get_or-set_same xs r v 0 l ∙ e)
    go q g k (no p) = get_or-set_other xs r q v 0 p ∙ P.made q g (omega arith)

-- ---- `take_over`: the strips below r are done

pub record Taking (n l a b h r : ℕ) (c₀ c m₀ m : List ℕ) : Type 0 where
  pub from : a ≤ r
  pub to : r ≤ b
  pub top : b ≤ n
  pub few : n ≤ 8192
  pub long : length c ≡ 8 * n
  pub long_m : length m ≡ n
  pub layer : l * n + n ≤ 8 * n
  pub taken : Taken n l a r h c₀ c m₀ m

module _ {n l a b h r : ℕ} {c₀ c m₀ m : List ℕ} (ok : TakeOk n l a b h c₀ m₀) (S : Taking n l a b h r c₀ c m₀ m) (g : r < b) where
  row_old : row_at n c l r ≡ row_at n c₀ l r
  row_old = pass_here _ (l * n + a) (l * n + r) c₀ c S.taken.counts

  pub taking_turn : (on : Bool) (v : ℕ) → on ≡ covers (pos (taken_over (row_at n c l r) h) -ℤ pos 8192) → v ≡ turned_to (get_or m r 0) l (bit on)
      → Taking n l a b h (r + 1) c₀ (set c (l * n + r) (taken_over (row_at n c l r) h)) m₀ (set m r v)
  taking_turn on v e q = record {
    from = omega (arith, S.from);
    to = omega arith;
    top = S.top;
    few = S.few;
    long = length-set c (l * n + r) (taken_over (row_at n c l r) h) ∙ S.long;
    long_m = length-set m r v ∙ S.long_m;
    layer = S.layer;
    taken = record {
      counts = pass_turn _ (l * n + a) (l * n + r) (l * n + (r + 1)) c₀ c _ S.taken.counts (omega (arith, S.from)) (omega (arith, S.long, S.layer, S.top)) (ap (λ (k : ℕ). taken_over k h) row_old) (omega arith);
      digits = pass_turn _ a r (r + 1) m₀ m v S.taken.digits S.from (omega (arith, S.long_m, S.top))
          (q ∙ ap₂ (λ (x y : ℕ). turned_to x l y) (pass_here _ a r m₀ m S.taken.digits) (ap bit (e ∙ ap (λ (k : ℕ). covers (pos (taken_over k h) -ℤ pos 8192)) row_old))) refl;
    };
  }

-- ---- `cross`: the counts that a fresh scanline hands on

pub handed_is : (s s' : Scanline) (l : ℕ) (w : Bool) → s ≡ fresh_line → s' ≡ past s l w → l < 8 → get_or s'.counts.raised l 0 ≡ changed 8192 w
handed_is s s' l w e e' h = rw (e', e) (handed_on l w h)

module _ (f t : ℕ) where
  min_is : min t f ≡ lower f t
  min_is = go (dec_lt t f)
    where
      go : Dec (t < f) → min t f ≡ lower f t
      go (yes u) = rw (lt-ltb t f u) (omega arith)
      go (no u) = let v : f ≤ t = omega arith in rw (le-ltb t f v) (omega arith)

  max_is : max t f ≡ upper f t
  max_is = go (dec_lt t f)
    where
      go : Dec (t < f) → max t f ≡ upper f t
      go (yes u) = rw (lt-ltb t f u) (omega arith)
      go (no u) = let v : f ≤ t = omega arith in rw (le-ltb t f v) (omega arith)

  pub crossed_is : {n l a b h : ℕ} {c₀ c m₀ m : List ℕ} → a ≡ min t f → b ≡ max t f → h ≡ changed 8192 (ltb t f) → Taken n l a b h c₀ c m₀ m → Crossed n l f t c₀ c m₀ m
  crossed_is u v e T = rw (u ∙ min_is, v ∙ max_is, e) at T
