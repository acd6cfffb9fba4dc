-- What the loop of `sum_up` keeps. Assumes nothing.
use mathlib.Core.Path.{◌≡◌, refl, ap₂, ◌∙◌}
use mathlib.Core.List.{List}
use Prim.Native.Nat.{ℕ, suc, ◌+◌, ◌*◌, ◌-◌, ◌<◌, ◌≤◌}
use native.Mathlib.Omega.{arith}
use native.Mathlib.Decide.{ℕ_discrete}
use lib.IntN.{pos, ◌-ℤ◌}
use lib.ListN.{length, get_or, set, length-set}
use lib.Seq.{get_or-set_same, get_or-set_other}
use Rattle.meaning.specs.Numbers.{bit}
use Rattle.meaning.specs.Edges.{covers}
use Rattle.strips.specs.Rows.{row_at, layer_fits}
use Rattle.strips.specs.Cover.{turned_to, Passed}
use Rattle.strips.specs.PassLaws.{pass_start, pass_here}
use Rattle.strips.specs.Strips.{taken_over, Taken, TakeOk}
use Rattle.marks.specs.Marks.{run_to, SumOk, SummedTo}

-- ---- passes

pass_on : (f g : ℕ → ℕ) (a r r' : ℕ) (xs₀ xs xs' : List ℕ) → Passed 0 f a r xs₀ xs → Passed 0 g r r' xs xs' → a ≤ r → r' ≡ r + 1 → g r ≡ f r → Passed 0 f a r' xs₀ xs'
pass_on f g a r r' xs₀ xs xs' P Q h w e = record {
  long = Q.long ∙ P.long;
  made = λ q u v. go q u v (ℕ_discrete q r);
  same = λ q n. Q.same q (λ u v. n (omega arith) v) ∙ P.same q (λ u v. n u (omega arith));
}
  where
    go : (q : ℕ) → a ≤ q → q < r' → Dec (q ≡ r) → get_or xs' q 0 ≡ f q
    go q u v (yes p) = rw p (Q.made r (omega arith) (omega arith) ∙ e)
    go q u v (no p) = Q.same q (λ x _. let z : ⊥ = omega arith in absurd z) ∙ P.made q u (omega arith)

pass_set : (v r r' : ℕ) (xs : List ℕ) → r < length xs → r' ≡ r + 1 → Passed 0 (λ _. v) r r' xs (set xs r v)
pass_set v r r' xs h w = record {
  long = length-set xs r v;
  made = λ q g k. let e : q ≡ r = omega arith in rw e (get_or-set_same xs r v 0 h);
  same = λ q n. get_or-set_other xs r q v 0 (λ p. n (omega arith) (omega arith));
}

-- ---- `sum_up`: the strips below r are done

pub record Summing (n l a b r w : ℕ) (c₀ c m₀ m d₀ d : List ℕ) : Type 0 where
  pub from : a ≤ r
  pub to : r ≤ b
  pub top : b < n
  pub few : n ≤ 8192
  pub long : length c ≡ 8 * n
  pub long_m : length m ≡ n
  pub long_d : length d ≡ 8 * n
  pub layer : l * n + n ≤ 8 * n
  pub w_is : w ≡ run_to n d₀ l a (r - a)
  pub summed : SummedTo n l a r c₀ c m₀ m d₀ d (l * n + r)

pub sum_start : {n l a b : ℕ} {c m d : List ℕ} → SumOk n l a b c m d → Summing n l a b a 8192 c c m m d d
unfolding run_to
sum_start {n} {l} {a} {b} {c} {m} {d} ok = let z : a - a ≡ 0 = omega arith in record {
  from = omega arith;
  to = ok.order;
  top = ok.top;
  few = ok.few;
  long = ok.long;
  long_m = ok.covers;
  long_d = ok.marks;
  layer = layer_fits n l ok.layer;
  w_is = rw z;
  summed = record { counts = pass_start _ _ c; digits = pass_start _ _ m; marks = pass_start _ _ d };
}

module _ {n l a b r w : ℕ} {c₀ c m₀ m d₀ d : List ℕ} (ok : SumOk n l a b c₀ m₀ d₀) (S : Summing n l a b r w c₀ c m₀ m d₀ d) (g : r < b) where
  back : a + (r - a) ≡ r
  back = omega (arith, S.from)

  d_old : row_at n d l r ≡ row_at n d₀ l r
  d_old = pass_here _ (l * n + a) (l * n + r) d₀ d S.summed.marks

  c_old : row_at n c l r ≡ row_at n c₀ l r
  c_old = pass_here _ (l * n + a) (l * n + r) c₀ c S.summed.counts

  new_is : taken_over w (row_at n d l r) ≡ run_to n d₀ l a (suc (r - a))
  unfolding run_to
  new_is = rw (back, d_old, S.w_is)

  pub sum_takes : TakeOk n l r (r + 1) (taken_over w (row_at n d l r)) c m
  sum_takes = record {
    long = S.long;
    covers = S.long_m;
    few = S.few;
    layer = ok.layer;
    order = omega arith;
    top = omega (arith, S.top);
    enough = λ q u v. let e : q ≡ r = omega arith in rw e (omega (arith, new_is, c_old, rw back at (ok.enough (r - a) (omega (arith, back)))));
    fits = λ q u v. let e : q ≡ r = omega arith in rw e (omega (arith, new_is, c_old, rw back at (ok.fits (r - a) (omega (arith, back)))));
  }

  pub sum_turn : {c' m' : List ℕ} → Taken n l r (r + 1) (taken_over w (row_at n d l r)) c c' m m' → Summing n l a b (r + 1) (taken_over w (row_at n d l r)) c₀ c' m₀ m' d₀ (set d (l * n + r) 8192)
  sum_turn {c'} {m'} T =
      let z : r + 1 - a ≡ suc (r - a) = omega (arith, S.from) in
      let y : l * n + r - (l * n + a) ≡ r - a = omega arith in
      record {
        from = omega (arith, S.from);
        to = omega arith;
        top = S.top;
        few = S.few;
        long = T.counts.long ∙ S.long;
        long_m = T.digits.long ∙ S.long_m;
        long_d = length-set d (l * n + r) 8192 ∙ S.long_d;
        layer = S.layer;
        w_is = rw z new_is;
        summed = record {
          counts = pass_on _ _ (l * n + a) (l * n + r) (l * n + (r + 1)) c₀ c c' S.summed.counts T.counts (omega (arith, S.from)) (omega arith) (rw y (ap₂ taken_over c_old new_is));
          digits = pass_on _ _ a r (r + 1) m₀ m m' S.summed.digits T.digits S.from refl
              (ap₂ (λ (x k : ℕ). turned_to x l (bit (covers (pos k -ℤ pos 8192)))) (pass_here _ a r m₀ m S.summed.digits) (ap₂ taken_over c_old new_is));
          marks = pass_on _ _ (l * n + a) (l * n + r) (l * n + (r + 1)) d₀ d _ S.summed.marks (pass_set 8192 (l * n + r) (l * n + (r + 1)) d (omega (arith, S.long_d, S.layer, S.top)) (omega arith)) (omega (arith, S.from)) (omega arith) refl;
        };
      }
