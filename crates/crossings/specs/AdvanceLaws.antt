-- What the edges of one place, passed one by one, keep. Assumes nothing.
use mathlib.Core.Path.{◌≡◌, refl, ◌∙◌}
use mathlib.Core.Logic.{◌≢◌}
use mathlib.Core.List.{List}
use Prim.Native.Nat.{ℕ, ◌+◌, ◌%◌, ◌<◌, ◌≤◌}
use native.Mathlib.Omega.{arith}
use lib.Dec.{ltb}
use lib.ListN.{length, get_or}
use Rattle.grid_laws.specs.Plane.{goes_west, goes_east}
use Rattle.strips.specs.Rows.{row_at}
use Rattle.strips.specs.Strips.{upper}
use Rattle.strips.specs.StripLaws.{row_out}
use Rattle.crossings.specs.declared.Reach.{Reach}
use Rattle.crossings.specs.Swept.{Swept, height_of, layer_of, from_of, to_of, edges_to, PassOk, Passing, least_of, most_of, AdvanceOk, Advanced}
use Rattle.crossings.specs.SweptLaws.{swept_more, edges_more, edges_few}
use Rattle.crossings.specs.PlaceLaws.{least_both, most_both, pick_le, Along, along_start, along_turn, along_more, along_across, along_below}

-- ---- the loop

pub record Advancing (n : ℕ) (ws layers ends : List ℕ) (g e lo hi : ℕ) (c₀ c m₀ m : List ℕ) : Type 0 where
  pub along : Along n ws ends g e lo hi
  pub swept : Swept n (edges_to ws layers ends e) c m
  pub still : (l r : ℕ) → l < 8 → r < n → (lo ≤ r → r < hi → ⊥) → row_at n c l r ≡ row_at n c₀ l r
  pub still_covers : (r : ℕ) → r < n → (lo ≤ r → r < hi → ⊥) → get_or m r 0 ≡ get_or m₀ r 0

module _ {n : ℕ} {ws layers ends : List ℕ} {g : ℕ} {c₀ m₀ : List ℕ} (ok : AdvanceOk n ws layers ends g c₀ m₀) where
  pub advance_start : Advancing n ws layers ends g g n 0 c₀ c₀ m₀ m₀
  advance_start = record { along = along_start ends ok.some; swept = ok.swept; still = λ l r _ _ _. refl; still_covers = λ r _ _. refl }

  module _ {e lo hi : ℕ} {c m : List ℕ} (S : Advancing n ws layers ends g e lo hi c₀ c m₀ m) where
    module _ (h : e < length ws) where
      pub advance_pass : PassOk n (get_or ws e 0) layers ends c m
      advance_pass =
          let k = ok.words.known e h in
          record {
            known = k;
            two = ok.words.two;
            cross = record {
              long = S.swept.long;
              covers = S.swept.long_covers;
              few = ok.words.rows_few;
              layer = own;
              from = omega (arith, ok.words.ranks (get_or ws e 0 % 8192 + get_or ws e 0 % 8192) (omega (arith, k, ok.words.two)));
              to = omega (arith, ok.words.ranks (get_or ws e 0 % 8192 + get_or ws e 0 % 8192 + 1) (omega (arith, k, ok.words.two)));
              low = λ r hr. omega (arith, S.swept.counts (layer_of layers (get_or ws e 0)) r own hr, edges_few ws layers ends e (goes_east (layer_of layers (get_or ws e 0)) r) S.along.to, ok.words.few);
              high = λ r hr. omega (arith, S.swept.counts (layer_of layers (get_or ws e 0)) r own hr, edges_few ws layers ends e (goes_west (layer_of layers (get_or ws e 0)) r) S.along.to, ok.words.few);
            };
          }
        where
          own : layer_of layers (get_or ws e 0) < 8
          own = ok.words.eight (get_or ws e 0 % 8192) (ok.words.known e h)

      module _ {s : Reach} {c' m' : List ℕ} (P : Passing n (get_or ws e 0) layers ends c c' m m' s) where
        top : upper (from_of ends (get_or ws e 0)) (to_of ends (get_or ws e 0)) ≤ n
        top = pick_le (ltb (to_of ends (get_or ws e 0)) (from_of ends (get_or ws e 0))) _ _ n advance_pass.cross.from advance_pass.cross.to

        pub advance_turn : (lo' hi' y : ℕ) → lo' ≡ least_of lo s.lo → hi' ≡ most_of hi s.hi → height_of (get_or ws e 0) ≡ y → y ≡ height_of (get_or ws g 0)
            → Advancing n ws layers ends g (e + 1) lo' hi' c₀ c' m₀ m'
        advance_turn lo' hi' y p q here-too y-is = record {
          along = along_turn ok.words S.along h P.lo P.hi lo' hi' y p q here-too y-is;
          swept = swept_more advance_pass.cross P.crossed (height_of (get_or ws e 0)) (edges_to ws layers ends (e + 1)) S.swept (λ t. edges_more ws layers ends e t h);
          still = λ l r hl hr d. row_out P.crossed top l r hr (λ _ u v. d (omega (arith, u, P.lo, (least_both lo s.lo).1)) (omega (arith, v, P.hi, (most_both hi s.hi).1)))
              ∙ S.still l r hl hr (λ u v. d (omega (arith, (least_both lo s.lo).0)) (omega (arith, (most_both hi s.hi).0)));
          still_covers = λ r hr d. P.crossed.digits.same r (λ u v. d (omega (arith, u, P.lo, (least_both lo s.lo).1)) (omega (arith, v, P.hi, (most_both hi s.hi).1)))
              ∙ S.still_covers r hr (λ u v. d (omega (arith, (least_both lo s.lo).0)) (omega (arith, (most_both hi s.hi).0)));
        }

    -- the end: no edge of this place is left
    pub advance_done : (e < length ws → height_of (get_or ws e 0) ≢ height_of (get_or ws g 0)) → Advanced n ws layers ends g c₀ c m₀ m (record { next = e; lo = lo; hi = hi })
    advance_done stop =
        let more = along_more ok.words S.along ok.some stop in
        record {
          more = more;
          fits = S.along.to;
          here = S.along.here;
          stop = stop;
          swept = S.swept;
          lo = S.along.lo_is;
          hi = S.along.hi_is;
          order = (S.along.lo_top, S.along.hi_top);
          across = along_across ok.words S.along more;
          below = along_below ok.words S.along more;
          still = S.still;
          still_covers = S.still_covers;
        }
