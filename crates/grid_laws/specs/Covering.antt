-- What the laws know of the coverage rule, and no more. Assumes nothing.
--
--   covers_none    a layer with as many west as east edges does not cover
--   covers_one     a layer with one west edge more covers
--   covers_ltb     the rule in naturals: more west than east edges
--   covers_same    the rule sees only the difference
use Rattle.std.specs.Prelude.{◌≡◌, refl, Bool, true, false, ℕ, suc, ◌+◌, ◌-◌, ◌<◌, ltb, pos, ◌-ℤ◌}
use Rattle.std.proofs.Common.{sym, ap, ◌∙◌, arith, lt-ltb, le-ltb, le-leb}
use Rattle.std.proofs.Math.Decide.{dec_lt}
use Rattle.std.proofs.Math.IntN.{sub_ℕ}
use Rattle.meaning.specs.Numbers.{bit}
use Rattle.meaning.specs.Edges.{covers}
use Rattle.basic_laws.specs.Signed.{minus_sub, sub_pos, sub_neg, sub_same}

pub covers_ltb : (w e : ℕ) → covers (pos w -ℤ pos e) ≡ ltb e w
unfolding covers
covers_ltb w e = go (dec_lt e w)
  where
    go : Dec (e < w) → covers (pos w -ℤ pos e) ≡ ltb e w
    go (yes u) = rw (minus_sub w e, sub_pos w e (w - e) (omega arith), lt-ltb e w u) (le-leb 1 (w - e) (omega arith))
    go (no u) = rw (minus_sub w e, le-ltb e w (omega arith)) (low (dec_lt w e))
      where
        low : Dec (w < e) → covers (sub_ℕ w e) ≡ false
        low (yes v) = rw (sub_neg w e (e - suc w) (omega arith)) refl
        low (no v) = rw (sub_pos w e 0 (omega arith)) refl

pub covers_none : (w e : ℕ) → w ≡ e → covers (pos w -ℤ pos e) ≡ false
covers_none w e q = covers_ltb w e ∙ le-ltb e w (omega arith)

pub covers_one : (w e : ℕ) (b : Bool) → w ≡ e + bit b → covers (pos w -ℤ pos e) ≡ b
covers_one w e true q = covers_ltb w e ∙ lt-ltb e w (omega arith)
covers_one w e false q = covers_ltb w e ∙ le-ltb e w (omega arith)

pub covers_same : (w e v d : ℕ) → w + d ≡ v + e → covers (pos w -ℤ pos e) ≡ covers (pos v -ℤ pos d)
covers_same w e v d q = ap covers (minus_sub w e ∙ sub_same w e v d q ∙ sym (minus_sub v d))
