-- A number read and written group by group, as the code does it. Assumes nothing.
--
--   read_none, read_end, read_one   the reader's answer where no group is left, at the end, at a last group
--   read_more                       after a continued group: what the others make, joined to it
--   join_refused, join_zero, join_value   the three ways of that
--   value_below                     a value read leaves room for one group more
--   write_one, write_more           the writer's two ways
use mathlib.Core.Path.{◌≡◌, refl, sym, ap, ◌∙◌}
use mathlib.Core.List.{List, ◌∷◌}
use Prim.Native.Nat.{ℕ, zero, suc, ◌+◌, ◌-◌, ◌*◌, ◌/◌, ◌%◌, ◌≤◌, ◌<◌}
use native.Mathlib.Omega.{arith}
use native.Mathlib.Nat.{pow-suc, pow-le-pow_right}
use native.Mathlib.Numerals.{add-one}
use lib.Dec.{lit≤}
use Rattle.std.specs.Prelude.{Ok, Err}
use lib.ListN.{length, get_or, set, drop, drop_of_length-le}
use lib.Seq.{drop-cons, sets}
use borrow.Author.Tests.{eq-eqb, ne_eqb}
use Rattle.meaning.specs.MaskFile.{spelt, most}
use Rattle.answers.specs.declared.Refusal.{Refusal}
use Rattle.answers.specs.declared.Refusal.TheVariants.{EndsInside, BadNumber}
use Rattle.ring_laws.specs.Groups.{Front, cut, bad, number, front, continue, clash, front_one, front_more, front_bounds, spelt_one, spelt_more}
use Rattle.numbers.specs.Reading.{Reading, Value, reading, joined}
use Rattle.numbers.specs.declared.Number.{Number}

-- g is not 0
pub pred : (g : ℕ) → (g ≡ 0 → ⊥) → g ≡ suc (g - 1)
pred g h = omega arith

module _ (l : List ℕ) (start at g : ℕ) where
  pub read_none : g ≡ 0 → Err (BadNumber start) ≡ reading (length l) start at (front g (drop at l))
  unfolding front reading
  read_none e = rw e

  pub read_end : (g ≡ 0 → ⊥) → length l ≤ at → Err (EndsInside (length l)) ≡ reading (length l) start at (front g (drop at l))
  unfolding front reading
  read_end e h = rw (drop_of_length-le l h, pred g e)

  module _ (b : ℕ) (e : b ≡ get_or l at 0) (h : at < length l) (n : g ≡ 0 → ⊥) where
    front_at : (s : Front) → front (suc (g - 1)) (b ∷ drop (suc at) l) ≡ s → front g (drop at l) ≡ s
    front_at s q = ap (λ (k : ℕ). front k (drop at l)) (pred g n) ∙ ap (front (suc (g - 1))) (drop-cons l at 0 h ∙ ap (λ (x : ℕ). x ∷ drop (suc at) l) (sym e)) ∙ q

    pub read_one : b < 128 → Value b (at + 1) ≡ reading (length l) start at (front g (drop at l))
    unfolding reading
    read_one s = sym (ap (reading (length l) start at) (front_at (number b 1) (front_one (g - 1) b (drop (suc at) l) s)))

    pub read_more : 128 ≤ b → joined b start (reading (length l) start (at + 1) (front (g - 1) (drop (at + 1) l))) ≡ reading (length l) start at (front g (drop at l))
    unfolding reading
    read_more s =
        rw add-one
        (join (front (g - 1) (drop (suc at) l))
        ∙ sym (ap (reading (length l) start at) (front_at (continue b (front (g - 1) (drop (suc at) l))) (front_more (g - 1) b (drop (suc at) l) s))))
      where
        join : (r : Front) → joined b start (reading (length l) start (suc at) r) ≡ reading (length l) start at (continue b r)
        join cut = refl
        join bad = refl
        join (number zero k) = refl
        join (number (suc v) k) = rw (ne_eqb (suc v) 0 (λ q. omega arith)) (ap (Value (b % 128 + 128 * suc v)) (omega arith))

-- ---- what was read after a continued group

module _ (b start : ℕ) (rest : Reading) where
  pub join_refused : (f : Refusal) → rest ≡ Err f → rest ≡ joined b start rest
  join_refused f e = rw e

  pub join_zero : (n : Number) → rest ≡ Ok n → n.value ≡ 0 → Err (BadNumber start) ≡ joined b start rest
  join_zero n e z = rw (e, eq-eqb n.value 0 z)

  pub join_value : (n : Number) → rest ≡ Ok n → (n.value ≡ 0 → ⊥) → Value (b % 128 + 128 * n.value) n.next ≡ joined b start rest
  join_value n e z = rw (e, ne_eqb n.value 0 z)

-- a value read in at most eight groups
pub value_below : (len start at g : ℕ) (bs : List ℕ) (r : Reading) (n : Number) → g ≤ 8 → r ≡ reading len start at (front g bs) → r ≡ Ok n → n.value < 72057594037927936
unfolding reading
value_below len start at g bs r n h e q = go (front g bs) refl (sym e ∙ q)
  where
    go : (s : Front) → front g bs ≡ s → reading len start at s ≡ Ok n → n.value < 72057594037927936
    go cut k w = clash (cc)
    go bad k w = clash (cc)
    go (number u m) k w =
        let i : u ≡ n.value = cc in
        omega (arith, (front_bounds g bs u m k).0, pow-le-pow_right {n = 128} (lit≤ tt) h)

-- ---- writing

pub write_one : (g v at : ℕ) (l out : List ℕ) → 1 ≤ g → v < 128 → out ≡ set l at v → (at + 1 ≡ at + length (spelt g v)) × (out ≡ sets l at (spelt g v))
write_one zero v at l out o h e = absurd (omega arith)
write_one (suc g) v at l out o h e = rw (spelt_one g v h) (refl, e)

-- a number of several groups
pub record Several (g v : ℕ) : Type 0 where
  pub some : 2 ≤ g
  pub groups : spelt g v ≡ (v % 128 + 128) ∷ spelt (g - 1) (v / 128)
  pub long : length (spelt g v) ≡ 1 + length (spelt (g - 1) (v / 128))
  pub fits : v / 128 < most (g - 1)

pub several : (g v : ℕ) → v < most g → 128 ≤ v → Several g v
several zero v h k = absurd (omega arith)
several (suc zero) v h k = absurd (omega arith)
several (suc (suc g)) v h k =
    let e : suc (suc g) - 1 ≡ suc g = omega arith in
    record { some = omega arith; groups = rw (e, spelt_more (suc g) v k); long = rw (e, spelt_more (suc g) v k) (omega arith); fits = rw e (omega (arith, pow-suc 128 (suc g))) }

pub write_more : (g v at r : ℕ) (l mid out : List ℕ) → Several g v → mid ≡ set l at (v % 128 + 128) → r ≡ at + 1 + length (spelt (g - 1) (v / 128)) → out ≡ sets mid (at + 1) (spelt (g - 1) (v / 128)) → (r ≡ at + length (spelt g v)) × (out ≡ sets l at (spelt g v))
write_more g v at r l mid out s m n e = (n ∙ omega (arith, s.long), e ∙ rw (m, s.groups, add-one))
