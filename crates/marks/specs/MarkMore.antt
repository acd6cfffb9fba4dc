-- The marks of one edge more. Assumes nothing.
--
--   marked_more    `marked_by` marks one edge more
use Rattle.std.specs.Prelude.{◌≡◌, refl, Bool, ◌&&◌, List, ℕ, ◌+◌, ◌*◌, ◌-◌, ◌<◌, ◌≤◌, eqb, length, get_or}
use Rattle.std.proofs.Common.{sym, ◌∙◌, arith, mul-le-mul_right, length-set, get_or-set_same, get_or-set_other, eq-eqb, ne_eqb}
use Rattle.std.proofs.Math.Decide.{dec_lt, ℕ_discrete}
use Rattle.meaning.specs.Numbers.{bit}
use Rattle.meaning.specs.Edges.{Edge, edge, number}
use Rattle.strips.specs.Rows.{row_at, layer_fits}
use Rattle.marks.specs.Marks.{from_at, to_at, Marked, less_at, more_at, marked_by}

less_at_is : (d : List ℕ) (p x : ℕ) → p < length d → 0 < get_or d p 0 → get_or (less_at p d) x 0 + bit (eqb p x) ≡ get_or d x 0
less_at_is d p x h g = go (ℕ_discrete x p)
  where
    go : Dec (x ≡ p) → get_or (less_at p d) x 0 + bit (eqb p x) ≡ get_or d x 0
    go (yes e) = rw (e, eq-eqb p p refl) (omega (arith, get_or-set_same d p (get_or d p 0 - 1) 0 h))
    go (no e) = rw (ne_eqb p x (λ q. e (sym q))) (omega (arith, get_or-set_other d p x (get_or d p 0 - 1) 0 e))

more_at_is : (d : List ℕ) (p x : ℕ) → p < length d → get_or (more_at p d) x 0 ≡ get_or d x 0 + bit (eqb p x)
more_at_is d p x h = go (ℕ_discrete x p)
  where
    go : Dec (x ≡ p) → get_or (more_at p d) x 0 ≡ get_or d x 0 + bit (eqb p x)
    go (yes e) = rw (e, eq-eqb p p refl) (omega (arith, get_or-set_same d p (get_or d p 0 + 1) 0 h))
    go (no e) = rw (ne_eqb p x (λ q. e (sym q))) (omega (arith, get_or-set_other d p x (get_or d p 0 + 1) 0 e))

apart : (n j l q r : ℕ) → q < n → j * n + q ≡ l * n + r → l ≤ j
apart n j l q r h e = go (dec_lt j l)
  where
    go : Dec (j < l) → l ≤ j
    go (yes u) = let m : (j + 1) * n ≤ l * n = mul-le-mul_right n (omega arith) in let z : ⊥ = omega arith in absurd z
    go (no u) = omega arith

place_bit : (n l f k r : ℕ) → f < n → r < n → bit (eqb (l * n + f) (k * n + r)) ≡ bit (eqb l k && eqb f r)
place_bit n l f k r hf hr = go (ℕ_discrete l k) (ℕ_discrete f r)
  where
    go : Dec (l ≡ k) → Dec (f ≡ r) → bit (eqb (l * n + f) (k * n + r)) ≡ bit (eqb l k && eqb f r)
    go (yes e) (yes g) = rw (e, g, eq-eqb k k refl, eq-eqb r r refl, eq-eqb (k * n + r) (k * n + r) refl)
    go (yes e) (no g) = rw (e, eq-eqb k k refl, ne_eqb f r g, ne_eqb (k * n + f) (k * n + r) (λ q. g (omega arith)))
    go (no e) g = rw (ne_eqb l k e, ne_eqb (l * n + f) (k * n + r) (λ q. e (omega (arith, apart n l k f r hf q, apart n k l r f hr (sym q)))))

pub marked_more : {n : ℕ} {es : List (Edge ℕ)} {d : List ℕ} → Marked n es d → (es' : List (Edge ℕ)) (l y f t : ℕ) → l < 8 → f < n → t < n → 0 < row_at n d l f
    → ((p : Edge ℕ → Bool) → number p es' ≡ number p es + bit (p (edge l y f t))) → Marked n es' (marked_by n l f t d)
unfolding from_at to_at
marked_more {n} {es} {d} M es' l y f t hl hf ht low more = record {
  long = length-set (less_at (l * n + f) d) (l * n + t) _ ∙ length-set d (l * n + f) _ ∙ M.long;
  marks = λ k r hk hr. omega (
    arith,
    M.marks k r hk hr,
    more (from_at k r),
    more (to_at k r),
    less_at_is d (l * n + f) (k * n + r) (omega (arith, M.long, layer_fits n l hl)) low,
    more_at_is (less_at (l * n + f) d) (l * n + t) (k * n + r) (omega (arith, length-set d (l * n + f) (get_or d (l * n + f) 0 - 1), M.long, layer_fits n l hl)),
    place_bit n l f k r hf hr,
    place_bit n l t k r ht hr,
  );
}
