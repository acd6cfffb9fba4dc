-- Closed lists and bounds, decided by a test over the edges' own places.
use Rattle.std.specs.Prelude.{◌≡◌, refl, Bool, true, false, ◌||◌, List, [], ◌∷◌, ℕ, zero, suc, ◌<◌, leb, eqb}
use Rattle.std.proofs.Common.{sym, ap, ◌∙◌, arith, ne_eqb, eqb-true, leb-true}
use Rattle.std.proofs.lemmas.Bool.{false≢true}
use Rattle.meaning.specs.Edges.{Edge, edge, number}
use Rattle.basic_laws.specs.Tests.{and_left, and_right}
use Rattle.basic_laws.specs.Lists.{All, all_map, number_same, number_none, all_by}
use Rattle.grid_laws.specs.Plane.{ClosedN, goes_west, goes_east, xs_of}
use Rattle.grid_laws.specs.Places.{has, has_tail, has_ne, none_past}
use Rattle.grid_laws.specs.Compression.{cols_same, cols_early}

pub all_has : (P : ℕ → Bool) (ps : List ℕ) (k : ℕ) → all_by P ps ≡ true → has k ps ≡ true → P k ≡ true
unfolding all_by has
all_has P [] k a h = absurd (false≢true h)
all_has P (p ∷ ps) k a h = go (eqb k p) refl h (all_has P ps k (and_right (P p) (all_by P ps) a))
  where
    go : (t : Bool) → eqb k p ≡ t → (t || has k ps) ≡ true → (has k ps ≡ true → P k ≡ true) → P k ≡ true
    go true e h ih = rw (eqb-true k p e) (and_left (P p) (all_by P ps) a)
    go false e h ih = ih h

-- no place past N
pub within_all : (N : ℕ) (ps : List ℕ) → all_by (λ p. leb p N) ps ≡ true → (y : ℕ) → N < y → has y ps ≡ false
within_all N ps a = none_past N ps (λ k e. leb-true k N (all_has (λ p. leb p N) ps k a e))

unfoldable pub layers_of : List (Edge ℕ) → List ℕ
layers_of [] = []
layers_of (edge c y f t ∷ es) = c ∷ layers_of es

-- west and east are equal in number for the layers cs over the columns bs
unfoldable pub closed_over : List ℕ → List ℕ → List (Edge ℕ) → Bool
closed_over cs bs es = all_by (λ i. all_by (λ c. eqb (number (goes_west c i) es) (number (goes_east c i) es)) cs) bs

unfoldable pub closed_test : List (Edge ℕ) → Bool
closed_test es = closed_over (layers_of es) (xs_of es) es

pub layers_none : (c i : ℕ) (es : List (Edge ℕ)) → has c (layers_of es) ≡ false → All (λ e. (goes_west c i e ≡ false) × (goes_east c i e ≡ false)) es
unfolding layers_of goes_west goes_east
layers_none c i [] h = tt
layers_none c i (edge b y f t ∷ es) h =
    let n : eqb b c ≡ false = ne_eqb b c (λ e. has_ne c b (layers_of es) h (sym e)) in
    ((rw n, rw n), layers_none c i es (has_tail c b (layers_of es) h))

-- a test over the columns where an edge ends, and the layers that an edge has, is enough
pub closed_from : (cs bs : List ℕ) (es : List (Edge ℕ)) → ((c : ℕ) → has c cs ≡ false → has c (layers_of es) ≡ false) → ((y : ℕ) → has y bs ≡ has y (xs_of es))
    → closed_over cs bs es ≡ true → ClosedN es
unfolding closed_over ClosedN
closed_from cs bs es hc hb t c i = each_layer (has c cs) refl
  where
    same : (i : ℕ) → has c cs ≡ true → (b : Bool) → has i bs ≡ b → (has i (xs_of es) ≡ false → number (goes_west c i) es ≡ number (goes_east c i) es) → number (goes_west c i) es ≡ number (goes_east c i) es
    same i h true e k = eqb-true _ _ (all_has (λ c. eqb (number (goes_west c i) es) (number (goes_east c i) es)) cs c (all_has (λ i. all_by (λ c. eqb (number (goes_west c i) es) (number (goes_east c i) es)) cs) bs i t e) h)
    same i h false e k = k (sym (hb i) ∙ e)

    col : (i : ℕ) → has c cs ≡ true → number (goes_west c i) es ≡ number (goes_east c i) es
    col zero h = same zero h (has zero bs) refl (λ z.
        let s = cols_early zero es (λ k l. ap (λ (x : ℕ). has x (xs_of es)) (omega arith) ∙ z) in
        number_none (goes_west c zero) es (all_map _ _ es (λ e h. (h c).0) s) ∙ sym (number_none (goes_east c zero) es (all_map _ _ es (λ e h. (h c).1) s)))
    col (suc i) h = let ih = col i h in same (suc i) h (has (suc i) bs) refl (λ z.
        let s = cols_same i (suc i) es (omega arith) (λ k l m. ap (λ (x : ℕ). has x (xs_of es)) (omega arith) ∙ z) in
        number_same (goes_west c (suc i)) (goes_west c i) es (all_map _ _ es (λ e h. (h c).0) s) ∙ ih ∙ sym (number_same (goes_east c (suc i)) (goes_east c i) es (all_map _ _ es (λ e h. (h c).1) s)))

    each_layer : (b : Bool) → has c cs ≡ b → number (goes_west c i) es ≡ number (goes_east c i) es
    each_layer true e = col i e
    each_layer false e =
        let s = layers_none c i es (hc c e) in
        number_none (goes_west c i) es (all_map _ _ es (λ e h. h.0) s) ∙ sym (number_none (goes_east c i) es (all_map _ _ es (λ e h. h.1) s))

pub closed_by : (es : List (Edge ℕ)) → closed_test es ≡ true → ClosedN es
unfolding closed_test
closed_by es t = closed_from (layers_of es) (xs_of es) es (λ c h. h) (λ y. refl) t
