-- Corners and columns over whole numbers: every edge is a corner at its `to` and one at its `from`. Assumes nothing.
--
--   to_up_to i, from_up_to i    the edge's to (from) is at most i
--   corners                 CORNERS: a layer's count at (i, j) is the number of its to-corners up to i and j, less that of its from-corners
--   columns                 the same of whole columns
--   closed_up_to, up_to_closed   CLOSED: a list is closed exactly when each layer has as many to- as from-corners up to each column
use Rattle.std.specs.Prelude.{◌≡◌, refl, Bool, ◌&&◌, List, [], ◌∷◌, ℕ, ◌+◌, ℤ}
use Rattle.std.proofs.Common.{arith}
use Rattle.std.specs.Int.Signed.{le_z, lt_z}
use Rattle.meaning.specs.Numbers.{bit}
use Rattle.meaning.specs.Edges.{Edge, edge, west, east, on, up_to, number, wests, easts, Closed}
use Rattle.basic_laws.specs.Signed.{not_le_z}
use Rattle.basic_laws.specs.Tests.{one_column, one_corner}

unfoldable pub to_up_to : ℤ → Edge ℤ → Bool
to_up_to i (edge l y f t) = le_z t i

unfoldable pub from_up_to : ℤ → Edge ℤ → Bool
from_up_to i (edge l y f t) = le_z f i

pub corners : (es : List (Edge ℤ)) (c : ℕ) (i j : ℤ)
    → wests es c i j + number (λ e. (on c e && from_up_to i e) && up_to j e) es ≡ easts es c i j + number (λ e. (on c e && to_up_to i e) && up_to j e) es
unfolding wests easts number west east to_up_to from_up_to
corners [] c i j = refl
corners (edge l y f t ∷ es) c i j =
    let e = edge l y f t in
    let h : bit ((on c e && (le_z t i && lt_z i f)) && up_to j e) + bit ((on c e && le_z f i) && up_to j e) ≡ bit ((on c e && (le_z f i && lt_z i t)) && up_to j e) + bit ((on c e && le_z t i) && up_to j e) =
    rw (not_le_z i f, not_le_z i t) (one_corner (on c e) (up_to j e) (le_z f i) (le_z t i)) in
    omega (arith, h, corners es c i j)

pub columns : (es : List (Edge ℤ)) (c : ℕ) (i : ℤ)
    → number (λ e. on c e && west i e) es + number (λ e. on c e && from_up_to i e) es ≡ number (λ e. on c e && east i e) es + number (λ e. on c e && to_up_to i e) es
unfolding number west east to_up_to from_up_to
columns [] c i = refl
columns (edge l y f t ∷ es) c i =
    let e = edge l y f t in
    let h : bit (on c e && (le_z t i && lt_z i f)) + bit (on c e && le_z f i) ≡ bit (on c e && (le_z f i && lt_z i t)) + bit (on c e && le_z t i) =
    rw (not_le_z i f, not_le_z i t) (one_column (on c e) (le_z f i) (le_z t i)) in
    omega (arith, h, columns es c i)

pub closed_up_to : (es : List (Edge ℤ)) → Closed es → (c : ℕ) (i : ℤ) → number (λ e. on c e && from_up_to i e) es ≡ number (λ e. on c e && to_up_to i e) es
unfolding Closed
closed_up_to es h c i = omega (arith, columns es c i, h c i)

pub up_to_closed : (es : List (Edge ℤ)) → ((c : ℕ) (i : ℤ) → number (λ e. on c e && from_up_to i e) es ≡ number (λ e. on c e && to_up_to i e) es) → Closed es
unfolding Closed
up_to_closed es h c i = omega (arith, columns es c i, h c i)
