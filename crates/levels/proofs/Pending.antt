-- What is pending on a line, from a breakpoint on: a stretch ends where the direction changes. Assumes nothing.
--
--   keep_to         where the direction stays, nothing is told
--   rest_off        where there is none to the end, nothing is pending
--   whole_stretch   a stretch in one direction is one run, and then the rest is pending
use mathlib.Core.Path.{◌≡◌, refl, sym, ap, ◌∙◌}
use mathlib.Core.Logic.{◌≢◌}
use mathlib.Core.Bool.{true≢false}
use mathlib.Core.List.{List, [], ◌++◌, append-nil}
use Prim.Native.Nat.{ℕ, zero, suc, ◌+◌, ◌-◌, ◌<◌, ◌≤◌}
use native.Mathlib.Omega.{arith}
use native.Mathlib.Decide.{dec_lt}
use lib.ListN.{length, get_or}
use Rattle.meaning.specs.Cells.{Dir, off, fwd, bwd}
use Rattle.meaning.specs.Records.{same_dir}
use Rattle.grid_laws.specs.Places.{Rising}
use Rattle.grid_laws.specs.Scan.{emit, pending, pend_keep, pend_emit, pend_end}

quiet_to : (h : ℕ → Dir) (s : ℕ) (d : Dir) (xs : List ℕ) (r n : ℕ) → r + n < length xs → ((q : ℕ) → r ≤ q → q < r + n → h (get_or xs q 0) ≡ d) → pending h s d r xs ≡ pending h s d (r + n) xs
quiet_to h s d xs r zero l e = let z : r + 0 ≡ r = omega arith in rw z
quiet_to h s d xs r (suc n) l e =
    let z : r + suc n ≡ suc (r + n) = omega arith in
    quiet_to h s d xs r n (omega arith) (λ q u v. e q u (omega arith)) ∙ rw z (pend_keep h s d (r + n) xs (omega arith) (e (r + n) (omega arith) (omega arith)))

-- where the direction stays
pub keep_to : (h : ℕ → Dir) (s : ℕ) (d : Dir) (xs : List ℕ) (r e : ℕ) → r ≤ e → e < length xs → ((q : ℕ) → r ≤ q → q < e → h (get_or xs q 0) ≡ d) → pending h s d r xs ≡ pending h s d e xs
keep_to h s d xs r e a b f =
    let z : r + (e - r) ≡ e = omega arith in
    rw z at (quiet_to h s d xs r (e - r) (omega arith) (λ q u v. f q u (omega arith)))

pub rest_off : (h : ℕ → Dir) (s : ℕ) (xs : List ℕ) (n k : ℕ) → length xs ≤ k + n → ((q : ℕ) → k ≤ q → q < length xs → h (get_or xs q 0) ≡ off) → pending h s off k xs ≡ []
rest_off h s xs zero k l e = pend_end h s off k xs (omega arith)
rest_off h s xs (suc n) k l e = go (dec_lt (suc k) (length xs)) (rest_off h s xs n (suc k) (omega arith) (λ q u v. e q (omega arith) v))
  where
    go : Dec (suc k < length xs) → pending h s off (suc k) xs ≡ [] → pending h s off k xs ≡ []
    go (yes u) ih = pend_keep h s off k xs u (e k (omega arith) (omega arith)) ∙ ih
    go (no u) ih = pend_end h s off k xs (omega arith)

any_off : (h : ℕ → Dir) (s t : ℕ) (xs : List ℕ) (k : ℕ) → pending h s off k xs ≡ pending h t off k xs
unfolding pending
any_off h s t xs k = refl

-- a stretch ends at e
close_at : (h : ℕ → Dir) (u : ℕ) (d : Dir) (xs : List ℕ) (e : ℕ) → Rising zero xs → h (get_or xs e 0) ≢ d → pending h u d e xs ≡ emit u (get_or xs e 0) d ++ pending h 0 off e xs
close_at h u d xs e r n = go (dec_lt (suc e) (length xs)) (h (get_or xs e 0)) refl
  where
    not_off : (c : Dir) → h (get_or xs e 0) ≡ c → c ≢ off → suc e < length xs → pending h 0 off e xs ≡ pending h (get_or xs e 0) (h (get_or xs e 0)) (suc e) xs
    not_off c p q l = pend_emit h 0 off e xs l r (λ w. q (sym p ∙ w))

    rest : (c : Dir) → h (get_or xs e 0) ≡ c → suc e < length xs → pending h 0 off e xs ≡ pending h (get_or xs e 0) (h (get_or xs e 0)) (suc e) xs
    rest off p l = pend_keep h 0 off e xs l p ∙ any_off h 0 (get_or xs e 0) xs (suc e) ∙ ap (λ (c : Dir). pending h (get_or xs e 0) c (suc e) xs) (sym p)
    rest fwd p l = not_off fwd p (λ q. true≢false (ap (same_dir fwd) q)) l
    rest bwd p l = not_off bwd p (λ q. true≢false (ap (same_dir bwd) q)) l

    go : Dec (suc e < length xs) → (c : Dir) → h (get_or xs e 0) ≡ c → pending h u d e xs ≡ emit u (get_or xs e 0) d ++ pending h 0 off e xs
    go (yes l) c p = pend_emit h u d e xs l r n ∙ ap (◌++◌ (emit u (get_or xs e 0) d)) (sym (rest c p l))
    go (no l) c p = pend_end h u d e xs (omega arith) ∙ sym (ap (◌++◌ (emit u (get_or xs e 0) d)) (pend_end h 0 off e xs (omega arith)) ∙ append-nil (emit u (get_or xs e 0) d))

-- a stretch of direction d from s to e
pub whole_stretch : (h : ℕ → Dir) (d : Dir) (xs : List ℕ) (s e : ℕ) → Rising zero xs → d ≢ off → s < e → e < length xs → ((q : ℕ) → s ≤ q → q < e → h (get_or xs q 0) ≡ d) → h (get_or xs e 0) ≢ d →
    pending h 0 off s xs ≡ emit (get_or xs s 0) (get_or xs e 0) d ++ pending h 0 off e xs
whole_stretch h d xs s e r n l b f m =
    let p : h (get_or xs s 0) ≡ d = f s (omega arith) l in
    pend_emit h 0 off s xs (omega arith) r (λ q. n (sym p ∙ q))
    ∙ ap (λ (c : Dir). pending h (get_or xs s 0) c (suc s) xs) p
    ∙ keep_to h (get_or xs s 0) d xs (suc s) e (omega arith) b (λ q u v. f q (omega arith) v)
    ∙ close_at h (get_or xs s 0) d xs e r m
