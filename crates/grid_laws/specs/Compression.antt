-- The result of a closed list of edges is what the sorted places of its edges show.
use Rattle.std.specs.Prelude.{◌≡◌, refl, Bool, true, false, ◌&&◌, List, [], ◌∷◌, ◌++◌, map, ◌-ℤ◌, leb, eqb}
use Rattle.std.proofs.Math.Path.{sym, ap, ap₂, fun_ext}
use Rattle.std.proofs.Common.{◌∙◌, arith, le-leb}
use Prim.Native.Nat.{ℕ, zero, suc, ◌≤◌, ◌<◌}
use Rattle.std.proofs.Math.Decide.{dec_lt, dec_le}
use Rattle.std.proofs.Math.IntN.{pos}
use Rattle.std.proofs.lemmas.Bool.{lt-leb}
use Rattle.meaning.specs.Cells.{Dir, off, turn}
use Rattle.meaning.specs.Records.{line, Record}
use Rattle.meaning.specs.Edges.{Edge, edge, covers}
use Rattle.basic_laws.specs.Tests.{not_leb, and_on, spans, spans_below, spans_above, and_off}
use Rattle.basic_laws.specs.Lists.{All, all_map, number_same, number_none}
use Rattle.grid_laws.specs.Covering.{covers_none}
use Rattle.grid_laws.specs.Plane.{ClosedN, goes_west, goes_east, up_to_n, wests_n, easts_n, covers_n, inside_n, prior, level_n, upright_n, record_at, each_of, kind_n, kind_at, result_n, result_at, ys_of, xs_of, sorted}
use Rattle.grid_laws.specs.LineLaws.{line_off}
use Rattle.grid_laws.specs.Places.{has, has_ne, has_tail, Rising, Quiet, Jumps, each_at, line_over_is, sorted_rising, sorted_has}

-- ---- tests that no place between changes

pub quiet_leb : (p j j' : ℕ) (ps : List ℕ) → j ≤ j' → Quiet j j' (p ∷ ps) → leb p j' ≡ leb p j
quiet_leb p j j' ps l q = go (dec_le p j) (dec_le p j')
  where
    go : Dec (p ≤ j) → Dec (p ≤ j') → leb p j' ≡ leb p j
    go (yes u) v = rw (le-leb p j u, le-leb p j' (omega arith))
    go (no u) (yes v) = absurd (has_ne p p ps (q p (omega arith) v) refl)
    go (no u) (no v) = rw (lt-leb p j (omega arith), lt-leb p j' (omega arith))

pub quiet_tail : (p j j' : ℕ) (ps : List ℕ) → Quiet j j' (p ∷ ps) → Quiet j j' ps
quiet_tail p j j' ps q y u v = has_tail y p ps (q y u v)

spans_same : (l h k k' : ℕ) → leb l k' ≡ leb l k → leb h k' ≡ leb h k → spans l h k' ≡ spans l h k
unfolding spans
spans_same l h k k' p q = rw (not_leb k h, not_leb k' h, p, q)

abbrev pub NoneUpTo : ℕ → List ℕ → Type 0
NoneUpTo j ps = (y : ℕ) → y ≤ j → has y ps ≡ false

abbrev pub NoneAfter : ℕ → List ℕ → Type 0
NoneAfter j ps = (y : ℕ) → j < y → has y ps ≡ false

head_after : (p j : ℕ) (ps : List ℕ) → NoneUpTo j (p ∷ ps) → j < p
head_after p j ps q = go (dec_lt j p)
  where
    go : Dec (j < p) → j < p
    go (yes u) = u
    go (no u) = absurd (has_ne p p ps (q p (omega arith)) refl)

head_upto : (p j : ℕ) (ps : List ℕ) → NoneAfter j (p ∷ ps) → p ≤ j
head_upto p j ps q = go (dec_lt j p)
  where
    go : Dec (j < p) → p ≤ j
    go (yes u) = absurd (has_ne p p ps (q p u) refl)
    go (no u) = omega arith

-- ---- the edges at a height

rows_same : (j j' : ℕ) (es : List (Edge ℕ)) → j ≤ j' → Quiet j j' (ys_of es) → All (λ e. up_to_n j' e ≡ up_to_n j e) es
unfolding ys_of up_to_n
rows_same j j' [] l q = tt
rows_same j j' (edge c y f t ∷ es) l q = (quiet_leb y j j' (ys_of es) l q, rows_same j j' es l (quiet_tail y j j' (ys_of es) q))

rows_early : (j : ℕ) (es : List (Edge ℕ)) → NoneUpTo j (ys_of es) → All (λ e. up_to_n j e ≡ false) es
unfolding ys_of up_to_n
rows_early j [] q = tt
rows_early j (edge c y f t ∷ es) q = (lt-leb y j (head_after y j (ys_of es) q), rows_early j es (λ k u. has_tail k y (ys_of es) (q k u)))

pub rows_late : (j : ℕ) (es : List (Edge ℕ)) → NoneAfter j (ys_of es) → All (λ e. up_to_n j e ≡ true) es
unfolding ys_of up_to_n
rows_late j [] q = tt
rows_late j (edge c y f t ∷ es) q = (le-leb y j (head_upto y j (ys_of es) q), rows_late j es (λ k u. has_tail k y (ys_of es) (q k u)))

-- ---- the edges over a column

pub cols_same : (i i' : ℕ) (es : List (Edge ℕ)) → i ≤ i' → Quiet i i' (xs_of es) → All (λ e. (c : ℕ) → (goes_west c i' e ≡ goes_west c i e) × (goes_east c i' e ≡ goes_east c i e)) es
unfolding xs_of goes_west goes_east
cols_same i i' [] l q = tt
cols_same i i' (edge b y f t ∷ es) l q =
    let q₁ : Quiet i i' (t ∷ xs_of es) = quiet_tail f i i' (t ∷ xs_of es) q in
    let pf : leb f i' ≡ leb f i = quiet_leb f i i' (t ∷ xs_of es) l q in
    let pt : leb t i' ≡ leb t i = quiet_leb t i i' (xs_of es) l q₁ in (
      λ c. (ap (λ (s : Bool). eqb b c && s) (spans_same t f i i' pt pf), ap (λ (s : Bool). eqb b c && s) (spans_same f t i i' pf pt)),
      cols_same i i' es l (quiet_tail t i i' (xs_of es) q₁),
    )

pub cols_early : (i : ℕ) (es : List (Edge ℕ)) → NoneUpTo i (xs_of es) → All (λ e. (c : ℕ) → (goes_west c i e ≡ false) × (goes_east c i e ≡ false)) es
unfolding xs_of goes_west goes_east
cols_early i [] q = tt
cols_early i (edge b y f t ∷ es) q =
    let q₁ : NoneUpTo i (t ∷ xs_of es) = λ k u. has_tail k f (t ∷ xs_of es) (q k u) in (
      λ c. (rw (spans_below t f i (head_after t i (xs_of es) q₁)) (and_off (eqb b c)), rw (spans_below f t i (head_after f i (t ∷ xs_of es) q)) (and_off (eqb b c))),
      cols_early i es (λ k u. has_tail k t (xs_of es) (q₁ k u)),
    )

cols_late : (i : ℕ) (es : List (Edge ℕ)) → NoneAfter i (xs_of es) → All (λ e. (c : ℕ) → (goes_west c i e ≡ false) × (goes_east c i e ≡ false)) es
unfolding xs_of goes_west goes_east
cols_late i [] q = tt
cols_late i (edge b y f t ∷ es) q =
    let q₁ : NoneAfter i (t ∷ xs_of es) = λ k u. has_tail k f (t ∷ xs_of es) (q k u) in (
      λ c. (rw (spans_above t f i (head_upto f i (t ∷ xs_of es) q)) (and_off (eqb b c)), rw (spans_above f t i (head_upto t i (xs_of es) q₁)) (and_off (eqb b c))),
      cols_late i es (λ k u. has_tail k t (xs_of es) (q₁ k u)),
    )

-- ---- cells

module _ (holds : (ℕ → Bool) → Bool) (empty : holds (λ c. false) ≡ false) (es : List (Edge ℕ)) where
  cell_same : (i j i' j' : ℕ) → ((c : ℕ) → wests_n es c i' j' ≡ wests_n es c i j) → ((c : ℕ) → easts_n es c i' j' ≡ easts_n es c i j) → inside_n holds es i' j' ≡ inside_n holds es i j
  unfolding inside_n covers_n
  cell_same i j i' j' w e = ap holds (fun_ext (λ c. ap₂ (λ (m n : ℕ). covers (pos m -ℤ pos n)) (w c) (e c)))

  cell_none : (i j : ℕ) → ((c : ℕ) → wests_n es c i j ≡ easts_n es c i j) → inside_n holds es i j ≡ false
  unfolding inside_n covers_n
  cell_none i j w = ap holds (fun_ext (λ c. covers_none (wests_n es c i j) (easts_n es c i j) (w c))) ∙ empty

  pub row_same : (i j j' : ℕ) → j ≤ j' → Quiet j j' (ys_of es) → inside_n holds es i j' ≡ inside_n holds es i j
  unfolding wests_n easts_n
  row_same i j j' l q =
      let s : All (λ e. up_to_n j' e ≡ up_to_n j e) es = rows_same j j' es l q in
      cell_same i j i j'
      (λ c. number_same _ _ es (all_map _ _ es (λ e h. ap (◌&&◌ (goes_west c i e)) h) s))
      (λ c. number_same _ _ es (all_map _ _ es (λ e h. ap (◌&&◌ (goes_east c i e)) h) s))

  pub row_early : (i j : ℕ) → NoneUpTo j (ys_of es) → inside_n holds es i j ≡ false
  unfolding wests_n easts_n
  row_early i j q =
      let s : All (λ e. up_to_n j e ≡ false) es = rows_early j es q in
      cell_none i j (λ c.
      number_none _ es (all_map _ _ es (λ e h. ap (◌&&◌ (goes_west c i e)) h ∙ and_off (goes_west c i e)) s)
      ∙ sym (number_none _ es (all_map _ _ es (λ e h. ap (◌&&◌ (goes_east c i e)) h ∙ and_off (goes_east c i e)) s)))

  pub row_late : ClosedN es → (i j : ℕ) → NoneAfter j (ys_of es) → inside_n holds es i j ≡ false
  unfolding wests_n easts_n ClosedN
  row_late closed i j q =
      let s : All (λ e. up_to_n j e ≡ true) es = rows_late j es q in
      cell_none i j (λ c.
      number_same _ _ es (all_map _ _ es (λ e h. ap (◌&&◌ (goes_west c i e)) h ∙ and_on (goes_west c i e)) s)
      ∙ (closed c i ∙ sym (number_same _ _ es (all_map _ _ es (λ e h. ap (◌&&◌ (goes_east c i e)) h ∙ and_on (goes_east c i e)) s))))

  pub col_same : (i i' j : ℕ) → i ≤ i' → Quiet i i' (xs_of es) → inside_n holds es i' j ≡ inside_n holds es i j
  unfolding wests_n easts_n
  col_same i i' j l q =
      let s = cols_same i i' es l q in
      cell_same i j i' j
      (λ c. number_same _ _ es (all_map _ _ es (λ e h. ap (λ (b : Bool). b && up_to_n j e) (h c).0) s))
      (λ c. number_same _ _ es (all_map _ _ es (λ e h. ap (λ (b : Bool). b && up_to_n j e) (h c).1) s))

  col_none : (i j : ℕ) → All (λ e. (c : ℕ) → (goes_west c i e ≡ false) × (goes_east c i e ≡ false)) es → inside_n holds es i j ≡ false
  unfolding wests_n easts_n
  col_none i j s =
      cell_none i j (λ c.
      number_none _ es (all_map _ _ es (λ e h. ap (λ (b : Bool). b && up_to_n j e) (h c).0) s)
      ∙ sym (number_none _ es (all_map _ _ es (λ e h. ap (λ (b : Bool). b && up_to_n j e) (h c).1) s)))

  pub col_early : (i j : ℕ) → NoneUpTo i (xs_of es) → inside_n holds es i j ≡ false
  col_early i j q = col_none i j (cols_early i es q)

  pub col_late : (i j : ℕ) → NoneAfter i (xs_of es) → inside_n holds es i j ≡ false
  col_late i j q = col_none i j (cols_late i es q)

-- ---- places and breakpoints

pub turn_same : (b : Bool) → turn b b ≡ off
turn_same true = refl
turn_same false = refl

prior_false : (p : ℕ) → prior (λ k. false) p ≡ false
prior_false zero = refl
prior_false (suc p) = refl

module _ (holds : (ℕ → Bool) → Bool) (empty : holds (λ c. false) ≡ false) (es : List (Edge ℕ)) (closed : ClosedN es) where
  pub level_jumps : (y : ℕ) → Jumps (level_n (inside_n holds es) y) (xs_of es)
  unfolding level_n
  level_jumps y = record {
    same = λ i i' l q. ap (λ (h : ℕ → Bool). turn (prior h y) (h y)) (fun_ext (λ j. col_same holds empty es i i' j l q));
    early = λ i q. ap (λ (h : ℕ → Bool). turn (prior h y) (h y)) (fun_ext (λ j. col_early holds empty es i j q)) ∙ ap (λ (b : Bool). turn b false) (prior_false y);
    late = λ i q. ap (λ (h : ℕ → Bool). turn (prior h y) (h y)) (fun_ext (λ j. col_late holds empty es i j q)) ∙ ap (λ (b : Bool). turn b false) (prior_false y);
  }

  pub upright_jumps : (x : ℕ) → Jumps (upright_n (inside_n holds es) x) (ys_of es)
  unfolding upright_n
  upright_jumps x = record {
    same = λ j j' l q. ap (λ (h : ℕ → Bool). turn (h x) (prior h x)) (fun_ext (λ i. row_same holds empty es i j j' l q));
    early = λ j q. ap (λ (h : ℕ → Bool). turn (h x) (prior h x)) (fun_ext (λ i. row_early holds empty es i j q)) ∙ ap (turn false) (prior_false x);
    late = λ j q. ap (λ (h : ℕ → Bool). turn (h x) (prior h x)) (fun_ext (λ i. row_late holds empty es closed i j q)) ∙ ap (turn false) (prior_false x);
  }

  -- a place where no edge lies has no pieces
  pub level_none : (y : ℕ) → has y (ys_of es) ≡ false → (i : ℕ) → level_n (inside_n holds es) y i ≡ off
  unfolding level_n
  level_none zero n i = ap (turn false) (row_early holds empty es i zero (λ k l. ap (λ (z : ℕ). has z (ys_of es)) (omega arith) ∙ n))
  level_none (suc y) n i =
      ap (turn (inside_n holds es i y)) (row_same holds empty es i y (suc y) (omega arith) (λ k l m. ap (λ (z : ℕ). has z (ys_of es)) (omega arith) ∙ n))
      ∙ turn_same (inside_n holds es i y)

  pub upright_none : (x : ℕ) → has x (xs_of es) ≡ false → (j : ℕ) → upright_n (inside_n holds es) x j ≡ off
  unfolding upright_n
  upright_none zero n j = ap (λ (b : Bool). turn b false) (col_early holds empty es zero j (λ k l. ap (λ (z : ℕ). has z (xs_of es)) (omega arith) ∙ n))
  upright_none (suc x) n j =
      ap (λ (b : Bool). turn b (inside_n holds es x j)) (col_same holds empty es x (suc x) j (omega arith) (λ k l m. ap (λ (z : ℕ). has z (xs_of es)) (omega arith) ∙ n))
      ∙ turn_same (inside_n holds es x j)

-- one kind of record: only at the places ps, and along each line only at the breakpoints qs
pub kind_at_is : (kind : ℕ) (F : ℕ → ℕ → Dir) (N : ℕ) (ps qs ps' qs' : List ℕ)
    → ((p : ℕ) → Jumps (F p) qs) → ((p : ℕ) → has p ps ≡ false → (k : ℕ) → F p k ≡ off)
    → ((y : ℕ) → N < y → has y ps ≡ false) → ((y : ℕ) → N < y → has y qs ≡ false)
    → Rising zero ps' → Rising zero qs' → ((y : ℕ) → has y ps ≡ has y ps') → ((y : ℕ) → has y qs ≡ has y qs')
    → kind_n kind F N ≡ kind_at kind F ps' qs'
unfolding kind_n kind_at
kind_at_is kind F N ps qs ps' qs' J none bp bq rp rq hp hq =
    each_at (λ p. map (record_at kind p) (line (F p) 0 N)) (suc N) zero ps' rp
    (λ k l. sym (hp k) ∙ bp k (omega arith))
    (λ k l z. ap (map (record_at kind k)) (line_off (F k) 0 N (λ m _. none k (hp k ∙ z) m)))
    ∙ ap (λ (h : ℕ → List (Record ℕ)). each_of h ps') (fun_ext (λ p. ap (map (record_at kind p)) (line_over_is (F p) qs qs' N (J p) rq hq bq)))

-- THE LAW for a program: the result over the whole range is what the sorted places show
pub result_at_is : (holds : (ℕ → Bool) → Bool) → holds (λ c. false) ≡ false → (es : List (Edge ℕ)) → ClosedN es → (N : ℕ)
    → ((y : ℕ) → N < y → has y (xs_of es) ≡ false) → ((y : ℕ) → N < y → has y (ys_of es) ≡ false) → (xs ys : List ℕ)
    → Rising zero xs → Rising zero ys → ((y : ℕ) → has y (xs_of es) ≡ has y xs) → ((y : ℕ) → has y (ys_of es) ≡ has y ys)
    → result_n N (inside_n holds es) ≡ result_at (inside_n holds es) xs ys
unfolding result_n result_at
result_at_is holds empty es closed N bx by xs ys rx ry hx hy =
    ap₂ (λ (a b : List (Record ℕ)). a ++ b)
    (kind_at_is 0 (level_n (inside_n holds es)) N (ys_of es) (xs_of es) ys xs (level_jumps holds empty es closed) (level_none holds empty es closed) by bx ry rx hy hx)
    (kind_at_is 1 (upright_n (inside_n holds es)) N (xs_of es) (ys_of es) xs ys (upright_jumps holds empty es closed) (upright_none holds empty es closed) bx by rx ry hx hy)

pub result_sorted : (holds : (ℕ → Bool) → Bool) → holds (λ c. false) ≡ false → (es : List (Edge ℕ)) → ClosedN es → (N : ℕ)
    → ((y : ℕ) → N < y → has y (xs_of es) ≡ false) → ((y : ℕ) → N < y → has y (ys_of es) ≡ false)
    → result_n N (inside_n holds es) ≡ result_at (inside_n holds es) (sorted (xs_of es)) (sorted (ys_of es))
result_sorted holds empty es closed N bx by =
    result_at_is holds empty es closed N bx by (sorted (xs_of es)) (sorted (ys_of es)) (sorted_rising (xs_of es)) (sorted_rising (ys_of es))
    (λ y. sym (sorted_has y (xs_of es))) (λ y. sym (sorted_has y (ys_of es)))

-- the horizontal records alone
pub levels_sorted : (holds : (ℕ → Bool) → Bool) → holds (λ c. false) ≡ false → (es : List (Edge ℕ)) → ClosedN es → (N : ℕ)
    → ((y : ℕ) → N < y → has y (xs_of es) ≡ false) → ((y : ℕ) → N < y → has y (ys_of es) ≡ false)
    → kind_n 0 (level_n (inside_n holds es)) N ≡ kind_at 0 (level_n (inside_n holds es)) (sorted (ys_of es)) (sorted (xs_of es))
levels_sorted holds empty es closed N bx by =
    kind_at_is 0 (level_n (inside_n holds es)) N (ys_of es) (xs_of es) (sorted (ys_of es)) (sorted (xs_of es)) (level_jumps holds empty es closed) (level_none holds empty es closed) by bx
    (sorted_rising (ys_of es)) (sorted_rising (xs_of es)) (λ y. sym (sorted_has y (ys_of es))) (λ y. sym (sorted_has y (xs_of es)))
