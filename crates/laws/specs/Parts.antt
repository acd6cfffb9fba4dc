-- Work by parts: a result put in as a layer covers exactly its cells, so an expression over that layer is the expression with the part in the
-- layer's place; and the cells of AND plus those of OR. Assumes nothing.
--
--   put_in_adds      A RESULT AS A LAYER: its count is 1 at each of its cells and 0 elsewhere
--   put_in_other     other layers have nothing of it
--   put_in_closed    it is closed
--   kinds_even       AS MANY OF EACH KIND: as many horizontal records as vertical ones
--   by_parts         WORK BY PARTS, cell by cell
--   cells_and_or     AND PLUS OR: their cells are those of both
use Rattle.std.specs.Prelude.{◌≡◌, refl, Bool, true, false, ◌&&◌, ◌||◌, ◌⊎◌, ℕ, zero, suc, ◌+◌, ◌*◌, eqb, length, ℤ, pos, neg_ℤ, ◌-ℤ◌}
use Rattle.std.proofs.Common.{sym, ap, ap₂, ◌∙◌, subst, inl, inr, arith, le-leb, ne_eqb, eqb-true}
use Rattle.std.proofs.Math.Path.{fun_ext}
use mathlib.Core.List.{List, [], ◌∷◌, ◌++◌, map, append-nil}
use Rattle.std.proofs.lemmas.List.{length-map}
use Rattle.std.specs.Int.Signed.{le_z, lt_z}
use Rattle.std.proofs.lemmas.Bool.{eqb-false}
use Rattle.meaning.specs.Numbers.{bit, pick, eq_z, in_range, step}
use Rattle.meaning.specs.Edges.{Edge, edge, west, east, on, up_to, wests, easts, count, covers, Closed, sound_edge}
use Rattle.meaning.specs.Cells.{Dir, off, fwd, bwd, inside, level, upright, Within}
use Rattle.meaning.specs.Records.{Run, run, line, Record, rec, record_of, each, kind_of, result, put_in}
use Rattle.meaning.specs.Area.{cells}
use Rattle.basic_laws.specs.Lists.{All, all_map, number_none, number_append}
use Rattle.basic_laws.specs.Signed.{lt_le}
use Rattle.basic_laws.specs.Steps.{lift, lift_step, step_range, step_lift, beyond, lowered}
use Rattle.basic_laws.specs.Sound.{Sound, lifted}
use Rattle.grid_laws.specs.Plane.{wests_n, easts_n, level_n, upright_n, kind_n, ClosedN}
use Rattle.grid_laws.specs.Covering.{covers_one}
use Rattle.grid_laws.specs.AsLayer.{as_layer, layer, cells_and_or as cells-and-or-steps}
use Rattle.grid_laws.specs.AreaLaws.{cells_n}
use Rattle.grid_laws.specs.Points.{as_many}
use Rattle.grid_laws.specs.Beside.{layer_adds, layer_closed}
use Rattle.laws.specs.View.{view, levels_view, uprights_view, within_bounded}
use Rattle.laws.specs.Covered.{wests_view, easts_view, outside_even, view_closed}
use Rattle.laws.specs.Listed.{Inner, all_each, kind_inner}

-- ---- the edges that are put in

put_append : (c : ℕ) (rs ss : List (Record ℤ)) → put_in c (rs ++ ss) ≡ put_in c rs ++ put_in c ss
unfolding put_in
put_append c [] ss = refl
put_append c (rec zero p f t ∷ rs) ss = ap (◌∷◌ (edge (pos c) p f t)) (put_append c rs ss)
put_append c (rec (suc k) p f t ∷ rs) ss = put_append c rs ss

-- records of kind 1 are left out
put_upright : (c L : ℕ) (z : ℤ) (rs : List Run) → put_in c (map (record_of (step L) 1 z) rs) ≡ []
unfolding put_in
put_upright c L z [] = refl
put_upright c L z (run l h off ∷ rs) = put_upright c L z rs
put_upright c L z (run l h fwd ∷ rs) = put_upright c L z rs
put_upright c L z (run l h bwd ∷ rs) = put_upright c L z rs

put_uprights : (c L : ℕ) (F : ℕ → ℕ → Dir) (N a n : ℕ) → put_in c (each (λ p. map (record_of (step L) 1 (step L p)) (line (F p) 0 N)) a n) ≡ []
unfolding each put_in
put_uprights c L F N a zero = refl
put_uprights c L F N a (suc n) =
    put_append c (map (record_of (step L) 1 (step L a)) (line (F a) 0 N)) (each (λ p. map (record_of (step L) 1 (step L p)) (line (F p) 0 N)) (suc a) n)
    ∙ ap₂ (λ (x y : List (Edge ℤ)). x ++ y) (put_upright c L (step L a) (line (F a) 0 N)) (put_uprights c L F N (suc a) n)

pub put_levels : (c L : ℕ) (g : ℤ → ℤ → Bool) → put_in c (result L g) ≡ put_in c (kind_of L 0 (level g))
unfolding result kind_of
put_levels c L g =
    put_append c (kind_of L 0 (level g)) (kind_of L 1 (upright g))
    ∙ ap (◌++◌ (put_in c (kind_of L 0 (level g)))) (put_uprights c L (λ p k. upright g (step L p) (step L k)) (2 * L) 0 (suc (2 * L)))
    ∙ append-nil (put_in c (kind_of L 0 (level g)))

-- lowered records of kind 0, as edges, and in steps again
abbrev pub Kind0 : Record ℕ → Type 0
Kind0 (rec kind p f t) = kind ≡ 0

lift_lowered : (c L : ℕ) (rs : List (Record ℕ)) → All Kind0 rs → map (lifted L) (put_in c (map (lowered L) rs)) ≡ as_layer c rs
unfolding put_in as_layer lifted
lift_lowered c L [] a = refl
lift_lowered c L (rec zero p f t ∷ rs) a =
    ap₂ (λ (e : Edge ℕ) (es : List (Edge ℕ)). e ∷ es) (rw (lift_step L p, lift_step L f, lift_step L t)) (lift_lowered c L rs a.1)
lift_lowered c L (rec (suc k) p f t ∷ rs) a = absurd (omega (arith, a.0))

sound_lowered : (c L : ℕ) (rs : List (Record ℕ)) → All (Inner (2 * L)) rs → Sound c L (put_in c (map (lowered L) rs))
unfolding put_in sound_edge
sound_lowered c L [] a = tt
sound_lowered c L (rec zero p f t ∷ rs) a =
    let b = a.0 in
    (rw (le-leb 0 c (omega arith), le-leb c c (omega arith), step_range L p b.0, step_range L f b.1, step_range L t b.2), sound_lowered c L rs a.1)
sound_lowered c L (rec (suc k) p f t ∷ rs) a = sound_lowered c L rs a.1

line_kind : (p : ℕ) (rs : List Run) → All Kind0 (map (record_of (λ n. n) 0 p) rs)
line_kind p [] = tt
line_kind p (run l h off ∷ rs) = (refl, line_kind p rs)
line_kind p (run l h fwd ∷ rs) = (refl, line_kind p rs)
line_kind p (run l h bwd ∷ rs) = (refl, line_kind p rs)

module _ (c L : ℕ) (g : ℤ → ℤ → Bool) (w : Within L g) where
  in_steps : put_in c (result L g) ≡ put_in c (map (lowered L) (kind_n 0 (level_n (view L g)) (2 * L)))
  in_steps = put_levels c L g ∙ ap (put_in c) (levels_view L g w)

  pub kind_zero : All Kind0 (kind_n 0 (level_n (view L g)) (2 * L))
  unfolding kind_n
  kind_zero = all_each Kind0 (λ p. map (record_of (λ n. n) 0 p) (line (level_n (view L g) p) 0 (2 * L))) 0 (suc (2 * L)) (λ p u v. line_kind p (line (level_n (view L g) p) 0 (2 * L)))

  pub put_in_sound : Sound c L (put_in c (result L g))
  put_in_sound = subst (Sound c L) (sym in_steps) (sound_lowered c L (kind_n 0 (level_n (view L g)) (2 * L)) (kind_inner 0 (level_n (view L g)) (2 * L)))

  pub put_in_steps : map (lifted L) (put_in c (result L g)) ≡ layer c (2 * L) (view L g)
  put_in_steps = ap (map (lifted L)) in_steps ∙ lift_lowered c L (kind_n 0 (level_n (view L g)) (2 * L)) kind_zero

  pub put_in_closed : Closed (put_in c (result L g))
  put_in_closed = view_closed c L (put_in c (result L g)) put_in_sound (subst ClosedN (sym put_in_steps) (layer_closed c (2 * L) (view L g) (within_bounded L g w)))

  pub put_in_adds : (i j : ℤ) → wests (put_in c (result L g)) c i j ≡ easts (put_in c (result L g)) c i j + bit (g i j)
  put_in_adds i j = go (in_range L i) (in_range L j) refl refl
    where
      out : ((lt_z i (neg_ℤ (pos L)) ≡ true) ⊎ (le_z (pos L) i ≡ true)) ⊎ ((lt_z j (neg_ℤ (pos L)) ≡ true) ⊎ (le_z (pos L) j ≡ true)) → g i j ≡ false
          → wests (put_in c (result L g)) c i j ≡ easts (put_in c (result L g)) c i j + bit (g i j)
      out u e = rw e (omega (arith, outside_even c L (put_in c (result L g)) put_in_sound put_in_closed c i j u))

      aside : (lt_z i (neg_ℤ (pos L)) ≡ true) ⊎ (lt_z (pos L) i ≡ true) → wests (put_in c (result L g)) c i j ≡ easts (put_in c (result L g)) c i j + bit (g i j)
      aside (inl u) = out (inl (inl u)) (w.left i j u)
      aside (inr u) = out (inl (inr (lt_le (pos L) i u))) (w.right i j (lt_le (pos L) i u))

      far : (lt_z j (neg_ℤ (pos L)) ≡ true) ⊎ (lt_z (pos L) j ≡ true) → wests (put_in c (result L g)) c i j ≡ easts (put_in c (result L g)) c i j + bit (g i j)
      far (inl u) = out (inr (inl u)) (w.below i j u)
      far (inr u) = out (inr (inr (lt_le (pos L) j u))) (w.above i j (lt_le (pos L) j u))

      at : (m n : ℕ) → wests (put_in c (result L g)) c (step L m) (step L n) ≡ easts (put_in c (result L g)) c (step L m) (step L n) + bit (g (step L m) (step L n))
      at m n =
          wests_view c L (put_in c (result L g)) put_in_sound c m n ∙ ap (λ (es : List (Edge ℕ)). wests_n es c m n) put_in_steps
          ∙ layer_adds c (2 * L) (view L g) (within_bounded L g w) m n
          ∙ ap (λ (k : ℕ). k + bit (g (step L m) (step L n))) (sym (easts_view c L (put_in c (result L g)) put_in_sound c m n ∙ ap (λ (es : List (Edge ℕ)). easts_n es c m n) put_in_steps))

      go : (a b : Bool) → in_range L i ≡ a → in_range L j ≡ b → wests (put_in c (result L g)) c i j ≡ easts (put_in c (result L g)) c i j + bit (g i j)
      go false b p q = aside (beyond L i p)
      go true false p q = far (beyond L j q)
      go true true p q = rw (← (step_lift L i p), ← (step_lift L j q)) (at (lift L i) (lift L j))

-- a layer that no edge has
absent : (c : ℕ) (es : List (Edge ℤ)) → All (λ e. on c e ≡ false) es → (i j : ℤ) → (wests es c i j ≡ 0) × (easts es c i j ≡ 0)
unfolding wests easts
absent c es s i j = (
  number_none _ es (all_map _ _ es (λ e h. ap (λ (b : Bool). (b && west i e) && up_to j e) h) s),
  number_none _ es (all_map _ _ es (λ e h. ap (λ (b : Bool). (b && east i e) && up_to j e) h) s),
)

beside : (es fs : List (Edge ℤ)) (c : ℕ) (i j : ℤ) → (wests (es ++ fs) c i j ≡ wests es c i j + wests fs c i j) × (easts (es ++ fs) c i j ≡ easts es c i j + easts fs c i j)
unfolding wests easts
beside es fs c i j = (number_append (λ e. (on c e && west i e) && up_to j e) es fs, number_append (λ e. (on c e && east i e) && up_to j e) es fs)

-- other layers have nothing of it
on_other : (b c : ℕ) (rs : List (Record ℤ)) → eqb b c ≡ false → All (λ e. on b e ≡ false) (put_in c rs)
unfolding put_in on eq_z
on_other b c [] h = tt
on_other b c (rec zero p f t ∷ rs) h = (ne_eqb c b (λ e. eqb-false b c h (sym e)), on_other b c rs h)
on_other b c (rec (suc k) p f t ∷ rs) h = on_other b c rs h

pub put_in_other : (b c : ℕ) (rs : List (Record ℤ)) → eqb b c ≡ false → (i j : ℤ) → (wests (put_in c rs) b i j ≡ 0) × (easts (put_in c rs) b i j ≡ 0)
put_in_other b c rs h i j = absent b (put_in c rs) (on_other b c rs h) i j

-- ---- as many of each kind

pub kinds_even : (L : ℕ) (g : ℤ → ℤ → Bool) → Within L g → length (kind_of L 0 (level g)) ≡ length (kind_of L 1 (upright g))
kinds_even L g w =
    ap length (levels_view L g w) ∙ length-map (kind_n 0 (level_n (view L g)) (2 * L)) (lowered L)
    ∙ as_many (2 * L) (view L g) (within_bounded L g w)
    ∙ sym (ap length (uprights_view L g w) ∙ length-map (kind_n 1 (upright_n (view L g)) (2 * L)) (lowered L))

-- ---- beside other edges

pub by_parts : (c L : ℕ) (holds part : (ℕ → Bool) → Bool) (es : List (Edge ℤ)) → All (λ e. on c e ≡ false) es → Within L (inside part es)
    → inside holds (es ++ put_in c (result L (inside part es))) ≡ inside (λ v. holds (λ b. pick (eqb b c) (part v) (v b))) es
unfolding inside count
by_parts c L holds part es new w = fun_ext (λ i. fun_ext (λ j. ap holds (fun_ext (λ b. go i j b (eqb b c) refl))))
  where
    go : (i j : ℤ) (b : ℕ) (t : Bool) → eqb b c ≡ t
        → covers (pos (wests (es ++ put_in c (result L (inside part es))) b i j) -ℤ pos (easts (es ++ put_in c (result L (inside part es))) b i j))
        ≡ pick (eqb b c) (part (λ d. covers (pos (wests es d i j) -ℤ pos (easts es d i j)))) (covers (pos (wests es b i j) -ℤ pos (easts es b i j)))
    go i j b true e =
        let q : b ≡ c = eqb-true b c e in
        let n = absent c es new i j in
        let a = beside es (put_in c (result L (inside part es))) c i j in
        rw (e, q) (covers_one (wests (es ++ put_in c (result L (inside part es))) c i j) (easts (es ++ put_in c (result L (inside part es))) c i j) (inside part es i j)
        (omega (arith, n.0, n.1, a.0, a.1, put_in_adds c L (inside part es) w i j)))
    go i j b false e =
        let n = put_in_other b c (result L (inside part es)) e i j in
        let a = beside es (put_in c (result L (inside part es))) b i j in
        let u : wests (es ++ put_in c (result L (inside part es))) b i j ≡ wests es b i j = omega (arith, n.0, a.0) in
        let v : easts (es ++ put_in c (result L (inside part es))) b i j ≡ easts es b i j = omega (arith, n.1, a.1) in
        rw e (ap₂ (λ (x y : ℕ). covers (pos x -ℤ pos y)) u v)

-- ---- AND and OR

pub cells_and_or : (L : ℕ) (g h : ℤ → ℤ → Bool) → cells L (λ i j. g i j && h i j) + cells L (λ i j. g i j || h i j) ≡ cells L g + cells L h
unfolding cells cells_n
cells_and_or L g h = cells-and-or-steps (2 * L) (view L g) (view L h)
