-- Beginnings of ring lists: one with no faulty number is the beginning of a good ring list, and every good ring list is reached. Assumes nothing.
--
--   Fine L b z      the due number z has no fault
--   fine_layer, ..  what that says; layer_fine, .. the way back
--   Good L b        the rings and the ring begun are as the paper allows
--   good_after      a number with no fault keeps it
--   good_begins     so a beginning with no faulty number is good
--   reached         a good ring list is a beginning with no faulty number
use Rattle.std.specs.Prelude.{◌≡◌, refl, Bool, true, false, ◌≢◌, ◌⊎◌, ℕ, suc, ◌+◌, ◌≤◌, ◌<◌, ℤ, pos, negsuc, length}
use Rattle.std.proofs.Common.{sym, ap, ◌∙◌, true≢false, inl, inr, arith, length-append, eq-eqb, ne_eqb}
use Rattle.std.proofs.Math.Path.{subst, subst⁻¹}
use mathlib.Core.List.{List, [], ◌∷◌, ◌++◌, append-nil, append_assoc}
use Rattle.std.proofs.Math.Decide.{dec_le, ℕ_discrete}
use Rattle.meaning.specs.Numbers.{in_range}
use Rattle.meaning.specs.Answers.{Answer, answer}
use Rattle.meaning.specs.Rings.{Pair, pair, Ring, ring, All, InRange, xs, ys, Differ, GoodRing, GoodRings, pairs_in}
use Rattle.meaning.specs.Faults.{Begun, at_layer, at_count, at_x, at_y, after, IsLayer, IsCount, TooMany, Beside, DueJudged, Begins, nothing, more}
use Rattle.basic_laws.specs.Lists.{map_append, all_append, all_back}
use Rattle.ring_laws.specs.Groups.{clash}
use Rattle.ring_laws.specs.Differences.{pos_inj}
use Rattle.ring_laws.specs.Neighbours.{Along, along_snoc, closed, apart}

abbrev pub Fine : ℕ → Begun → ℤ → Type 0
Fine L b z = (p : ℕ) (a : Answer) → DueJudged L b z p a → ⊥

-- ---- what it says of each due number

pub layer_not : (z : ℤ) → (IsLayer z → ⊥) ⊎ IsLayer z
layer_not (pos n) = go (dec_le n 7)
  where
    go : Dec (n ≤ 7) → (IsLayer (pos n) → ⊥) ⊎ IsLayer (pos n)
    go (yes h) = inr (record { layer = n; is = refl; low = h })
    go (no h) = inl (λ l. h (omega (arith, l.low, pos_inj n l.layer l.is)))
layer_not (negsuc n) = inl (λ l. clash (cc l.is))

pub count_not : (z : ℤ) → (IsCount z → ⊥) ⊎ IsCount z
count_not (pos n) = go (dec_le 2 n)
  where
    go : Dec (2 ≤ n) → (IsCount (pos n) → ⊥) ⊎ IsCount (pos n)
    go (yes h) = inr (record { count = n; is = refl; two = h })
    go (no h) = inl (λ c. h (omega (arith, c.two, pos_inj n c.count c.is)))
count_not (negsuc n) = inl (λ c. clash (cc c.is))

module _ (L : ℕ) (rs : List Ring) where
  pub fine_layer : (z : ℤ) → Fine L (at_layer rs) z → IsLayer z
  fine_layer z f = go (layer_not z)
    where
      go : (IsLayer z → ⊥) ⊎ IsLayer z → IsLayer z
      go (inl n) = absurd (f 0 (answer 15 0) (n, refl))
      go (inr i) = i

  pub layer_fine : (l : ℕ) → l ≤ 7 → Fine L (at_layer rs) (pos l)
  layer_fine l h p a j = j.0 (record { layer = l; is = refl; low = h })

  pub fine_count : (l : ℕ) (z : ℤ) → Fine L (at_count rs l) z → IsCount z × (TooMany rs z → ⊥)
  fine_count l z f = go (count_not z)
    where
      go : (IsCount z → ⊥) ⊎ IsCount z → IsCount z × (TooMany rs z → ⊥)
      go (inl n) = absurd (f 0 (answer 15 0) (inl (n, refl)))
      go (inr i) = (i, λ t. f 0 (answer 17 0) (inr (λ s g. g.0 i, (t, refl))))

  pub count_fine : (l k : ℕ) → 2 ≤ k → pairs_in rs + k ≤ 4096 → Fine L (at_count rs l) (pos k)
  count_fine l k h g p a (inl j) = j.0 (record { count = k; is = refl; two = h })
  count_fine l k h g p a (inr j) = let t = j.1.0 in omega (arith, t.passes, pos_inj k t.count t.is)

-- an x or a y, after the coordinates zs of a ring of k pairs
abbrev pub FineAt : ℕ → List ℤ → ℕ → ℤ → Type 0
FineAt L zs k z = (in_range L z ≡ true) × (Beside zs k z → ⊥)

module _ (L : ℕ) (rs : List Ring) (l k : ℕ) (ps : List Pair) where
  pub fine_x : (z : ℤ) → Fine L (at_x rs l k ps) z → FineAt L (xs ps) k z
  fine_x z f = go (in_range L z) refl
    where
      go : (t : Bool) → in_range L z ≡ t → FineAt L (xs ps) k z
      go false e = absurd (f 0 (answer 15 0) (inl (e, refl)))
      go true e = (e, λ s. f 0 (answer 16 0) (inr (λ a g. true≢false (sym e ∙ g.0), (s, refl))))

  pub fine_y : (x z : ℤ) → Fine L (at_y rs l k ps x) z → FineAt L (ys ps) k z
  fine_y x z f = go (in_range L z) refl
    where
      go : (t : Bool) → in_range L z ≡ t → FineAt L (ys ps) k z
      go false e = absurd (f 0 (answer 15 0) (inl (e, refl)))
      go true e = (e, λ s. f 0 (answer 16 0) (inr (λ a g. true≢false (sym e ∙ g.0), (s, refl))))

  pub x_fine : (z : ℤ) → FineAt L (xs ps) k z → Fine L (at_x rs l k ps) z
  x_fine z f p a (inl j) = true≢false (sym f.0 ∙ j.0)
  x_fine z f p a (inr j) = f.1 j.1.0

  pub y_fine : (x z : ℤ) → FineAt L (ys ps) k z → Fine L (at_y rs l k ps x) z
  y_fine x z f p a (inl j) = true≢false (sym f.0 ∙ j.0)
  y_fine x z f p a (inr j) = f.1 j.1.0

-- ---- good beginnings

-- a ring that has begun: its layer, k and whole pairs
pub record Partial (L : ℕ) (rs : List Ring) (l k : ℕ) (ps : List Pair) : Type 0 where
  pub rings : GoodRings L rs
  pub low : l ≤ 7
  pub two : 2 ≤ k
  pub few : pairs_in rs + k ≤ 4096
  pub short : length ps < k
  pub range : All (InRange L) ps
  pub along_x : Along (xs ps)
  pub along_y : Along (ys ps)

abbrev pub Good : ℕ → Begun → Type 0
Good L (at_layer rs) = GoodRings L rs
Good L (at_count rs l) = GoodRings L rs × (l ≤ 7)
Good L (at_x rs l k ps) = Partial L rs l k ps
Good L (at_y rs l k ps x) = Partial L rs l k ps × FineAt L (xs ps) k x

pub pairs_snoc : (rs : List Ring) (r : Ring) → pairs_in (rs ++ r ∷ []) ≡ pairs_in rs + length r.pairs
unfolding pairs_in
pairs_snoc [] r = omega arith
pairs_snoc (s ∷ rs) r = omega (arith, pairs_snoc rs r)

pub length_snoc : {A : Type 0} (l : List A) (a : A) → length (l ++ a ∷ []) ≡ suc (length l)
length_snoc [] a = refl
length_snoc (b ∷ l) a = ap suc (length_snoc l a)

pub length_xs : (ps : List Pair) → length (xs ps) ≡ length ps
length_xs [] = refl
length_xs (p ∷ ps) = ap suc (length_xs ps)

pub length_ys : (ps : List Pair) → length (ys ps) ≡ length ps
length_ys [] = refl
length_ys (p ∷ ps) = ap suc (length_ys ps)

module _ (L : ℕ) (rs : List Ring) (l k : ℕ) (ps : List Pair) (x z : ℤ) (g : Partial L rs l k ps) (fx : FineAt L (xs ps) k x) (fz : FineAt L (ys ps) k z) where
  range_pair : All (InRange L) (ps ++ pair x z ∷ [])
  range_pair = all_append (InRange L) ps (pair x z ∷ []) g.range ((fx.0, fz.0), tt)

  pub ring_closes : suc (length ps) ≡ k → GoodRings L (rs ++ ring l (ps ++ pair x z ∷ []) ∷ [])
  ring_closes e =
      record { each = all_append (GoodRing L) rs (ring l (ps ++ pair x z ∷ []) ∷ []) g.rings.each (whole, tt); few = omega (arith, pairs_snoc rs (ring l (ps ++ pair x z ∷ [])), length_snoc ps (pair x z), g.few) }
    where
      whole : GoodRing L (ring l (ps ++ pair x z ∷ []))
      whole = record {
        low = g.low;
        two = omega (arith, g.two, length_snoc ps (pair x z));
        range = range_pair;
        differ_x = subst⁻¹ Differ (map_append (λ p. p.x) ps (pair x z ∷ [])) (closed (xs ps) k x g.two (ap suc (length_xs ps) ∙ e) g.along_x fx.1);
        differ_y = subst⁻¹ Differ (map_append (λ p. p.y) ps (pair x z ∷ [])) (closed (ys ps) k z g.two (ap suc (length_ys ps) ∙ e) g.along_y fz.1);
      }

  pub pair_more : suc (length ps) ≢ k → Partial L rs l k (ps ++ pair x z ∷ [])
  pair_more e =
      record {
        rings = g.rings;
        low = g.low;
        two = g.two;
        few = g.few;
        short = omega (arith, g.short, length_snoc ps (pair x z));
        range = range_pair;
        along_x = subst⁻¹ Along (map_append (λ p. p.x) ps (pair x z ∷ [])) (along_snoc (xs ps) k x g.along_x fx.1);
        along_y = subst⁻¹ Along (map_append (λ p. p.y) ps (pair x z ∷ [])) (along_snoc (ys ps) k z g.along_y fz.1);
      }

  pub pair_good : Good L (after (at_y rs l k ps x) z)
  pair_good = go (ℕ_discrete (suc (length ps)) k)
    where
      go : Dec (suc (length ps) ≡ k) → Good L (after (at_y rs l k ps x) z)
      go (yes e) = rw (eq-eqb (suc (length ps)) k e) (ring_closes e)
      go (no e) = rw (ne_eqb (suc (length ps)) k e) (pair_more e)

pub count_few : (L : ℕ) (rs : List Ring) (l k : ℕ) → Fine L (at_count rs l) (pos k) → pairs_in rs + k ≤ 4096
count_few L rs l k f = go (dec_le (pairs_in rs + k) 4096)
  where
    go : Dec (pairs_in rs + k ≤ 4096) → pairs_in rs + k ≤ 4096
    go (yes h) = h
    go (no h) = absurd ((fine_count L rs l (pos k) f).1 (record { count = k; is = refl; passes = omega arith }))

pub good_after : (L : ℕ) (b : Begun) (z : ℤ) → Good L b → Fine L b z → Good L (after b z)
good_after L (at_layer rs) z g f = let i = fine_layer L rs z f in rw i.is (g, i.low)
good_after L (at_count rs l) z g f =
    let c = (fine_count L rs l z f).0 in
    rw c.is
    (record { rings = g.0; low = g.1; two = c.two; few = count_few L rs l c.count (subst (Fine L (at_count rs l)) c.is f); short = omega (arith, c.two); range = tt; along_x = tt; along_y = tt })
good_after L (at_x rs l k ps) z g f = (g, fine_x L rs l k ps z f)
good_after L (at_y rs l k ps x) z g f = pair_good L rs l k ps x z g.0 g.1 (fine_y L rs l k ps x z f)

pub good_begins : {A : Type 0} {L : ℕ} {S : Begun → ℤ → List A → Type 0} {start : List A} {b : Begun} {l : List A} → Begins L S start b l → Good L b
unfolding pairs_in
good_begins nothing = record { each = tt; few = omega arith }
good_begins {L = L} (more {b = b} z w g s f) = good_after L b z (good_begins g) f

-- ---- a good ring list is reached, where every good beginning's next number can be spelt

module _ {A : Type 0} (L : ℕ) (S : Begun → ℤ → List A → Type 0) (start : List A) (spell : (b : Begun) (z : ℤ) → Good L b → Fine L b z → (w : List A) × S b z w) where
  abbrev pub Reached : Begun → Type 0
  Reached b = (l : List A) × Begins L S start b l

  step : (b : Begun) (z : ℤ) → Fine L b z → Reached b → Reached (after b z)
  step b z f r = let s = spell b z (good_begins r.1) f in (r.0 ++ s.0, more z s.0 r.1 s.1 f)

  -- the pair p of a ring, after its pairs qs and before ps
  next_pair : (rs : List Ring) (l k : ℕ) (qs : List Pair) (p : Pair) (ps : List Pair) → GoodRing L (ring l (qs ++ p ∷ ps)) → length (qs ++ p ∷ ps) ≡ k → Reached (at_x rs l k qs) → Reached (after (at_y rs l k qs p.x) p.y)
  next_pair rs l k qs p ps g n r =
      step (at_y rs l k qs p.x) p.y (y_fine L rs l k qs p.x p.y (here.1, apart_y)) (step (at_x rs l k qs) p.x (x_fine L rs l k qs p.x (here.0, apart_x)) r)
    where
      here : InRange L p
      here = (all_back (InRange L) qs (p ∷ ps) g.range).0

      apart_x : Beside (xs qs) k p.x → ⊥
      apart_x = apart (xs qs) p.x (xs ps) k (ap length (sym (map_append (λ q. q.x) qs (p ∷ ps))) ∙ length_xs (qs ++ p ∷ ps) ∙ n) (subst Differ (map_append (λ q. q.x) qs (p ∷ ps)) g.differ_x)

      apart_y : Beside (ys qs) k p.y → ⊥
      apart_y = apart (ys qs) p.y (ys ps) k (ap length (sym (map_append (λ q. q.y) qs (p ∷ ps))) ∙ length_ys (qs ++ p ∷ ps) ∙ n) (subst Differ (map_append (λ q. q.y) qs (p ∷ ps)) g.differ_y)

  -- its pairs from p on
  reach_pairs : (ps : List Pair) (rs : List Ring) (l k : ℕ) (qs : List Pair) (p : Pair) → GoodRing L (ring l (qs ++ p ∷ ps)) → length (qs ++ p ∷ ps) ≡ k → Reached (at_x rs l k qs) → Reached (at_layer (rs ++ ring l (qs ++ p ∷ ps) ∷ []))
  reach_pairs [] rs l k qs p g n r =
      let e : suc (length qs) ≡ k = sym (length_snoc qs p) ∙ n in
      rw (eq-eqb (suc (length qs)) k e) at (next_pair rs l k qs p [] g n r)
  reach_pairs (q ∷ ps) rs l k qs p g n r =
      let e : (qs ++ p ∷ []) ++ q ∷ ps ≡ qs ++ p ∷ q ∷ ps = append_assoc qs (p ∷ []) (q ∷ ps) in
      let u : suc (length qs) ≢ k = λ h. omega (arith, n, length-append qs (p ∷ q ∷ ps)) in
      subst (λ (m : List Pair). Reached (at_layer (rs ++ ring l m ∷ []))) e
      (reach_pairs ps rs l k (qs ++ p ∷ []) q (subst⁻¹ (λ (m : List Pair). GoodRing L (ring l m)) e g) (ap length e ∙ n)
      (rw (ne_eqb (suc (length qs)) k u) at (next_pair rs l k qs p (q ∷ ps) g n r)))

  reach_ring : (rs : List Ring) (r : Ring) → GoodRing L r → pairs_in rs + length r.pairs ≤ 4096 → Reached (at_layer rs) → Reached (at_layer (rs ++ r ∷ []))
  reach_ring rs r g h t = go r.pairs refl
    where
      go : (ps : List Pair) → r.pairs ≡ ps → Reached (at_layer (rs ++ r ∷ []))
      go [] e = absurd (omega (arith, g.two, ap length e))
      go (p ∷ ps) e =
          subst (λ (m : List Pair). Reached (at_layer (rs ++ ring r.layer m ∷ []))) (sym e)
          (reach_pairs ps rs r.layer (length r.pairs) [] p (subst (λ (m : List Pair). GoodRing L (ring r.layer m)) e g) (ap length (sym e))
          (step (at_count rs r.layer) (pos (length r.pairs)) (count_fine L rs r.layer (length r.pairs) g.two h) (step (at_layer rs) (pos r.layer) (layer_fine L rs r.layer g.low) t)))

  reach_rings : (rs qs : List Ring) → All (GoodRing L) rs → pairs_in qs + pairs_in rs ≤ 4096 → Reached (at_layer qs) → Reached (at_layer (qs ++ rs))
  unfolding pairs_in
  reach_rings [] qs g h t = subst⁻¹ (λ (m : List Ring). Reached (at_layer m)) (append-nil qs) t
  reach_rings (r ∷ rs) qs g h t =
      subst (λ (m : List Ring). Reached (at_layer m)) (append_assoc qs (r ∷ []) rs)
      (reach_rings rs (qs ++ r ∷ []) g.1 (omega (arith, pairs_snoc qs r)) (reach_ring qs r g.0 (omega arith) t))

  pub reached : (rs : List Ring) → GoodRings L rs → Reached (at_layer rs)
  unfolding pairs_in
  reached rs g = reach_rings rs [] g.each (omega (arith, g.few)) (start, nothing)
