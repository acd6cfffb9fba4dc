-- What reading a line keeps: the records found so far and those that are pending are the line's. Assumes nothing.
use mathlib.Core.Path.{◌≡◌, refl, sym, ap, ap₂, ◌∙◌}
use mathlib.Core.Logic.{◌≢◌}
use mathlib.Core.Bool.{Bool, true, false, not, true≢false}
use mathlib.Core.List.{List, [], ◌∷◌, ◌++◌, map, append-nil, append_assoc}
use Prim.Native.Nat.{ℕ, zero, suc, ◌+◌, ◌<◌, ◌≤◌}
use native.Mathlib.Omega.{arith}
use native.Mathlib.Decide.{dec_lt}
use lib.ListN.{length, get_or, set, take, drop, length-set, length-append, length-map}
use lib.Seq.{ext_get_or, sets, sets-eq}
use Rattle.meaning.specs.Cells.{Dir, turn, off, fwd, bwd}
use Rattle.meaning.specs.Records.{Record, run, same_dir}
use Rattle.basic_laws.specs.Lists.{map_append}
use Rattle.basic_laws.specs.Stores.{sets_append}
use Rattle.grid_laws.specs.Plane.{record_at}
use Rattle.grid_laws.specs.Compression.{turn_same}
use Rattle.grid_laws.specs.Places.{Rising}
use Rattle.grid_laws.specs.Scan.{emit, pending, pend_start}
use Rattle.rank_laws.specs.Ranks.{rising_at}
use Rattle.strips.specs.Cover.{look}
use Rattle.horizontal.specs.Words.{up_from, on_level, packed, word_of}
use Rattle.horizontal.specs.Lines.{line_records}
use Rattle.stretches.specs.declared.Stretch.{Stretch}
use Rattle.stretches.specs.Stretches.{RowsIn, Told, StretchIs, NoStretch}
use Rattle.weights.specs.Weights.{Weighed, WeightOk}
use Rattle.weights.specs.WeightLaws.{weigh_none, weigh_more}
use Rattle.levels.specs.Line.{line_of, LineOk, LineRead}
use Rattle.levels.proofs.Pending.{keep_to, rest_off, whole_stretch}

-- ---- the ranks as a table

up_at : (a n r : ℕ) → r < n → get_or (up_from a n) r 0 ≡ a + r
unfolding up_from
up_at a zero r h = absurd (omega arith)
up_at a (suc n) zero h = omega arith
up_at a (suc n) (suc r) h = omega (arith, up_at (suc a) n r (omega arith))

up_long : (a n : ℕ) → length (up_from a n) ≡ n
unfolding up_from
up_long a zero = refl
up_long a (suc n) = ap suc (up_long (suc a) n)

up_rising : (z a n : ℕ) → z ≤ a → Rising z (up_from a n)
unfolding up_from
up_rising z a zero h = tt
up_rising z a (suc n) h = (h, up_rising (suc a) (suc a) n (omega arith))

-- ---- directions

abbrev turning : Bool → Dir
turning inside = turn (not inside) inside

turn_on : (b : Bool) → turning b ≢ off
turn_on true e = true≢false (ap (same_dir bwd) e)
turn_on false e = true≢false (ap (same_dir fwd) e)

-- only the same change has the same direction
turn_only : (b x y : Bool) → turn x y ≡ turning b → (x ≡ not b) × (y ≡ b)
turn_only true true true e = absurd (true≢false (ap (same_dir off) e))
turn_only true true false e = absurd (true≢false (ap (same_dir fwd) e))
turn_only true false true e = (refl, refl)
turn_only true false false e = absurd (true≢false (ap (same_dir off) e))
turn_only false true true e = absurd (true≢false (ap (same_dir off) e))
turn_only false true false e = (refl, refl)
turn_only false false true e = absurd (true≢false (ap (same_dir bwd) e))
turn_only false false false e = absurd (true≢false (ap (same_dir off) e))

-- ---- one stretch is one record

abbrev record_on : ℕ → ℕ → ℕ → Bool → Record ℕ
record_on y a b inside = record_at 0 y (run a b (turning inside))

one_record : (y a b : ℕ) (inside : Bool) → map (record_at 0 y) (emit a b (turning inside)) ≡ record_on y a b inside ∷ []
one_record y a b true = refl
one_record y a b false = refl

on_level_is : (vx : List ℕ) (y a b : ℕ) (inside : Bool) → on_level vx (record_on y a b inside) ≡ record_on y (get_or vx a 0) (get_or vx b 0) inside
on_level_is vx y a b true = refl
on_level_is vx y a b false = refl

pub word_west : (y a b : ℕ) (inside : Bool) → inside ≡ true → packed y b a ≡ word_of (record_at 0 y (run a b (turn (not inside) inside)))
unfolding word_of
word_west y a b true e = refl
word_west y a b false e = absurd (let z : ◌≡◌ {A = ℕ} 0 1 = cc in omega arith)

pub word_east : (y a b : ℕ) (inside : Bool) → inside ≡ false → packed y a b ≡ word_of (record_at 0 y (run a b (turn (not inside) inside)))
unfolding word_of
word_east y a b true e = absurd (let z : ◌≡◌ {A = ℕ} 0 1 = cc in omega arith)
word_east y a b false e = refl

-- ---- what is pending, as records

abbrev dir_of : List ℕ → List ℕ → List Bool → ℕ → Dir
dir_of told covers truth r = turn (look truth told r) (look truth covers r)

unfoldable pub rest_of : ℕ → List ℕ → List ℕ → List ℕ → List Bool → ℕ → List (Record ℕ)
rest_of y vx told covers truth r = map (record_at 0 y) (pending (dir_of told covers truth) 0 off r (up_from 0 (length vx)))

module _ {loc₀ : List ℕ} {k y : ℕ} {vx told₀ covers : List ℕ} {truth : List Bool} {lo hi : ℕ} (ok : LineOk loc₀ k y vx told₀ covers truth lo hi) where
  is_off : (q : ℕ) → q < length vx → look truth told₀ q ≡ look truth covers q → dir_of told₀ covers truth (get_or (up_from 0 (length vx)) q 0) ≡ off
  is_off q l e =
      let at : get_or (up_from 0 (length vx)) q 0 ≡ q = up_at 0 (length vx) q l ∙ omega arith in
      rw at (ap (λ (b : Bool). turn b (look truth covers q)) e ∙ turn_same (look truth covers q))

  outside : (q : ℕ) → q < length vx → (lo ≤ q → q < hi → ⊥) → look truth told₀ q ≡ look truth covers q
  outside q l n = ap (λ (c : ℕ). get_or truth c false) (ok.quiet q (omega (arith, ok.long)) n)

  rest_start : line_of y vx told₀ covers truth ≡ rest_of y vx told₀ covers truth lo
  unfolding line_records rest_of
  rest_start = ap (map (record_at 0 y)) (
      pend_start (dir_of told₀ covers truth) 0 (up_from 0 (length vx))
      ∙ keep_to (dir_of told₀ covers truth) 0 off (up_from 0 (length vx)) 0 lo (omega arith) (omega (arith, ok.order, ok.last, up_long 0 (length vx)))
      (λ q u v. is_off q (omega (arith, ok.order, ok.last)) (outside q (omega (arith, ok.order, ok.last)) (λ w _. let z : ⊥ = omega arith in absurd z))))

  -- strips that neither come inside nor go out
  rest_keep : (r s : ℕ) → r ≤ s → s ≤ hi → ((q : ℕ) → r ≤ q → q < s → look truth told₀ q ≡ look truth covers q) → rest_of y vx told₀ covers truth r ≡ rest_of y vx told₀ covers truth s
  unfolding rest_of
  rest_keep r s h g e = ap (map (record_at 0 y)) (
      keep_to (dir_of told₀ covers truth) 0 off (up_from 0 (length vx)) r s h (omega (arith, ok.last, up_long 0 (length vx)))
      (λ q u v. is_off q (omega (arith, ok.last)) (e q u v)))

  rest_done : rest_of y vx told₀ covers truth hi ≡ []
  unfolding rest_of
  rest_done = ap (map (record_at 0 y)) (
      rest_off (dir_of told₀ covers truth) 0 (up_from 0 (length vx)) (length vx) hi (omega (arith, up_long 0 (length vx)))
      (λ q u v. is_off q (omega (arith, up_long 0 (length vx))) (outside q (omega (arith, up_long 0 (length vx))) (λ _ w. let z : ⊥ = omega arith in absurd z))))

  module _ (s e : ℕ) (b : Bool) (l : s < e) (h : e ≤ hi) (was : (q : ℕ) → s ≤ q → q < e → look truth told₀ q ≡ not b) (is : (q : ℕ) → s ≤ q → q < e → look truth covers q ≡ b)
      (stop : e < hi → look truth told₀ e ≡ not b → look truth covers e ≡ b → ⊥) where
    at_rank : (q : ℕ) → q ≤ hi → get_or (up_from 0 (length vx)) q 0 ≡ q
    at_rank q u = up_at 0 (length vx) q (omega (arith, ok.last)) ∙ omega arith

    ends : dir_of told₀ covers truth (get_or (up_from 0 (length vx)) e 0) ≢ turning b
    ends w = go (dec_lt e hi)
      where
        go : Dec (e < hi) → ⊥
        go (yes u) =
            let m = turn_only b (look truth told₀ e) (look truth covers e) (ap (dir_of told₀ covers truth) (sym (at_rank e h)) ∙ w) in
            stop u m.0 m.1
        go (no u) = turn_on b (sym w ∙ is_off e (omega (arith, ok.last)) (outside e (omega (arith, ok.last)) (λ _ v. u v)))

    -- a stretch is one record
    rest_stretch : rest_of y vx told₀ covers truth s ≡ record_on y s e b ∷ rest_of y vx told₀ covers truth e
    unfolding rest_of
    rest_stretch =
        ap (map (record_at 0 y)) (
        whole_stretch (dir_of told₀ covers truth) (turning b) (up_from 0 (length vx)) s e (up_rising 0 0 (length vx) (omega arith)) (turn_on b) l (omega (arith, ok.last, up_long 0 (length vx)))
        (λ q u v. ap (dir_of told₀ covers truth) (at_rank q (omega arith)) ∙ ap₂ turn (was q u v) (is q u v)) ends)
        ∙ map_append (record_at 0 y) (emit (get_or (up_from 0 (length vx)) s 0) (get_or (up_from 0 (length vx)) e 0) (turning b)) (pending (dir_of told₀ covers truth) 0 off e (up_from 0 (length vx)))
        ∙ ap (λ (a : List (Record ℕ)). a ++ rest_of y vx told₀ covers truth e)
        (ap₂ (λ (i j : ℕ). map (record_at 0 y) (emit i j (turning b))) (at_rank s (omega arith)) (at_rank e h) ∙ one_record y s e b)

-- ---- the loop

pub record Lining (loc₀ : List ℕ) (k sum y : ℕ) (vx told₀ covers : List ℕ) (truth : List Bool) (lo hi : ℕ) (loc told : List ℕ) (n acc r : ℕ) : Type 0 where
  pub from : lo ≤ r
  pub to : r ≤ hi
  pub leaves : Told covers lo r told₀ told
  pub found : List (Record ℕ)
  pub parts : line_of y vx told₀ covers truth ≡ found ++ rest_of y vx told₀ covers truth r
  pub number : n ≡ k + length found
  pub few : length found + lo ≤ r
  pub wide : length loc ≡ length loc₀
  pub written : loc ≡ sets loc₀ k (map word_of found)
  pub weighs : Weighed sum (map (on_level vx) found) acc

module _ {loc₀ : List ℕ} {k y : ℕ} {vx told₀ covers : List ℕ} {truth : List Bool} {lo hi : ℕ} (ok : LineOk loc₀ k y vx told₀ covers truth lo hi) {sum : ℕ} where
  pub read_start : Lining loc₀ k sum y vx told₀ covers truth lo hi loc₀ told₀ k sum lo
  read_start = record {
    from = omega arith;
    to = ok.order;
    leaves = record { long = refl; made = λ q u v. let z : ⊥ = omega arith in absurd z; same = λ q _. refl };
    found = [];
    parts = rest_start ok;
    number = omega arith;
    few = omega arith;
    wide = refl;
    written = refl;
    weighs = weigh_none sum;
  }

  module _ {loc told : List ℕ} {n acc r : ℕ} (S : Lining loc₀ k sum y vx told₀ covers truth lo hi loc told n acc r) where
    pub rows_in : RowsIn told covers truth r hi
    rows_in = record {
      strips = record {
        long_told = omega (arith, S.leaves.long, ok.both, ok.long, ok.last);
        long_covers = omega (arith, ok.long, ok.last);
        order = S.to;
        top = omega (arith, ok.last, ok.few);
      };
      table = ok.table;
    }

    pub room_in : r < hi → n < length loc
    room_in h = omega (arith, S.number, S.few, S.wide, ok.room, ok.last)

    ahead : (q : ℕ) → r ≤ q → look truth told q ≡ look truth told₀ q
    ahead q u = ap (λ (c : ℕ). get_or truth c false) (S.leaves.same q (λ _ v. let z : ⊥ = omega arith in absurd z))

    told_on : {told' : List ℕ} {e : ℕ} → r ≤ e → Told covers r e told told' → Told covers lo e told₀ told'
    told_on {told'} {e} h L = record {
      long = L.long ∙ S.leaves.long;
      made = λ q u v. go q u v (dec_lt q r);
      same = λ q m. L.same q (λ u v. m (omega (arith, S.from)) v) ∙ S.leaves.same q (λ u v. m u (omega arith));
    }
      where
        go : (q : ℕ) → lo ≤ q → q < e → Dec (q < r) → get_or told' q 0 ≡ get_or covers q 0
        go q u v (yes w) = L.same q (λ x _. let z : ⊥ = omega arith in absurd z) ∙ S.leaves.made q u w
        go q u v (no w) = L.made q (omega arith) v

    module _ {told' : List ℕ} {t : Stretch} (K : StretchIs told told' covers truth r hi t) where
      -- a stretch has its x in order
      pub weight_ok : WeightOk y (get_or vx t.from 0) (get_or vx t.to 0)
      weight_ok = record { place = ok.place; order = omega (arith, rising_at zero vx t.from t.to ok.rising K.some (omega (arith, K.to, ok.last))); top = ok.each t.to }

      rest_turn : rest_of y vx told₀ covers truth r ≡ record_on y t.from t.to t.inside ∷ rest_of y vx told₀ covers truth t.to
      rest_turn =
          rest_keep ok r t.from K.from (omega (arith, K.some, K.to)) (λ q u v. sym (ahead q u) ∙ K.quiet q u v)
          ∙ rest_stretch ok t.from t.to t.inside K.some K.to (λ q u v. sym (ahead q (omega (arith, K.from))) ∙ K.was q u v) K.is
          (λ h u v. K.stop h (ahead t.to (omega (arith, K.from, K.some)) ∙ u) v)

      pub read_turn : {w acc' : ℕ} → w ≡ word_of (record_at 0 y (run t.from t.to (turn (not t.inside) t.inside))) →
          Weighed acc (record_at 0 y (run (get_or vx t.from 0) (get_or vx t.to 0) (turn (not t.inside) t.inside)) ∷ []) acc' →
          Lining loc₀ k sum y vx told₀ covers truth lo hi (set loc n w) told' (n + 1) acc' t.to
      read_turn {w} {acc'} e v =
          let one : Record ℕ = record_on y t.from t.to t.inside in
          let count : length (S.found ++ one ∷ []) ≡ length S.found + 1 = length-append S.found (one ∷ []) in
          let place : n ≡ k + length (map word_of S.found) = S.number ∙ ap (◌+◌ k) (sym (length-map S.found word_of)) in
          record {
            from = omega (arith, S.from, K.from, K.some);
            to = K.to;
            leaves = told_on (omega (arith, K.from, K.some)) K.leaves;
            found = S.found ++ one ∷ [];
            parts = S.parts ∙ ap (◌++◌ S.found) rest_turn ∙ sym (append_assoc S.found (one ∷ []) (rest_of y vx told₀ covers truth t.to));
            number = omega (arith, S.number);
            few = omega (arith, S.few, K.from, K.some);
            wide = length-set loc n w ∙ S.wide;
            written =
                ap (λ (i : ℕ). set loc i w) place
                ∙ ap (λ (a : List ℕ). set a (k + length (map word_of S.found)) w) S.written
                ∙ sets_append (map word_of S.found) (w ∷ []) loc₀ k
                ∙ ap (sets loc₀ k) (ap (λ (x : ℕ). map word_of S.found ++ x ∷ []) e ∙ sym (map_append word_of S.found (one ∷ [])));
            weighs =
                rw (map_append (on_level vx) S.found (one ∷ []))
                (weigh_more (map (on_level vx) S.found) (on_level vx one ∷ []) S.weighs (rw (on_level_is vx y t.from t.to t.inside) v));
          }

    -- no stretch is left
    read_quiet : {told' : List ℕ} → NoStretch told told' covers truth r hi → Lining loc₀ k sum y vx told₀ covers truth lo hi loc told' n acc hi
    read_quiet K = record {
      from = ok.order;
      to = omega arith;
      leaves = told_on S.to K.leaves;
      found = S.found;
      parts = S.parts ∙ ap (◌++◌ S.found) (rest_keep ok r hi S.to (omega arith) (λ q u v. sym (ahead q u) ∙ K.quiet q u v));
      number = S.number;
      few = omega (arith, S.few, S.to);
      wide = S.wide;
      written = S.written;
      weighs = S.weighs;
    }

  pub read_done : {loc told told' : List ℕ} {n acc r : ℕ} → Lining loc₀ k sum y vx told₀ covers truth lo hi loc told n acc r → NoStretch told told' covers truth r hi →
      LineRead loc₀ k sum vx covers (line_of y vx told₀ covers truth) loc told' (record { count = n; sum = acc })
  read_done {loc} {told} {told'} {n} {acc} {r} P K =
      let S = read_quiet P K in
      let all : line_of y vx told₀ covers truth ≡ S.found = S.parts ∙ ap (◌++◌ S.found) (rest_done ok) ∙ append-nil S.found in
      let count : length (map word_of S.found) ≡ length S.found = length-map S.found word_of in
      rw all record {
        all_told = ext_get_or 0 told' covers (S.leaves.long ∙ ok.both) (λ q u. go S.leaves q u (dec_lt q lo) (dec_lt q hi));
        written =
            S.written
            ∙ sets-eq (map word_of S.found) loc₀ k (omega (arith, ok.room, S.few, ok.last))
            ∙ append_assoc (take k loc₀) (map word_of S.found) (drop (k + length (map word_of S.found)) loc₀)
            ∙ ap (λ (i : ℕ). take k loc₀ ++ (map word_of S.found ++ drop (k + i) loc₀)) count;
        number = S.number;
        few = omega (arith, S.few, ok.last);
        weighs = S.weighs;
      }
    where
      go : Told covers lo hi told₀ told' → (q : ℕ) → q < length told' → Dec (q < lo) → Dec (q < hi) → get_or told' q 0 ≡ get_or covers q 0
      go L q u (no a) (yes b) = L.made q (omega arith) b
      go L q u (yes a) b = L.same q (λ w _. let z : ⊥ = omega arith in absurd z) ∙ ok.quiet q (omega (arith, L.long, ok.both)) (λ w _. let z : ⊥ = omega arith in absurd z)
      go L q u (no a) (no b) = L.same q (λ _ w. b w) ∙ ok.quiet q (omega (arith, L.long, ok.both)) (λ _ w. b w)
