-- The horizontals of a sweep as words, and the parts in which they are written. Assumes nothing.
--
--   LevelOk k N r      r is a horizontal at most at N, with both ends ranks below k
--   lines_ok           those of a sweep are
--   words_back, words_low, words_heights   what their words hold
--   lines_prefix       the lines of the first words come first
--   lines_bound        there are at most 2^25 horizontals
--   Writes vx h done out₀ cs₀ out cs   the horizontals `done` of h are written, and their ends
--   writes_start, part_ready, writes_more, writes_done   part by part
use Rattle.std.specs.Prelude.{◌≡◌, Bool, true, false, eqb, ℤ, get_or, drop}
use Rattle.std.proofs.Math.Path.{refl, sym, ap, ap₂}
use Rattle.std.proofs.Common.{◌∙◌, subst, arith, mul-le-mul, take-append-drop, take_at, drop_at, drop-drop, take-take}
use mathlib.Core.List.{List, [], ◌∷◌, ◌++◌, map, append_assoc}
use Prim.Native.Nat.{ℕ, zero, suc, ◌+◌, ◌*◌, ◌<◌, ◌≤◌}
use Rattle.std.proofs.Math.ListN.{length, take, length-append}
use Rattle.std.proofs.lemmas.List.{length-map}
use Rattle.std.proofs.Math.Seq.{take-length}
use Rattle.meaning.specs.Numbers.{pick}
use Rattle.meaning.specs.Cells.{Dir, off, fwd, bwd}
use Rattle.meaning.specs.Records.{Record, rec, Run, run, numbers_of}
use Rattle.basic_laws.specs.Lists.{All, all_append, map_append}
use Rattle.words.specs.Words.{value_of}
use Rattle.grid_laws.specs.Plane.{record_at, line_over, each_of, kind_at}
use Rattle.records.specs.Put.{numbers, emitted}
use Rattle.records.specs.Emitting.{numbers_append}
use Rattle.horizontal.specs.Words.{up_from, on_level, Ranks, packed, height_of, from_of, to_of, level_of, word_of, level_packed}
use Rattle.vertical_laws.specs.Tips.{verticals_n}
use Rattle.vertical_laws.specs.Ranked.{on_upright}
use Rattle.vertical_laws.specs.Table.{table_low}
use Rattle.verticals.specs.Words.{upright_numbers, Low, Ready, state, placed_all}
use Rattle.verticals.specs.Placed.{placed_append, placed_done}
use Rattle.sweep_laws.specs.Lines.{places, places_after, lines_to}
use Rattle.sweep_laws.specs.Steps.{lines_few}
use Rattle.sweep.specs.Filling.{Given}
use Rattle.parts.specs.Parted.{levelled, PartOk, Parted}
use Rattle.parts.specs.Emitted.{emitted_front}
use Rattle.writing.specs.Writing.{written}

-- ---- what the records of lines are

abbrev pub LevelOk : ℕ → ℕ → Record ℕ → Type 0
LevelOk k N (rec a y f t) = (a ≡ 0) × (y ≤ N) × (f < k) × (t < k)

line_ok : (k N y : ℕ) (rs : List Run) → y ≤ N → All (Ranks k) (map (record_at 0 y) rs) → All (LevelOk k N) (map (record_at 0 y) rs)
line_ok k N y [] h a = tt
line_ok k N y (run l u off ∷ rs) h a = ((refl, h, a.0.0, a.0.1), line_ok k N y rs h a.1)
line_ok k N y (run l u fwd ∷ rs) h a = ((refl, h, a.0.0, a.0.1), line_ok k N y rs h a.1)
line_ok k N y (run l u bwd ∷ rs) h a = ((refl, h, a.0.0, a.0.1), line_ok k N y rs h a.1)

all_first : (P : Record ℕ → Type 0) (rs ss : List (Record ℕ)) → All P (rs ++ ss) → All P rs
all_first P [] ss a = tt
all_first P (r ∷ rs) ss a = (a.0, all_first P rs ss a.1)

pub all_second : (P : Record ℕ → Type 0) (rs ss : List (Record ℕ)) → All P (rs ++ ss) → All P ss
all_second P [] ss a = a
all_second P (r ∷ rs) ss a = all_second P rs ss a.1

kind_ok : (k N : ℕ) (F : ℕ → ℕ → Dir) (ps : List ℕ) → All (λ y. y ≤ N) ps → All (LevelOk k N) (kind_at 0 F ps (up_from 0 k))
unfolding kind_at each_of
kind_ok k N F [] h = tt
kind_ok k N F (y ∷ ps) h =
    let a : All (Ranks k) (kind_at 0 F (y ∷ ps) (up_from 0 k)) = table_low k F (y ∷ ps) in
    all_append (LevelOk k N) (map (record_at 0 y) (line_over (F y) (up_from 0 k))) (kind_at 0 F ps (up_from 0 k))
    (line_ok k N y (line_over (F y) (up_from 0 k)) h.0 (all_first (Ranks k) (map (record_at 0 y) (line_over (F y) (up_from 0 k))) (kind_at 0 F ps (up_from 0 k)) a))
    (kind_ok k N F ps h.1)

after_low : (N y : ℕ) (ys : List ℕ) → All (λ z. z ≤ N) ys → All (λ z. z ≤ N) (places_after y ys)
unfolding places_after
after_low N y [] h = tt
after_low N y (z ∷ zs) h = go (eqb y z) (after_low N y zs h.1) (after_low N z zs h.1)
  where
    go : (b : Bool) → All (λ x. x ≤ N) (places_after y zs) → All (λ x. x ≤ N) (places_after z zs) → All (λ x. x ≤ N) (pick b (places_after y zs) (z ∷ places_after z zs))
    go true a b = a
    go false a b = (h.0, b)

places_low : (N : ℕ) (ys : List ℕ) → All (λ z. z ≤ N) ys → All (λ z. z ≤ N) (places ys)
unfolding places
places_low N [] h = tt
places_low N (y ∷ ys) h = (h.0, after_low N y ys h.1)

values_low : (base N : ℕ) (ws : List ℕ) (e : ℕ) → ((i : ℕ) → i < length ws → value_of base (get_or ws i 0) ≤ N) → All (λ z. z ≤ N) (map (value_of base) (take e ws))
values_low base N [] zero h = tt
values_low base N [] (suc e) h = tt
values_low base N (w ∷ ws) zero h = tt
values_low base N (w ∷ ws) (suc e) h = (h 0 (omega arith), values_low base N ws e (λ i l. h (suc i) (omega arith)))

-- ---- their words

module _ (k N : ℕ) (few : k ≤ 8192) where
  pub words_back : (rs : List (Record ℕ)) → All (LevelOk k N) rs → map level_of (map word_of rs) ≡ rs
  unfolding word_of
  words_back [] a = refl
  words_back (rec z y f t ∷ rs) a =
      ap₂ ◌∷◌ (level_packed y f t (omega (arith, a.0.2)) (omega (arith, a.0.3)) ∙ ap (λ x. rec x y f t) (sym a.0.0)) (words_back rs a.1)

  held : (y f t : ℕ) → f < k → t < k → (height_of (packed y f t) ≡ y) × (from_of (packed y f t) ≡ f) × (to_of (packed y f t) ≡ t)
  held y f t hf ht = (omega arith, omega arith, omega arith)

  pub words_low : (rs : List (Record ℕ)) → All (LevelOk k N) rs → Low k (map word_of rs)
  unfolding word_of
  words_low [] a i l = absurd (omega arith)
  words_low (rec z y f t ∷ rs) a zero l = let h = held y f t a.0.2 a.0.3 in (omega (arith, h.1, a.0.2), omega (arith, h.2, a.0.3))
  words_low (rec z y f t ∷ rs) a (suc i) l = words_low rs a.1 i (omega arith)

  pub words_heights : (rs : List (Record ℕ)) → All (LevelOk k N) rs → (i : ℕ) → i < length (map word_of rs) → height_of (get_or (map word_of rs) i 0) ≤ N
  unfolding word_of
  words_heights [] a i l = absurd (omega arith)
  words_heights (rec z y f t ∷ rs) a zero l = omega (arith, (held y f t a.0.2 a.0.3).0, a.0.1)
  words_heights (rec z y f t ∷ rs) a (suc i) l = words_heights rs a.1 i (omega arith)

-- ---- the lines of the first words come first

pub record Begins {A : Type 0} (xs all : List A) : Type 0 where
  pub rest : List A
  pub is : all ≡ xs ++ rest

after_begins : (y : ℕ) (xs ys : List ℕ) → Begins (places_after y xs) (places_after y (xs ++ ys))
unfolding places_after
after_begins y [] ys = record { rest = places_after y ys; is = refl }
after_begins y (x ∷ xs) ys = go (eqb y x) (after_begins y xs ys) (after_begins x xs ys)
  where
    go : (b : Bool) → Begins (places_after y xs) (places_after y (xs ++ ys)) → Begins (places_after x xs) (places_after x (xs ++ ys))
        → Begins (pick b (places_after y xs) (x ∷ places_after x xs)) (pick b (places_after y (xs ++ ys)) (x ∷ places_after x (xs ++ ys)))
    go true A B = A
    go false A B = record { rest = B.rest; is = ap (◌∷◌ x) B.is }

places_begin : (xs ys : List ℕ) → Begins (places xs) (places (xs ++ ys))
unfolding places
places_begin [] ys = record { rest = places ys; is = refl }
places_begin (x ∷ xs) ys = let B = after_begins x xs ys in record { rest = B.rest; is = ap (◌∷◌ x) B.is }

each_append : {A : Type 0} (h : ℕ → List A) (ps qs : List ℕ) → each_of h (ps ++ qs) ≡ each_of h ps ++ each_of h qs
unfolding each_of
each_append h [] qs = refl
each_append h (p ∷ ps) qs = ap (◌++◌ (h p)) (each_append h ps qs) ∙ sym (append_assoc (h p) (each_of h ps) (each_of h qs))

module _ {base : ℕ} {ws layers ends : List ℕ} {truth : List Bool} {vx : List ℕ} {n : ℕ} (G : Given base ws layers ends truth vx n) where
  abbrev to : ℕ → List (Record ℕ)
  to e = lines_to base ws layers ends truth (length vx) e

  pub ranks_few : length vx ≤ 8192
  ranks_few = omega (arith, G.strips, G.words.rows_few)

  pub lines_ok : (e : ℕ) → All (LevelOk (length vx) 2147483648) (lines_to base ws layers ends truth (length vx) e)
  unfolding lines_to
  lines_ok e = kind_ok (length vx) 2147483648 _ (places (map (value_of base) (take e ws))) (places_low 2147483648 (map (value_of base) (take e ws)) (values_low base 2147483648 ws e G.heights))

  pub lines_prefix : (e : ℕ) → Begins (lines_to base ws layers ends truth (length vx) e) (lines_to base ws layers ends truth (length vx) (length ws))
  unfolding lines_to kind_at
  lines_prefix e =
      let vs : map (value_of base) (take (length ws) ws) ≡ map (value_of base) (take e ws) ++ map (value_of base) (drop e ws) =
      ap (map (value_of base)) (take-length ws ∙ sym (take-append-drop e ws)) ∙ map_append (value_of base) (take e ws) (drop e ws) in
      let B = places_begin (map (value_of base) (take e ws)) (map (value_of base) (drop e ws)) in
      record { rest = _; is = ap (each_of _) (ap places vs ∙ B.is) ∙ each_append _ (places (map (value_of base) (take e ws))) B.rest }

  pub lines_bound : (e : ℕ) → e ≤ length ws → length (lines_to base ws layers ends truth (length vx) e) ≤ 33554432
  lines_bound e h =
      let f = lines_few base ws layers ends truth (length vx) e h in
      let l : e ≤ 4096 = omega (arith, G.words.few) in
      let m : e * length vx ≤ 4096 * 8192 = mul-le-mul l ranks_few in
      omega arith

-- ---- part by part

pub record Writes (vx : List ℕ) (h : ℕ) (done : List (Record ℕ)) (out₀ : List ℤ) (cs₀ : List ℕ) (out : List ℤ) (cs : List ℕ) : Type 0 where
  pub front : take (4 * length done) out ≡ numbers (map (on_level vx) done)
  pub back : state (drop (4 * h) out) cs ≡ placed_all vx (map word_of done) (state (drop (4 * h) out₀) cs₀)
  pub long : length out ≡ length out₀

pub writes_start : (vx : List ℕ) (h : ℕ) (out : List ℤ) (cs : List ℕ) → Writes vx h [] out cs out cs
unfolding numbers numbers_of placed_all
writes_start vx h out cs = record { front = refl; back = refl; long = refl }

module _ (vx : List ℕ) (few : length vx ≤ 8192) (hs done rs rest : List (Record ℕ)) (all : hs ≡ done ++ (rs ++ rest)) (ok : All (LevelOk (length vx) 2147483648) hs) (out₀ : List ℤ) (cs₀ : List ℕ)
    (ready : Ready (map word_of hs) vx cs₀ (length (drop (4 * length hs) out₀))) (room : 8 * length hs ≤ length out₀) (bound : length hs ≤ 33554432) (out : List ℤ) (cs : List ℕ) (W : Writes vx (length hs) done out₀ cs₀ out cs) where
  abbrev h : ℕ
  h = length hs

  long_all : h ≡ length done + (length rs + length rest)
  long_all = ap length all ∙ length-append done (rs ++ rest) ∙ ap (◌+◌ (length done)) (length-append rs rest)

  rs_ok : All (LevelOk (length vx) 2147483648) rs
  rs_ok = all_first (LevelOk (length vx) 2147483648) rs rest (all_second (LevelOk (length vx) 2147483648) done (rs ++ rest) (subst (All (LevelOk (length vx) 2147483648)) all ok))

  words_all : map word_of hs ≡ map word_of done ++ (map word_of rs ++ map word_of rest)
  words_all = ap (map word_of) all ∙ map_append word_of done (rs ++ rest) ∙ ap (◌++◌ (map word_of done)) (map_append word_of rs rest)

  done_words : take (length done) (map word_of hs) ≡ map word_of done
  done_words = ap (take (length done)) words_all ∙ take_at (map word_of done) (map word_of rs ++ map word_of rest) (length done) (length-map done word_of)

  part_words : take (length (map word_of rs)) (drop (length done) (map word_of hs)) ≡ map word_of rs
  part_words =
      ap (λ xs. take (length (map word_of rs)) (drop (length done) xs)) words_all
      ∙ ap (take (length (map word_of rs))) (drop_at (map word_of done) (map word_of rs ++ map word_of rest) (length done) (length-map done word_of))
      ∙ take_at (map word_of rs) (map word_of rest) (length (map word_of rs)) refl

  pub part_ready : PartOk (map word_of rs) (length done) (length hs) vx cs out
  part_ready = record {
    levels = record {
      low = words_low (length vx) 2147483648 few rs rs_ok;
      columns = ready.columns;
      heights = words_heights (length vx) 2147483648 few rs rs_ok;
      few = omega (arith, long_all, length-map rs word_of, bound);
    };
    within = omega (arith, long_all, length-map rs word_of);
    few = bound;
    room = omega (arith, room, W.long);
    place = record {
      all = map word_of hs;
      done = length done;
      first = drop (4 * h) out₀;
      counters = cs₀;
      ready = ready;
      so_far = W.back ∙ ap (λ xs. placed_all vx xs (state (drop (4 * h) out₀) cs₀)) (sym done_words);
      part = part_words;
    };
  }

  -- the horizontals of the part
  abbrev R : List (Record ℕ)
  R = map (on_level vx) rs

  abbrev L : List ℤ
  L = levelled vx (map word_of rs) (length done) out

  long_r : length R ≡ length rs
  long_r = length-map rs (on_level vx)

  front_of_l : take (4 * length (done ++ rs)) L ≡ numbers (map (on_level vx) (done ++ rs))
  unfolding levelled
  front_of_l =
      let e : length (done ++ rs) ≡ length done + length R = length-append done rs ∙ ap (◌+◌ (length done)) (sym long_r) in
      ap₂ (λ k rs'. take (4 * k) (emitted out (length done) (map (on_level vx) rs'))) e (words_back (length vx) 2147483648 few rs rs_ok)
      ∙ emitted_front out (length done) R (omega (arith, long_r, long_all, room, W.long))
      ∙ ap (λ ns. ns ++ numbers R) W.front
      ∙ sym (numbers_append (map (on_level vx) done) R)
      ∙ ap numbers (sym (map_append (on_level vx) done rs))

  pub writes_more : (out' : List ℤ) (cs' : List ℕ) → Parted (map word_of rs) (length done) (length hs) vx cs cs' out out' → Writes vx (length hs) (done ++ rs) out₀ cs₀ out' cs'
  writes_more out' cs' P = record {
    front =
        sym (take-take (4 * length (done ++ rs)) (4 * h) out' (omega (arith, length-append done rs, long_all)))
        ∙ ap (take (4 * length (done ++ rs))) P.front
        ∙ take-take (4 * length (done ++ rs)) (4 * h) L (omega (arith, length-append done rs, long_all))
        ∙ front_of_l;
    back =
        P.back
        ∙ ap (placed_all vx (map word_of rs)) W.back
        ∙ sym (placed_append vx (map word_of done) (map word_of rs) (state (drop (4 * h) out₀) cs₀))
        ∙ ap (λ xs. placed_all vx xs (state (drop (4 * h) out₀) cs₀)) (sym (map_append word_of done rs));
    long = P.long ∙ W.long;
  }

pub writes_done : (vx : List ℕ) → length vx ≤ 8192 → (hs : List (Record ℕ)) → All (LevelOk (length vx) 2147483648) hs → (out₀ : List ℤ) (cs₀ : List ℕ)
    → Ready (map word_of hs) vx cs₀ (length (drop (4 * length hs) out₀)) → (out : List ℤ) (cs : List ℕ) → Writes vx (length hs) hs out₀ cs₀ out cs → out ≡ written vx hs out₀
unfolding written upright_numbers
writes_done vx few hs ok out₀ cs₀ ready out cs W =
    let back : drop (4 * length hs) out ≡ upright_numbers vx hs ++ drop (8 * length hs) out₀ =
    placed_done (map word_of hs) vx cs₀ (drop (4 * length hs) out₀) ready (drop (4 * length hs) out) cs W.back
    ∙ ap₂ (λ rs k. upright_numbers vx rs ++ drop k (drop (4 * length hs) out₀)) (words_back (length vx) 2147483648 few hs ok) (ap (◌*◌ 4) (length-map hs word_of))
    ∙ ap (◌++◌ (upright_numbers vx hs)) (drop-drop (4 * length hs) (4 * length hs) out₀ ∙ ap (λ m. drop m out₀) (eight (length hs))) in
    sym (take-append-drop (4 * length hs) out)
    ∙ ap₂ ◌++◌ W.front back
    ∙ sym (append_assoc (numbers (map (on_level vx) hs)) (numbers (map (on_upright vx) (verticals_n (length vx) hs))) (drop (8 * length hs) out₀))
    ∙ ap (λ ns. ns ++ drop (8 * length hs) out₀) (sym (numbers_append (map (on_level vx) hs) (map (on_upright vx) (verticals_n (length vx) hs))))
  where
    eight : (k : ℕ) → 4 * k + 4 * k ≡ 8 * k
    eight k = omega arith
