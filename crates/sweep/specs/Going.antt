-- The sweep on its way, place after place. Assumes nothing.
--
--   Going ..         the lines from the place of word g to that of word e were found: rs are their horizontals
--   going_start      none yet
--   advance_ready, line_ready   what crossing the next place's edges, and reading its line, are asked
--   going_more       one place more
--   going_done       at the end, or where there may be no room for one more line
--   Filling, filling_start, filling_more, filling_full, filling_done   the loop of `fill`
use Rattle.std.specs.Prelude.{◌≡◌, refl, Bool, List, [], ◌++◌, map, ℕ, ◌+◌, ◌<◌, ◌≤◌, length, get_or, take, drop}
use Rattle.std.proofs.Common.{sym, ap, ap₂, ◌∙◌, append-nil, append_assoc, arith, length-append, length-drop, take_at, drop_at, drop-drop}
use Rattle.std.proofs.Math.Decide.{dec_lt}
use Rattle.std.proofs.lemmas.List.{length-map}
use Rattle.meaning.specs.Records.{Record}
use Rattle.basic_laws.specs.Lists.{map_append}
use Rattle.words.specs.Words.{value_of}
use Rattle.strips.specs.Cover.{look}
use Rattle.marks.specs.Marks.{FreshMarks}
use Rattle.crossings.specs.declared.Touched.{Touched}
use Rattle.crossings.specs.Swept.{AdvanceOk, Advanced}
use Rattle.horizontal.specs.Words.{on_level, word_of}
use Rattle.horizontal.specs.Lines.{line_records}
use Rattle.weights.specs.Weights.{Weighed}
use Rattle.weights.specs.WeightLaws.{weigh_none, weigh_more}
use Rattle.levels.specs.declared.Reading.{Reading}
use Rattle.levels.specs.Line.{line_of, LineOk, LineRead}
use Rattle.sweep_laws.specs.Lines.{lines_to}
use Rattle.sweep_laws.proofs.Steps.{place_next, lines_advanced}
use Rattle.sweep.specs.Filling.{Given, At, FillOk, Fills}

pub record Going (base : ℕ) (ws layers ends : List ℕ) (truth : List Bool) (vx : List ℕ) (n g sum : ℕ) (loc₀ loc c m told d₀ d : List ℕ) (e k acc : ℕ) : Type 0 where
  pub rs : List (Record ℕ)
  pub lines : lines_to base ws layers ends truth (length vx) e ≡ lines_to base ws layers ends truth (length vx) g ++ rs
  pub words : loc ≡ map word_of rs ++ drop (length rs) loc₀
  pub count : k ≡ length rs
  pub fits : length rs ≤ length loc₀
  pub weighed : Weighed sum (map (on_level vx) rs) acc
  pub at : At n ws layers ends e c m told d
  pub marks_same : d ≡ d₀
  pub from : g ≤ e

-- the list stays as long as it was
pub going_long : (rs : List (Record ℕ)) (loc₀ loc : List ℕ) → loc ≡ map word_of rs ++ drop (length rs) loc₀ → length rs ≤ length loc₀ → length loc ≡ length loc₀
going_long rs loc₀ loc e h = ap length e ∙ length-append (map word_of rs) (drop (length rs) loc₀) ∙ simp (length-drop, length-map) (omega arith)

pub going_start : {base : ℕ} {ws layers ends : List ℕ} {truth : List Bool} {vx : List ℕ} {n g sum : ℕ} {loc₀ c₀ m₀ told₀ d₀ : List ℕ} → At n ws layers ends g c₀ m₀ told₀ d₀ → Going base ws layers ends truth vx n g sum loc₀ loc₀ c₀ m₀ told₀ d₀ d₀ g 0 sum
going_start {base} {ws} {layers} {ends} {truth} {vx} {n} {g} {sum} A = record {
  rs = [];
  lines = sym (append-nil (lines_to base ws layers ends truth (length vx) g));
  words = refl;
  count = refl;
  fits = omega arith;
  weighed = weigh_none sum;
  at = A;
  marks_same = refl;
  from = omega arith;
}

module _ {base : ℕ} {ws layers ends : List ℕ} {truth : List Bool} {vx : List ℕ} {n g sum : ℕ} {loc₀ d₀ : List ℕ} (G : Given base ws layers ends truth vx n) where
  module _ {loc c m told d : List ℕ} {e k acc : ℕ} (S : Going base ws layers ends truth vx n g sum loc₀ loc c m told d₀ d e k acc) (more : e < length ws) where
    pub advance_ready : AdvanceOk n ws layers ends e c m × FreshMarks n d
    advance_ready = (record { words = G.words; some = more; swept = S.at.swept }, S.at.fresh)

    module _ {c' m' : List ℕ} {t : Touched} (A : Advanced n ws layers ends e c c' m m' t) (room : k + length vx ≤ length loc) where
      pub line_ready : (y : ℕ) → y ≡ value_of base (get_or ws e 0) → LineOk loc k y vx told m' truth t.lo t.hi
      line_ready y h = record {
        room = room;
        place = omega (arith, h, G.heights e more);
        each = G.each;
        rising = G.rising;
        few = omega (arith, G.strips, G.words.rows_few);
        both = ap length S.at.told_is ∙ S.at.swept.long_covers ∙ sym A.swept.long_covers;
        long = omega (arith, G.strips, A.swept.long_covers);
        table = G.long_truth;
        order = A.across;
        last = A.below (length vx) G.ends_in;
        quiet = λ r l o. ap (λ u. get_or u r 0) S.at.told_is ∙ sym (A.still_covers r (omega (arith, A.swept.long_covers)) o);
      }

      module _ (y : ℕ) (h : y ≡ value_of base (get_or ws e 0)) {loc' told' d' : List ℕ} {r : Reading} (same : d' ≡ d) (L : LineRead loc k acc vx m' (line_of y vx told m' truth) loc' told' r) where
        abbrev line : List (Record ℕ)
        line = line_of y vx told m' truth

        is_line : line_records (value_of base (get_or ws e 0)) (length vx) (look truth m) (look truth m') ≡ line
        is_line = ap₂ (λ z u. line_records z (length vx) (look truth u) (look truth m')) (sym h) (sym S.at.told_is)

        long : length loc ≡ length loc₀
        long = going_long S.rs loc₀ loc S.words S.fits

        front : take k loc ≡ map word_of S.rs
        front = ap (take k) S.words ∙ take_at (map word_of S.rs) (drop (length S.rs) loc₀) k (length-map S.rs word_of ∙ sym S.count)

        rest : drop (k + length line) loc ≡ drop (length (S.rs ++ line)) loc₀
        rest =
            sym (drop-drop (length line) k loc)
            ∙ ap (drop (length line)) (ap (drop k) S.words ∙ drop_at (map word_of S.rs) (drop (length S.rs) loc₀) k (length-map S.rs word_of ∙ sym S.count))
            ∙ drop-drop (length line) (length S.rs) loc₀
            ∙ ap (λ i. drop i loc₀) (sym (length-append S.rs line))

        pub going_more : Going base ws layers ends truth vx n g sum loc₀ loc' c' m' told' d₀ d' t.next r.count r.sum
        going_more = record {
          rs = S.rs ++ line;
          lines =
              lines_advanced G.ascending A base truth S.at.place S.at.swept G.empty G.strips
              ∙ ap₂ ◌++◌ S.lines is_line
              ∙ append_assoc (lines_to base ws layers ends truth (length vx) g) S.rs line;
          words =
              L.written
              ∙ ap₂ (λ u v. u ++ (map word_of line ++ v)) front rest
              ∙ sym (append_assoc (map word_of S.rs) (map word_of line) (drop (length (S.rs ++ line)) loc₀))
              ∙ ap (λ u. u ++ drop (length (S.rs ++ line)) loc₀) (sym (map_append word_of S.rs line));
          count = omega (arith, L.number, S.count, length-append S.rs line);
          fits = omega (arith, length-append S.rs line, L.few, room, long, S.count);
          weighed = rw (map_append (on_level vx) S.rs line) (weigh_more (map (on_level vx) S.rs) (map (on_level vx) line) S.weighed L.weighs);
          at = record { place = place_next G.ascending A; swept = A.swept; told_is = L.all_told; fresh = rw same S.at.fresh };
          marks_same = same ∙ S.marks_same;
          from = omega (arith, S.from, A.more);
        }

  pub going_done : {loc c m told d : List ℕ} {e k acc : ℕ} → Going base ws layers ends truth vx n g sum loc₀ loc c m told d₀ d e k acc → length m ≡ n → (g < length ws → g < e) → (e < length ws → length loc < k + length vx)
      → Fills base ws layers ends truth vx g sum loc₀ loc c m told d₀ d (record { next = e; read = record { count = k; sum = acc } })
  going_done {loc} {c} {m} {told} {d} {e} {k} {acc} S w on full = record {
    rs = S.rs;
    lines = S.lines;
    words = S.words;
    count = S.count;
    fits = S.fits;
    weighed = S.weighed;
    at = rw w S.at;
    marks_same = S.marks_same;
    from = S.from;
    more = on;
    full = λ h. omega (arith, full h, S.count, going_long S.rs loc₀ loc S.words S.fits);
  }

-- ---- the loop of `fill`

pub record Filling (base : ℕ) (ws layers ends : List ℕ) (truth : List Bool) (vx : List ℕ) (n g sum : ℕ) (loc₀ loc c₀ c m₀ m told₀ told d₀ d : List ℕ) (e k acc : ℕ) : Type 0 where
  pub given : Given base ws layers ends truth vx n
  pub going : Going base ws layers ends truth vx n g sum loc₀ loc c m told d₀ d e k acc
  pub room : length vx ≤ length loc₀
  pub within : e ≤ length ws
  pub low : k ≤ length loc
  -- at the place where it starts there is no record yet
  pub start : e ≡ g → k ≡ 0
  pub long : length loc ≡ length loc₀
  pub long_counts : length c ≡ length c₀
  pub long_covers : length m ≡ length m₀
  pub long_told : length told ≡ length told₀
  pub long_marks : length d ≡ length d₀
  pub rows : length m ≡ n

pub filling_start : {base : ℕ} {ws layers ends : List ℕ} {truth : List Bool} {vx : List ℕ} {g sum : ℕ} {loc c m told d : List ℕ} → FillOk base ws layers ends truth vx g loc c m told d
    → Filling base ws layers ends truth vx (length m) g sum loc loc c c m m told told d d g 0 sum
filling_start ok = record {
  given = ok.given;
  going = going_start ok.at;
  room = ok.room;
  within = ok.at.place.fits;
  low = omega arith;
  start = λ _. refl;
  long = refl;
  long_counts = refl;
  long_covers = refl;
  long_told = refl;
  long_marks = refl;
  rows = refl;
}

module _ {base : ℕ} {ws layers ends : List ℕ} {truth : List Bool} {vx : List ℕ} {n g sum : ℕ} {loc₀ loc c₀ c m₀ m told₀ told d₀ d : List ℕ} {e k acc : ℕ} (F : Filling base ws layers ends truth vx n g sum loc₀ loc c₀ c m₀ m told₀ told d₀ d e k acc) where
  pub filling_more : (more : e < length ws) {c' m' : List ℕ} {t : Touched} (A : Advanced n ws layers ends e c c' m m' t) (room : k + length vx ≤ length loc) (y : ℕ) (h : y ≡ value_of base (get_or ws e 0)) {loc' told' d' : List ℕ} {r : Reading} → d' ≡ d
      → LineRead loc k acc vx m' (line_of y vx told m' truth) loc' told' r → Filling base ws layers ends truth vx n g sum loc₀ loc' c₀ c' m₀ m' told₀ told' d₀ d' t.next r.count r.sum
  filling_more more {c'} {m'} {t} A room y h {loc'} {told'} {d'} {r} same L =
      let S = going_more F.given F.going more A room y h same L in
      let long : length loc' ≡ length loc₀ = going_long S.rs loc₀ loc' S.words S.fits in
      record {
        given = F.given;
        going = S;
        room = F.room;
        within = A.fits;
        low = omega (arith, S.count, S.fits, long);
        start = λ q. let z : ⊥ = omega (arith, A.more, F.going.from) in absurd z;
        long = long;
        long_counts = A.swept.long ∙ sym F.going.at.swept.long ∙ F.long_counts;
        long_covers = A.swept.long_covers ∙ sym F.rows ∙ F.long_covers;
        long_told = ap length L.all_told ∙ A.swept.long_covers ∙ sym F.rows ∙ ap length (sym F.going.at.told_is) ∙ F.long_told;
        long_marks = ap length same ∙ F.long_marks;
        rows = A.swept.long_covers;
      }

  pub filling_full : e < length ws → length loc < k + length vx → Fills base ws layers ends truth vx g sum loc₀ loc c m told d₀ d (record { next = e; read = record { count = k; sum = acc } })
  filling_full more full = going_done F.given F.going F.rows (λ _. go (dec_lt g e)) (λ _. full)
    where
      go : Dec (g < e) → g < e
      go (yes u) = u
      go (no u) = let z : ⊥ = omega (arith, F.start (omega (arith, F.going.from)), F.room, F.long) in absurd z

  pub filling_done : length ws ≤ e → Fills base ws layers ends truth vx g sum loc₀ loc c m told d₀ d (record { next = e; read = record { count = k; sum = acc } })
  filling_done end = going_done F.given F.going F.rows (λ h. omega arith) (λ h. let z : ⊥ = omega arith in absurd z)
