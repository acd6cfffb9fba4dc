-- The loops of the writing, part by part. Assumes nothing.
--
--   part_is               a part stands at the front of the working array
--   Measuring, measuring_start, fill_ready, count_ready, measuring_more, measuring_done   the loop of `measure`
--   Rewriting, rewriting_start, refill-ready, rewriting_part, rewriting_more, rewriting_done   the loop of `again`
use Rattle.std.specs.Prelude.{◌≡◌, refl, Bool, List, [], ◌∷◌, ◌++◌, map, ℕ, ◌+◌, ◌*◌, ◌<◌, ◌≤◌, ℤ, length, get_or, take, drop}
use Rattle.std.proofs.Common.{sym, ap, ◌∙◌, subst, append_assoc, arith, length-append, take_at}
use Rattle.std.proofs.lemmas.List.{length-map}
use Rattle.meaning.specs.Records.{Record}
use Rattle.basic_laws.specs.Lists.{All, map_append}
use Rattle.basic_laws.specs.Sums.{sum_of}
use Rattle.bucket_laws.specs.Buckets.{Counted}
use Rattle.horizontal.specs.Words.{on_level, word_of}
use Rattle.weights.specs.Weights.{Weighed}
use Rattle.weights.specs.WeightLaws.{weigh_none, weigh_more}
use Rattle.verticals.specs.Words.{digits_in, Low, CountOk, Tallied, Ready}
use Rattle.verticals.specs.Counting.{digits_length, digits_append, count_ok, counted_more}
use Rattle.sweep_laws.specs.Lines.{lines_to}
use Rattle.sweep_laws.specs.Steps.{lines_none}
use Rattle.sweep.specs.declared.Filled.{Filled}
use Rattle.sweep.specs.Filling.{Given, At, FillOk, Fills}
use Rattle.sweep.specs.Going.{going_long}
use Rattle.parts.specs.Parted.{PartOk, Parted}
use Rattle.writing.specs.Writing.{MeasureOk, Measures, AgainOk, written}
use Rattle.writing.specs.Parts.{LevelOk, all_second, words_low, ranks_few, lines_ok, lines_prefix, lines_bound, Writes, writes_start, part_ready, writes_more, writes_done}

pub part_is : (rs : List (Record ℕ)) (loc₀ loc : List ℕ) (k : ℕ) → loc ≡ map word_of rs ++ drop (length rs) loc₀ → k ≡ length rs → take k loc ≡ map word_of rs
part_is rs loc₀ loc k e h = ap (take k) e ∙ take_at (map word_of rs) (drop (length rs) loc₀) k (length-map rs word_of ∙ sym h)

none_of : (xs : List (Record ℕ)) → length xs ≡ 0 → xs ≡ []
none_of [] e = refl
none_of (x ∷ xs) e = absurd (omega arith)

-- ---- the loop of `measure`

pub record Measuring (base : ℕ) (ws layers ends : List ℕ) (truth : List Bool) (vx : List ℕ) (n : ℕ) (loc₀ loc cs₀ cs c₀ c m₀ m told₀ told d₀ d : List ℕ) (g all last sum : ℕ) : Type 0 where
  pub given : Given base ws layers ends truth vx n
  pub at : At n ws layers ends g c m told d
  pub room : length vx ≤ length loc
  pub rows : length m ≡ n
  pub within : g ≤ length ws
  pub wide : length cs ≡ length vx
  pub counted : Counted (digits_in (map word_of (lines_to base ws layers ends truth (length vx) g))) cs
  pub number : all ≡ length (lines_to base ws layers ends truth (length vx) g)
  pub few : all ≤ 33554432
  pub weighed : Weighed 0 (map (on_level vx) (lines_to base ws layers ends truth (length vx) g)) sum
  pub low : last ≤ length loc
  pub kept : last ≡ all → take last loc ≡ map word_of (lines_to base ws layers ends truth (length vx) g)
  pub long : length loc ≡ length loc₀
  pub long_cs : length cs ≡ length cs₀
  pub long_c : length c ≡ length c₀
  pub long_m : length m ≡ length m₀
  pub long_told : length told ≡ length told₀
  pub long_d : length d ≡ length d₀

pub measuring_start : {base : ℕ} {ws layers ends : List ℕ} {truth : List Bool} {vx loc cs c m told d : List ℕ} → MeasureOk base ws layers ends truth vx loc cs c m told d
    → Measuring base ws layers ends truth vx (length m) loc loc cs cs c c m m told told d d 0 0 0 0
measuring_start {base} {ws} {layers} {ends} {truth} {vx} {loc} {cs} {c} {m} {told} {d} ok =
    let none = lines_none base ws layers ends truth (length vx) in
    record {
      given = ok.given;
      at = ok.at;
      room = ok.room;
      rows = refl;
      within = omega arith;
      wide = ok.counters;
      counted = rw none (nothing ok.none);
      number = rw none refl;
      few = omega arith;
      weighed = rw none (weigh_none 0);
      low = omega arith;
      kept = λ _. rw none refl;
      long = refl;
      long_cs = refl;
      long_c = refl;
      long_m = refl;
      long_told = refl;
      long_d = refl;
    }
  where
    nothing : ((i : ℕ) → i < length cs → get_or cs i 0 ≡ 0) → Counted (digits_in (map word_of [])) cs
    nothing h = unfold digits_in sum_of in h

-- one part more, of either loop: what the sweep is asked, and what it found
module _ {base : ℕ} {ws layers ends : List ℕ} {truth : List Bool} {vx : List ℕ} {n : ℕ} {loc c m told d : List ℕ} {g : ℕ} where
  pub fill_ready : Given base ws layers ends truth vx n → At n ws layers ends g c m told d → length vx ≤ length loc → length m ≡ n → FillOk base ws layers ends truth vx g loc c m told d
  fill_ready G A room rows = record { given = rw rows G; at = rw rows A; room = room }

module _ {base : ℕ} {ws layers ends : List ℕ} {truth : List Bool} {vx : List ℕ} {n : ℕ} {loc₀ loc cs₀ cs c₀ c m₀ m told₀ told d₀ d : List ℕ} {g all last sum : ℕ}
    (S : Measuring base ws layers ends truth vx n loc₀ loc cs₀ cs c₀ c m₀ m told₀ told d₀ d g all last sum) {loc' c' m' told' d' : List ℕ} {r : Filled}
    (F : Fills base ws layers ends truth vx g sum loc loc' c' m' told' d d' r) where
  abbrev before : List (Record ℕ)
  before = lines_to base ws layers ends truth (length vx) g

  abbrev after : List (Record ℕ)
  after = lines_to base ws layers ends truth (length vx) r.next

  front_is : take r.read.count loc' ≡ map word_of F.rs
  front_is = part_is F.rs loc loc' r.read.count F.words F.count

  pub next_within : r.next ≤ length ws
  next_within = F.at.place.fits

  after_few : length after ≤ 33554432
  after_few = lines_bound S.given r.next next_within

  after_long : length after ≡ length before + length F.rs
  after_long = ap length F.lines ∙ length-append before F.rs

  rs_ok : All (LevelOk (length vx) 2147483648) F.rs
  rs_ok = all_second (LevelOk (length vx) 2147483648) before F.rs (subst (All (LevelOk (length vx) 2147483648)) F.lines (lines_ok S.given r.next))

  pub count_low : r.read.count ≤ length loc'
  count_low = omega (arith, F.count, F.fits, going_long F.rs loc loc' F.words F.fits)

  pub sum_low : all + r.read.count ≤ 33554432
  sum_low = omega (arith, S.number, F.count, after_few, after_long)

  pub count_ready : CountOk (take r.read.count loc') cs
  count_ready =
      rw front_is
      (count_ok (digits_in (map word_of before)) (map word_of F.rs) cs S.counted (subst (λ k. Low k (map word_of F.rs)) (sym S.wide) (words_low (length vx) 2147483648 (ranks_few S.given) F.rs rs_ok))
      (omega (arith, digits_length (map word_of before), length-map before word_of, length-map F.rs word_of, after_few, after_long)))

  pub measuring_more : {cs' : List ℕ} → Tallied (digits_in (take r.read.count loc')) cs cs' → length m' ≡ n
      → Measuring base ws layers ends truth vx n loc₀ loc' cs₀ cs' c₀ c' m₀ m' told₀ told' d₀ d' r.next (all + r.read.count) r.read.count r.read.sum
  measuring_more {cs'} T rows = record {
    given = S.given;
    at = rw rows at F.at;
    room = omega (arith, S.room, same);
    rows = rows;
    within = next_within;
    wide = T.wide ∙ S.wide;
    counted = rw digits (counted_more (digits_in (map word_of before)) (digits_in (map word_of F.rs)) cs cs' S.counted (rw front_is at T));
    number = omega (arith, S.number, F.count, after_long);
    few = sum_low;
    weighed = rw (F.lines, map_append (on_level vx) before F.rs) (weigh_more (map (on_level vx) before) (map (on_level vx) F.rs) S.weighed F.weighed);
    low = count_low;
    kept = λ e. front_is ∙ ap (map word_of) (sym (F.lines ∙ ap (λ b. b ++ F.rs) (none_of before (omega (arith, e, S.number)))));
    long = same ∙ S.long;
    long_cs = T.wide ∙ S.long_cs;
    long_c = F.at.swept.long ∙ ap (◌*◌ 8) rows ∙ sym S.at.swept.long ∙ S.long_c;
    long_m = rows ∙ sym S.rows ∙ S.long_m;
    long_told = ap length F.at.told_is ∙ rows ∙ sym S.rows ∙ ap length (sym S.at.told_is) ∙ S.long_told;
    long_d = ap length F.marks_same ∙ S.long_d;
  }
    where
      same : length loc' ≡ length loc
      same = going_long F.rs loc loc' F.words F.fits

      digits : digits_in (map word_of after) ≡ digits_in (map word_of before) ++ digits_in (map word_of F.rs)
      digits = ap (λ x. digits_in (map word_of x)) F.lines ∙ ap digits_in (map_append word_of before F.rs) ∙ digits_append (map word_of before) (map word_of F.rs)

pub measuring_done : {base : ℕ} {ws layers ends : List ℕ} {truth : List Bool} {vx : List ℕ} {n : ℕ} {loc₀ loc cs₀ cs c₀ c m₀ m told₀ told d₀ d : List ℕ} {g all last sum : ℕ}
    → Measuring base ws layers ends truth vx n loc₀ loc cs₀ cs c₀ c m₀ m told₀ told d₀ d g all last sum → length ws ≤ g → Measures base ws layers ends truth vx loc cs c m told d (record { all = all; last = last; sum = sum })
measuring_done {base} {ws} {layers} {ends} {truth} {vx} {n} {loc₀} {loc} {cs₀} {cs} {c₀} {c} {m₀} {m} {told₀} {told} {d₀} {d} {g} {all} {last} {sum} S h =
    let e : g ≡ length ws = omega (arith, S.within) in
    record {
      all = S.number ∙ ap (λ k. length (lines_to base ws layers ends truth (length vx) k)) e;
      few = S.few;
      counted = rw e at S.counted;
      counters = S.wide;
      weighed = rw e at S.weighed;
      at = rw S.rows (rw e at S.at);
      last = S.low;
      kept = rw e at S.kept;
    }

-- ---- the loop of `again`

pub record Rewriting (base : ℕ) (ws layers ends : List ℕ) (truth : List Bool) (vx : List ℕ) (h n : ℕ) (out₀ out : List ℤ) (loc₀ loc cs₀ cs c₀ c m₀ m told₀ told d₀ d : List ℕ) (g k : ℕ) : Type 0 where
  pub given : Given base ws layers ends truth vx n
  pub at : At n ws layers ends g c m told d
  pub room : length vx ≤ length loc
  pub rows : length m ≡ n
  pub within : g ≤ length ws
  pub all : h ≡ length (lines_to base ws layers ends truth (length vx) (length ws))
  pub fits : 8 * h ≤ length out₀
  pub ready : Ready (map word_of (lines_to base ws layers ends truth (length vx) (length ws))) vx cs₀ (length (drop (4 * h) out₀))
  pub writes : Writes vx h (lines_to base ws layers ends truth (length vx) g) out₀ cs₀ out cs
  pub number : k ≡ length (lines_to base ws layers ends truth (length vx) g)
  pub few : k ≤ 33554432
  pub long_out : length out ≡ length out₀
  pub long : length loc ≡ length loc₀
  pub long_cs : length cs ≡ length cs₀
  pub long_c : length c ≡ length c₀
  pub long_m : length m ≡ length m₀
  pub long_told : length told ≡ length told₀
  pub long_d : length d ≡ length d₀

pub rewriting_start : {base : ℕ} {ws layers ends : List ℕ} {truth : List Bool} {vx : List ℕ} {h : ℕ} {out : List ℤ} {loc cs c m told d : List ℕ} → AgainOk base ws layers ends truth vx h out loc cs c m told d
    → Rewriting base ws layers ends truth vx h (length m) out out loc loc cs cs c c m m told told d d 0 0
rewriting_start {base} {ws} {layers} {ends} {truth} {vx} {h} {out} {loc} {cs} ok =
    let none = lines_none base ws layers ends truth (length vx) in
    record {
      given = ok.given;
      at = ok.at;
      room = ok.room;
      rows = refl;
      within = omega arith;
      all = ok.all;
      fits = ok.fits;
      ready = ok.ready;
      writes = rw none (writes_start vx h out cs);
      number = rw none refl;
      few = omega arith;
      long_out = refl;
      long = refl;
      long_cs = refl;
      long_c = refl;
      long_m = refl;
      long_told = refl;
      long_d = refl;
    }

module _ {base : ℕ} {ws layers ends : List ℕ} {truth : List Bool} {vx : List ℕ} {h n : ℕ} {out₀ out : List ℤ} {loc₀ loc cs₀ cs c₀ c m₀ m told₀ told d₀ d : List ℕ} {g k : ℕ}
    (S : Rewriting base ws layers ends truth vx h n out₀ out loc₀ loc cs₀ cs c₀ c m₀ m told₀ told d₀ d g k) {sum : ℕ} {loc' c' m' told' d' : List ℕ} {r : Filled}
    (F : Fills base ws layers ends truth vx g sum loc loc' c' m' told' d d' r) where
  abbrev hs : List (Record ℕ)
  hs = lines_to base ws layers ends truth (length vx) (length ws)

  abbrev so_far : List (Record ℕ)
  so_far = lines_to base ws layers ends truth (length vx) g

  whole : hs ≡ so_far ++ (F.rs ++ (lines_prefix S.given r.next).rest)
  whole = (lines_prefix S.given r.next).is ∙ ap (λ x. x ++ (lines_prefix S.given r.next).rest) F.lines ∙ append_assoc so_far F.rs (lines_prefix S.given r.next).rest

  bound : length hs ≤ 33554432
  bound = lines_bound S.given (length ws) (omega arith)

  ok : All (LevelOk (length vx) 2147483648) hs
  ok = lines_ok S.given (length ws)

  part : take r.read.count loc' ≡ map word_of F.rs
  part = part_is F.rs loc loc' r.read.count F.words F.count

  pub repart_low : r.read.count ≤ length loc'
  repart_low = omega (arith, F.count, F.fits, going_long F.rs loc loc' F.words F.fits)

  pub repart_sum : k + r.read.count ≤ 33554432
  repart_sum = omega (arith, S.number, F.count, bound, ap length whole, length-append so_far (F.rs ++ (lines_prefix S.given r.next).rest), length-append F.rs (lines_prefix S.given r.next).rest)

  writes_all : Writes vx (length hs) so_far out₀ cs₀ out cs
  writes_all = rw S.all at S.writes

  ready_all : Ready (map word_of hs) vx cs₀ (length (drop (4 * length hs) out₀))
  ready_all = rw S.all at S.ready

  fits_all : 8 * length hs ≤ length out₀
  fits_all = omega (arith, S.fits, S.all)

  pub rewriting_part : PartOk (take r.read.count loc') k h vx cs out
  rewriting_part =
      rw (part, S.number, S.all)
      (part_ready vx (ranks_few S.given) hs so_far F.rs (lines_prefix S.given r.next).rest whole ok out₀ cs₀ ready_all fits_all bound out cs writes_all)

  pub rewriting_more : {out' : List ℤ} {cs' : List ℕ} → Parted (take r.read.count loc') k h vx cs cs' out out' → length m' ≡ n → length cs' ≡ length cs
      → Rewriting base ws layers ends truth vx h n out₀ out' loc₀ loc' cs₀ cs' c₀ c' m₀ m' told₀ told' d₀ d' r.next (k + r.read.count)
  rewriting_more {out'} {cs'} P rows wide =
      let W : Writes vx (length hs) (so_far ++ F.rs) out₀ cs₀ out' cs' =
      writes_more vx (ranks_few S.given) hs so_far F.rs (lines_prefix S.given r.next).rest whole ok out₀ cs₀ ready_all fits_all bound out cs writes_all out' cs' (rw (part, S.number, S.all) at P) in
      record {
        given = S.given;
        at = rw rows at F.at;
        room = omega (arith, S.room, same);
        rows = rows;
        within = F.at.place.fits;
        all = S.all;
        fits = S.fits;
        ready = S.ready;
        writes = rw (S.all, F.lines) W;
        number = omega (arith, S.number, F.count, ap length F.lines, length-append so_far F.rs);
        few = repart_sum;
        long_out = P.long ∙ S.long_out;
        long = same ∙ S.long;
        long_cs = wide ∙ S.long_cs;
        long_c = F.at.swept.long ∙ ap (◌*◌ 8) rows ∙ sym S.at.swept.long ∙ S.long_c;
        long_m = rows ∙ sym S.rows ∙ S.long_m;
        long_told = ap length F.at.told_is ∙ rows ∙ sym S.rows ∙ ap length (sym S.at.told_is) ∙ S.long_told;
        long_d = ap length F.marks_same ∙ S.long_d;
      }
    where
      same : length loc' ≡ length loc
      same = going_long F.rs loc loc' F.words F.fits

pub rewriting_done : {base : ℕ} {ws layers ends : List ℕ} {truth : List Bool} {vx : List ℕ} {h n : ℕ} {out₀ out : List ℤ} {loc₀ loc cs₀ cs c₀ c m₀ m told₀ told d₀ d : List ℕ} {g k : ℕ}
    → Rewriting base ws layers ends truth vx h n out₀ out loc₀ loc cs₀ cs c₀ c m₀ m told₀ told d₀ d g k → length ws ≤ g → out ≡ written vx (lines_to base ws layers ends truth (length vx) (length ws)) out₀
rewriting_done {base} {ws} {layers} {ends} {truth} {vx} {h} {n} {out₀} {out} {loc₀} {loc} {cs₀} {cs} {c₀} {c} {m₀} {m} {told₀} {told} {d₀} {d} {g} {k} S l =
    let e : g ≡ length ws = omega (arith, S.within) in
    writes_done vx (ranks_few S.given) (lines_to base ws layers ends truth (length vx) (length ws)) (lines_ok S.given (length ws)) out₀ cs₀ (rw S.all at S.ready) out cs (rw (S.all, e) at S.writes)
