-- The whole writing, after the horizontals are counted. Assumes nothing.
--
--   starts_ready    the counters can be summed
--   words_ready     and then the first part can be placed
--   single_ready, single_done   where all horizontals stand in the working array
--   again_ready     where they do not
--   wrote_short, wrote_fits     the answer
--   one_wrote       ANSWERS AND BUFFERS THAT MEET THE CONTRACT OF `write` ARE EQUAL
use Rattle.std.specs.Prelude.{◌≡◌, refl, Result, Ok, Err, Bool, true, false, List, [], ◌++◌, map, ℕ, ◌*◌, ◌^◌, ◌<◌, ◌≤◌, ℤ, length, take, drop}
use Rattle.std.proofs.Common.{sym, ap, ap₂, ◌∙◌, append-nil, arith, length-drop, le-leb}
use Rattle.std.proofs.lemmas.List.{length-map}
use Rattle.std.proofs.lemmas.Bool.{lt-leb}
use Rattle.meaning.specs.Records.{Record}
use Rattle.answers.specs.declared.Refusal.{Refusal}
use Rattle.answers.specs.declared.Refusal.TheVariants.{TooLittleRoom}
use Rattle.basic_laws.specs.Lists.{All}
use Rattle.horizontal.specs.Words.{on_level, level_of, word_of}
use Rattle.weights.specs.WeightLaws.{weigh_one}
use Rattle.verticals.specs.Words.{total, Running, Ready}
use Rattle.verticals.specs.Counting.{starts_ok, ready_of}
use Rattle.verticals.specs.Result.{ends_ok}
use Rattle.sweep_laws.specs.Lines.{lines_to}
use Rattle.sweep_laws.specs.Steps.{place_start}
use Rattle.writing.specs.declared.Found.{Found}
use Rattle.writing.specs.declared.Measured.{Measured}
use Rattle.parts.specs.Parted.{PartOk, Parted}
use Rattle.writing.specs.Writing.{written, fitting, Wrote, Even, WriteOk, MeasureOk, Measures, AgainOk}
use Rattle.writing.specs.Parts.{LevelOk, words_back, words_heights, ranks_few, lines_ok, lines_bound, Writes, writes_start, part_ready, writes_more, writes_done}

pub measure_ready : {base : ℕ} {ws layers ends : List ℕ} {truth : List Bool} {vx loc cs c m told d : List ℕ} → WriteOk base ws layers ends truth vx loc cs c m told d → MeasureOk base ws layers ends truth vx loc cs c m told d
measure_ready W = record { given = W.given; at = W.at; room = W.room; counters = W.counters; none = W.none }

module _ {base : ℕ} {ws layers ends : List ℕ} {truth : List Bool} {vx loc₀ cs₀ c₀ m₀ told₀ d₀ : List ℕ} (W : WriteOk base ws layers ends truth vx loc₀ cs₀ c₀ m₀ told₀ d₀) {loc cs c m told d : List ℕ} {r : Measured}
    (M : Measures base ws layers ends truth vx loc cs c m told d r) where
  abbrev hs : List (Record ℕ)
  hs = lines_to base ws layers ends truth (length vx) (length ws)

  abbrev words : List ℕ
  words = map word_of hs

  few : length vx ≤ 8192
  few = ranks_few W.given

  ok : All (LevelOk (length vx) 2147483648) hs
  ok = lines_ok W.given (length ws)

  bound : length hs ≤ 33554432
  bound = lines_bound W.given (length ws) (omega arith)

  back : map level_of words ≡ hs
  back = words_back (length vx) 2147483648 few hs ok

  long : length words ≡ length hs
  long = length-map hs word_of

  pub starts_ready : total cs ≤ 268435456
  starts_ready = starts_ok words cs M.counted (omega (arith, long, bound))

  module _ (out : List ℤ) (room : 8 * r.all ≤ length out) {cs' : List ℕ} (R : Running cs cs') where
    fits : 8 * length hs ≤ length out
    fits = omega (arith, room, M.all)

    pub words_ready : Ready words vx cs' (length (drop (4 * length hs) out))
    words_ready =
        ready_of words vx cs cs' (length (drop (4 * length hs) out))
        (ends_ok 2147483648 W.cell vx words (length (drop (4 * length hs) out)) (rw back W.levels) (omega (arith, long, length-drop (4 * length hs) out, fits)))
        (λ i _. W.given.each i) (words_heights (length vx) 2147483648 few hs ok) (omega (arith, long, bound)) M.counters M.counted R

    all_there : hs ≡ [] ++ (hs ++ [])
    all_there = sym (append-nil hs)

    none_yet : Writes vx (length hs) [] out cs' out cs'
    none_yet = writes_start vx (length hs) out cs'

    module _ (single : r.last ≡ r.all) where
      kept : take r.all loc ≡ words
      kept = ap (λ k. take k loc) (sym single) ∙ M.kept single

      pub single_ready : PartOk (take r.all loc) 0 r.all vx cs' out
      single_ready = rw (kept, M.all) (part_ready vx few hs [] hs [] all_there ok out cs' words_ready fits bound out cs' none_yet)

      pub single_done : {out' : List ℤ} {cs'' : List ℕ} → Parted (take r.all loc) 0 r.all vx cs' cs'' out out' → out' ≡ written vx hs out
      single_done {out'} {cs''} P =
          writes_done vx few hs ok out cs' words_ready out' cs''
          (writes_more vx few hs [] hs [] all_there ok out cs' words_ready fits bound out cs' none_yet out' cs'' (rw (kept, M.all) at P))

    pub again_ready : length m ≡ length m₀ → length loc ≡ length loc₀ → AgainOk base ws layers ends truth vx r.all out loc cs' c m told d
    unfolding Even
    again_ready rows same = record {
      given = rw rows W.given;
      at = record { place = place_start ws; swept = rw rows (W.even _ _ (rw rows at M.at.swept)); told_is = M.at.told_is; fresh = M.at.fresh };
      room = omega (arith, W.room, same);
      all = M.all;
      fits = room;
      ready = rw M.all words_ready;
    }

  -- ---- the answer

  pub wrote_short : (out : List ℤ) → length out < 8 * r.all → {s : Found} → s.records ≡ Err (TooLittleRoom (2 * r.all)) → s.cells ≡ r.sum → Wrote vx hs out out s
  wrote_short out h a q =
      let f : fitting hs out ≡ false = lt-leb (8 * length hs) (length out) (omega (arith, M.all)) in
      record { records = rw f (a ∙ ap (λ (n : ℕ). Err (TooLittleRoom (2 * n))) M.all); buffer = rw f refl; cells = rw q M.weighed }

  pub wrote_fits : (out out' : List ℤ) → 8 * r.all ≤ length out → out' ≡ written vx hs out → {s : Found} → s.records ≡ Ok (2 * r.all) → s.cells ≡ r.sum → Wrote vx hs out out' s
  wrote_fits out out' h e a q =
      let f : fitting hs out ≡ true = le-leb (8 * length hs) (length out) (omega (arith, M.all)) in
      record { records = rw f (a ∙ ap (λ (n : ℕ). Ok (2 * n)) M.all); buffer = rw f e; cells = rw q M.weighed }

found_of : Result ℕ Refusal → ℕ → Found
found_of a k = record { records = a; cells = k }

same_found : {r s : Found} → r.records ≡ s.records → r.cells ≡ s.cells → r ≡ s
unfolding found_of
same_found a k = ap₂ found_of a k

pub one_wrote : {vx : List ℕ} {hs : List (Record ℕ)} {out o₁ o₂ : List ℤ} {r s : Found} → r.cells < 2 ^ 64 → s.cells < 2 ^ 64 → Wrote vx hs out o₁ r → Wrote vx hs out o₂ s → (o₁ ≡ o₂) × (r ≡ s)
one_wrote {vx} {hs} {r = r} {s = s} h g p q =
    (p.buffer ∙ sym q.buffer, same_found (p.records ∙ sym q.records) (weigh_one 0 r.cells s.cells (map (on_level vx) hs) h g p.cells q.cells))
