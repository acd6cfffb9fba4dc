-- The result of a sweep in the lent buffer, part by part. hs are all its horizontals, by ranks in vx.
--
--   written vx hs out           the buffer: the records' numbers, horizontals first, and the rest as it was
--   fitting hs out              "record room under four numbers a record" is not so: there are as many verticals as horizontals
--   Wrote vx hs out out' r      the answer and the buffer for these horizontals, how many records there are, and the sum of their weights
--   Even n ws layers ends       after all edges the rows are as before the first: the list is closed
--   WriteOk                     what the writing is asked: a sweep at its start, counters at zero, and the horizontals of some set of cells
--   MeasureOk, Measures         before and after the horizontals are counted
--   AgainOk                     what writing all parts is asked
use Rattle.std.specs.Prelude.{◌≡◌, Ok, Err, Bool, List, ◌++◌, map, ℕ, ◌*◌, ◌<◌, ◌≤◌, leb, ℤ, length, get_or, take, drop}
use Rattle.meaning.specs.Numbers.{pick}
use Rattle.meaning.specs.Records.{Record}
use Rattle.answers.specs.declared.Refusal.TheVariants.{TooLittleRoom}
use Rattle.bucket_laws.specs.Buckets.{Counted}
use Rattle.records.specs.Put.{numbers}
use Rattle.crossings.specs.Swept.{Swept, edges_to}
use Rattle.horizontal.specs.Words.{on_level, word_of}
use Rattle.weights.specs.Weights.{Weighed}
use Rattle.vertical_laws.specs.Tips.{verticals_n}
use Rattle.vertical_laws.specs.Ranked.{on_upright}
use Rattle.vertical_laws.specs.Whole.{Horizontals}
use Rattle.verticals.specs.Words.{digits_in, Ready}
use Rattle.sweep_laws.specs.Lines.{lines_to}
use Rattle.sweep.specs.Filling.{Given, At}
use Rattle.writing.specs.declared.Found.{Found}
use Rattle.writing.specs.declared.Measured.{Measured}

unfoldable pub written : List ℕ → List (Record ℕ) → List ℤ → List ℤ
written vx hs out = numbers (map (on_level vx) hs ++ map (on_upright vx) (verticals_n (length vx) hs)) ++ drop (8 * length hs) out

abbrev pub fitting : List (Record ℕ) → List ℤ → Bool
fitting hs out = leb (8 * length hs) (length out)

pub record Wrote (vx : List ℕ) (hs : List (Record ℕ)) (out out' : List ℤ) (r : Found) : Type 0 where
  pub records : r.records ≡ pick (fitting hs out) (Ok (2 * length hs)) (Err (TooLittleRoom (2 * length hs)))
  pub buffer : out' ≡ pick (fitting hs out) (written vx hs out) out
  pub cells : Weighed 0 (map (on_level vx) hs) r.cells

unfoldable pub Even : ℕ → List ℕ → List ℕ → List ℕ → Type 0
Even n ws layers ends = (c m : List ℕ) → Swept n (edges_to ws layers ends (length ws)) c m → Swept n (edges_to ws layers ends 0) c m

pub record WriteOk (base : ℕ) (ws layers ends : List ℕ) (truth : List Bool) (vx loc cs c m told d : List ℕ) : Type 0 where
  pub given : Given base ws layers ends truth vx (length m)
  pub at : At (length m) ws layers ends 0 c m told d
  pub room : length vx ≤ length loc
  pub counters : length cs ≡ length vx
  pub none : (i : ℕ) → i < length cs → get_or cs i 0 ≡ 0
  pub even : Even (length m) ws layers ends
  -- a set of cells whose horizontals these are
  pub cell : ℕ → ℕ → Bool
  pub levels : Horizontals 2147483648 cell vx (lines_to base ws layers ends truth (length vx) (length ws))

pub record MeasureOk (base : ℕ) (ws layers ends : List ℕ) (truth : List Bool) (vx loc cs c m told d : List ℕ) : Type 0 where
  pub given : Given base ws layers ends truth vx (length m)
  pub at : At (length m) ws layers ends 0 c m told d
  pub room : length vx ≤ length loc
  pub counters : length cs ≡ length vx
  pub none : (i : ℕ) → i < length cs → get_or cs i 0 ≡ 0

pub record Measures (base : ℕ) (ws layers ends : List ℕ) (truth : List Bool) (vx loc cs c m told d : List ℕ) (r : Measured) : Type 0 where
  pub all : r.all ≡ length (lines_to base ws layers ends truth (length vx) (length ws))
  pub few : r.all ≤ 33554432
  pub counted : Counted (digits_in (map word_of (lines_to base ws layers ends truth (length vx) (length ws)))) cs
  pub counters : length cs ≡ length vx
  pub weighed : Weighed 0 (map (on_level vx) (lines_to base ws layers ends truth (length vx) (length ws))) r.sum
  pub at : At (length m) ws layers ends (length ws) c m told d
  pub last : r.last ≤ length loc
  -- where the last part is all, it is all there is
  pub kept : r.last ≡ r.all → take r.last loc ≡ map word_of (lines_to base ws layers ends truth (length vx) (length ws))

pub record AgainOk (base : ℕ) (ws layers ends : List ℕ) (truth : List Bool) (vx : List ℕ) (h : ℕ) (out : List ℤ) (loc cs c m told d : List ℕ) : Type 0 where
  pub given : Given base ws layers ends truth vx (length m)
  pub at : At (length m) ws layers ends 0 c m told d
  pub room : length vx ≤ length loc
  pub all : h ≡ length (lines_to base ws layers ends truth (length vx) (length ws))
  pub fits : 8 * h ≤ length out
  pub ready : Ready (map word_of (lines_to base ws layers ends truth (length vx) (length ws))) vx cs (length (drop (4 * h) out))
