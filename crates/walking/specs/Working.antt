-- What a walk is asked of the list and of the working arrays.
--
--   Zeros n l         a list of n zeros
--   Fresh             the rows of n strips, their marks and covers, and n counters, all as they were made; and room for as many words
--   WorkOk            refusals 1 to 4 do not apply, columns as long as the list has edges and ends, and fresh arrays
--   SweepOk, Sweeps   before and after the sweep, whatever order the edges of one y come in
--   AsLong            each array, after, is as long as it was before: what is left of them comes in nested pairs, in the order of `Arrays`
use Rattle.std.proofs.Common.{MutBor}
use Rattle.std.specs.Prelude.{⊤, ◌≡◌, Bool, List, ℕ, ◌+◌, ◌/◌, ◌<◌, ◌≤◌, ℤ, length, get_or}
use Rattle.meaning.specs.Numbers.{limit}
use Rattle.meaning.specs.Answers.{accepted, First}
use Rattle.laws.specs.Accepting.{Passed}
use Rattle.edges.specs.Answering.{list_rows}
use Rattle.axis.specs.Axes.{InOrder}
use Rattle.marks.specs.Marks.{FreshMarks}
use Rattle.sweep_laws.specs.Lines.{lines_to}
use Rattle.writing.specs.declared.Found.{Found}
use Rattle.walking.specs.declared.Arrays.{Arrays}
use Rattle.writing.specs.Writing.{WriteOk, Wrote}

pub record Zeros (n : ℕ) (l : List ℕ) : Type 0 where
  pub long : length l ≡ n
  pub none : (p : ℕ) → p < n → get_or l p 0 ≡ 0

pub record Fresh (n : ℕ) (c covers told marks cs loc : List ℕ) : Type 0 where
  pub counts : FreshMarks n c
  pub covers_none : Zeros n covers
  pub told_none : Zeros n told
  pub marks_none : FreshMarks n marks
  pub counters : Zeros n cs
  pub words : n ≤ length loc

pub record WorkOk (ns : List ℤ) (n : ℕ) (layers ys xs ends vx ws room c covers told marks cs loc : List ℕ) : Type 0 where
  pub judged : First (list_rows 7 limit ns) Passed (accepted 0)
  pub as_layers : length layers ≡ length ns / 4
  pub as_ys : length ys ≡ length ns / 4
  pub as_xs : length xs ≡ length ns / 4 + length ns / 4
  pub as_ends : length ends ≡ length ns / 4 + length ns / 4
  pub as_values : length vx ≡ length ns / 4 + length ns / 4
  pub as_words : length ws ≡ length ns / 4 + length ns / 4
  pub as_room : length room ≡ length ns / 4 + length ns / 4
  pub strips : length ns / 4 + length ns / 4 ≤ n
  pub rows_few : n ≤ 8192
  pub fresh : Fresh n c covers told marks cs loc

pub record SweepOk (ys layers ends : List ℕ) (truth : List Bool) (vx ws₀ room loc cs c m told d : List ℕ) : Type 0 where
  pub few : length ys ≤ 8192
  pub as_words : length ws₀ ≡ length ys
  pub as_room : length room ≡ length ys
  pub ready : (base : ℕ) (ws : List ℕ) → InOrder base ys ws → WriteOk base ws layers ends truth vx loc cs c m told d

pub record Sweeps (ys layers ends : List ℕ) (truth : List Bool) (vx : List ℕ) (out out' : List ℤ) (r : Found) : Type 0 where
  pub base : ℕ
  pub ws : List ℕ
  pub order : InOrder base ys ws
  pub wrote : Wrote vx (lines_to base ws layers ends truth (length vx) (length ws)) out out' r

-- ---- what is left in the arrays

abbrev Slot : Type 0
Slot = MutBor (List ℕ)

abbrev pub AsLong : Arrays → Slot × (Slot × (Slot × (Slot × (Slot × (Slot × (Slot × (Slot × (Slot × (Slot × (Slot × (Slot × (Slot × ⊤)))))))))))) → Type 0
AsLong a (layers, (ys, (xs, (ends, (vx, (ws, (room, (c, (covers, (told, (marks, (cs, (loc, _))))))))))))) =
    (length layers.now ≡ length a.layers.now)
    × (length ys.now ≡ length a.ys.now)
    × (length xs.now ≡ length a.xs.now)
    × (length ends.now ≡ length a.ends.now)
    × (length vx.now ≡ length a.vx.now)
    × (length ws.now ≡ length a.ws.now)
    × (length room.now ≡ length a.room.now)
    × (length c.now ≡ length a.c.now)
    × (length covers.now ≡ length a.covers.now)
    × (length told.now ≡ length a.told.now)
    × (length marks.now ≡ length a.marks.now)
    × (length cs.now ≡ length a.cs.now)
    × (length loc.now ≡ length a.loc.now)
