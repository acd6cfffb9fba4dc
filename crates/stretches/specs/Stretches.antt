-- The strips of one line, stretch by stretch: from their covers at the last line (told) to those now (covers). A table truth says which covers are inside.
--
--   StripsIn told covers r hi     the strips from r on, below hi, can be looked at
--   RowsIn told covers truth r hi and the table can
--   Alike told covers r s         no strip from r on, below s, has another cover
--   Quiet told covers truth r s   no strip from r on, below s, comes inside or goes out
--   Told covers a b told₀ told    the strips from a on, below b, have their covers told; all others are as they were
--   NoStretch told₀ told covers truth r hi   no strip from r on, below hi, comes inside or goes out, and all are told
--   Skipped, Filled               the first strip that comes inside or goes out, or none; the strips that change alike
--   StretchIs told₀ told covers truth r hi t   t is the next stretch, and the covers up to its end are told
--   NextIs told₀ told covers truth r hi o   o is the next stretch, or there is none
use Rattle.std.specs.Prelude.{◌≡◌, Bool, not, List, ℕ, ◌<◌, ◌≤◌, length, get_or, Option, MatchOption}
use Rattle.strips.specs.Cover.{look, Passed}
use Rattle.stretches.specs.declared.Stretch.{Stretch}

pub record StripsIn (told covers : List ℕ) (r hi : ℕ) : Type 0 where
  pub long_told : hi ≤ length told
  pub long_covers : hi ≤ length covers
  pub order : r ≤ hi
  pub top : hi ≤ 8192

pub record RowsIn (told covers : List ℕ) (truth : List Bool) (r hi : ℕ) : Type 0 where
  pub strips : StripsIn told covers r hi
  pub table : length truth ≡ 256

abbrev pub Alike : List ℕ → List ℕ → ℕ → ℕ → Type 0
Alike told covers r s = (q : ℕ) → r ≤ q → q < s → get_or told q 0 ≡ get_or covers q 0

abbrev pub Quiet : List ℕ → List ℕ → List Bool → ℕ → ℕ → Type 0
Quiet told covers truth r s = (q : ℕ) → r ≤ q → q < s → look truth told q ≡ look truth covers q

abbrev pub Told : List ℕ → ℕ → ℕ → List ℕ → List ℕ → Type 0
Told covers a b told₀ told = Passed 0 (λ q. get_or covers q 0) a b told₀ told

pub record NoStretch (told₀ told covers : List ℕ) (truth : List Bool) (r hi : ℕ) : Type 0 where
  pub order : r ≤ hi
  pub quiet : Quiet told₀ covers truth r hi
  pub leaves : Told covers r hi told₀ told

-- s is the first that comes inside or goes out
pub record SkippedTo (told₀ told covers : List ℕ) (truth : List Bool) (r hi s : ℕ) : Type 0 where
  pub from : r ≤ s
  pub to : s < hi
  pub quiet : Quiet told₀ covers truth r s
  pub stop : look truth told₀ s ≡ look truth covers s → ⊥
  pub leaves : Told covers r s told₀ told

abbrev pub Skipped : List ℕ → List ℕ → List ℕ → List Bool → ℕ → ℕ → Option ℕ → Type 0
Skipped told₀ told covers truth r hi o = MatchOption o (NoStretch told₀ told covers truth r hi) (SkippedTo told₀ told covers truth r hi)

-- the strips from s on, below e, became b; e does not
pub record Filled (told₀ told covers : List ℕ) (truth : List Bool) (s hi : ℕ) (b : Bool) (e : ℕ) : Type 0 where
  pub from : s ≤ e
  pub to : e ≤ hi
  pub was : (q : ℕ) → s ≤ q → q < e → look truth told₀ q ≡ not b
  pub is : (q : ℕ) → s ≤ q → q < e → look truth covers q ≡ b
  pub stop : e < hi → look truth told₀ e ≡ not b → look truth covers e ≡ b → ⊥
  pub leaves : Told covers s e told₀ told

pub record StretchIs (told₀ told covers : List ℕ) (truth : List Bool) (r hi : ℕ) (t : Stretch) : Type 0 where
  pub from : r ≤ t.from
  pub some : t.from < t.to
  pub to : t.to ≤ hi
  pub quiet : Quiet told₀ covers truth r t.from
  pub was : (q : ℕ) → t.from ≤ q → q < t.to → look truth told₀ q ≡ not t.inside
  pub is : (q : ℕ) → t.from ≤ q → q < t.to → look truth covers q ≡ t.inside
  pub stop : t.to < hi → look truth told₀ t.to ≡ not t.inside → look truth covers t.to ≡ t.inside → ⊥
  pub leaves : Told covers r t.to told₀ told

abbrev pub NextIs : List ℕ → List ℕ → List ℕ → List Bool → ℕ → ℕ → Option Stretch → Type 0
NextIs told₀ told covers truth r hi o = MatchOption o (NoStretch told₀ told covers truth r hi) (StretchIs told₀ told covers truth r hi)
