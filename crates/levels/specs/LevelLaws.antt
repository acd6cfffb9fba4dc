-- Laws of a line's records. Assumes nothing.
--
--   read_one       two readings of one line are equal, and so is what they leave
use Rattle.std.specs.Prelude.{◌≡◌, refl, List, [], ◌∷◌, map, ℕ, ◌^◌, ◌<◌, ◌≤◌}
use Rattle.std.proofs.Common.{sym, ap₂, ◌∙◌, arith}
use Rattle.meaning.specs.Cells.{off, fwd, bwd}
use Rattle.meaning.specs.Records.{Record, Run, run}
use Rattle.basic_laws.specs.Lists.{All}
use Rattle.grid_laws.specs.Plane.{record_at}
use Rattle.horizontal.specs.Words.{on_level, Ranks, level_of, word_of, level_packed}
use Rattle.weights.specs.WeightLaws.{weigh_one}
use Rattle.levels.specs.declared.Reading.{Reading}
use Rattle.levels.specs.Line.{LineRead}

words_back : (y n : ℕ) → n ≤ 8192 → (rs : List Run) → All (Ranks n) (map (record_at 0 y) rs) → map level_of (map word_of (map (record_at 0 y) rs)) ≡ map (record_at 0 y) rs
unfolding word_of
words_back y n h [] a = refl
words_back y n h (run l g off ∷ rs) a = ap₂ ◌∷◌ (level_packed y l l (omega (arith, a.0.0)) (omega (arith, a.0.0))) (words_back y n h rs a.1)
words_back y n h (run l g fwd ∷ rs) a = ap₂ ◌∷◌ (level_packed y l g (omega (arith, a.0.0)) (omega (arith, a.0.1))) (words_back y n h rs a.1)
words_back y n h (run l g bwd ∷ rs) a = ap₂ ◌∷◌ (level_packed y g l (omega (arith, a.0.0)) (omega (arith, a.0.1))) (words_back y n h rs a.1)

-- ---- `read`

abbrev read_by : ℕ → ℕ → Reading
read_by n s = record { count = n; sum = s }

pub read_one : {loc₀ : List ℕ} {k sum : ℕ} {vx covers : List ℕ} {rs : List (Record ℕ)} {loc told loc' told' : List ℕ} {r r' : Reading} → r.sum < 2 ^ 64 → r'.sum < 2 ^ 64 →
    LineRead loc₀ k sum vx covers rs loc told r → LineRead loc₀ k sum vx covers rs loc' told' r' → (r ≡ r') × (loc ≡ loc') × (told ≡ told')
read_one {loc₀} {k} {sum} {vx} {covers} {rs} {loc} {told} {loc'} {told'} {r} {r'} h g L L' =
    (ap₂ read_by (L.number ∙ sym L'.number) (weigh_one sum r.sum r'.sum (map (on_level vx) rs) h g L.weighs L'.weighs), L.written ∙ sym L'.written, L.all_told ∙ sym L'.all_told)
