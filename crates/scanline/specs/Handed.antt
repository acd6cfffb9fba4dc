-- "A fresh scanline has no crossing and every count at zero. Each crossing passed hands on the eight counts with one of them changed by one."
--
--   fresh_counts, fresh_line   every count at zero, which stands as 8,192; no crossing
--   changed k west           a count past an edge that goes west, or else east
--   crossed_by c l west       the counts c past an edge of layer l that goes west, or else east
--   past s l west            the scanline s past that edge
use Rattle.std.specs.Prelude.{ℕ, ◌+◌, ◌-◌, Bool, true, false, get_or, set, replicate}
use Rattle.scanline.specs.declared.Counts.{Counts}
use Rattle.scanline.specs.declared.Scanline.{Scanline}

abbrev pub changed : ℕ → Bool → ℕ
changed k true = k + 1
changed k false = k - 1

abbrev pub crossed_by : Counts → ℕ → Bool → Counts
crossed_by c l w = record { raised = set c.raised l (changed (get_or c.raised l 0) w) }

abbrev pub fresh_counts : Counts
fresh_counts = record { raised = replicate 8 8192 }

abbrev pub fresh_line : Scanline
fresh_line = record { passed = 0; counts = fresh_counts }

abbrev pub past : Scanline → ℕ → Bool → Scanline
past s l w = record { passed = s.passed + 1; counts = crossed_by s.counts l w }
