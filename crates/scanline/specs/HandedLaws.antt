-- What a fresh scanline hands on past its first crossing. Assumes nothing.
--
--   fresh_at       every count of a fresh scanline is zero
--   handed_on      past its first crossing the count of the edge's layer is changed by one, and the others are at zero
use Rattle.std.specs.Prelude.{ℕ, zero, suc, ◌<◌, ◌≡◌, refl, Bool, get_or, replicate}
use Rattle.std.proofs.Common.{ap, ◌∙◌, arith, get_or-set_same}
use Rattle.scanline.specs.Handed.{changed, fresh_line, past}

pub fresh_at : (l : ℕ) → l < 8 → ◌≡◌ {A = ℕ} (get_or (replicate 8 8192) l 0) 8192
fresh_at zero h = refl
fresh_at (suc zero) h = refl
fresh_at (suc (suc zero)) h = refl
fresh_at (suc (suc (suc zero))) h = refl
fresh_at (suc (suc (suc (suc zero)))) h = refl
fresh_at (suc (suc (suc (suc (suc zero))))) h = refl
fresh_at (suc (suc (suc (suc (suc (suc zero)))))) h = refl
fresh_at (suc (suc (suc (suc (suc (suc (suc zero))))))) h = refl
fresh_at (suc (suc (suc (suc (suc (suc (suc (suc l)))))))) h = absurd (omega arith)

pub handed_on : (l : ℕ) (w : Bool) → l < 8 → get_or (past fresh_line l w).counts.raised l 0 ≡ changed 8192 w
handed_on l w h = get_or-set_same (replicate 8 8192) l _ 0 h ∙ ap (λ (k : ℕ). changed k w) (fresh_at l h)
