-- What is done with each edge of one place. Assumes nothing.
--
--   StepLaws Starts Asks Does Holds   what holds before the first edge meets what each edge asks for, and each edge keeps it
use Rattle.std.specs.Prelude.{◌≡◌, List, ℕ, ◌+◌, ◌<◌, length, get_or}
use Rattle.crossings.specs.declared.Reach.{Reach}
use Rattle.crossings.specs.Swept.{height_of, least_of, most_of}

pub record StepLaws {S : Type 0} (Starts : ℕ → List ℕ → List ℕ → List ℕ → ℕ → S → Type 0) (Asks : ℕ → ℕ → List ℕ → List ℕ → S → Type 0) (Does : ℕ → ℕ → List ℕ → List ℕ → S → S → Reach → Type 0) (Holds : ℕ → List ℕ → List ℕ → List ℕ → ℕ → S → ℕ → ℕ → ℕ → S → Type 0) : Type 0 where
  pub some : (n : ℕ) (ws layers ends : List ℕ) (g : ℕ) (s₀ : S) → Starts n ws layers ends g s₀ → g < length ws
  pub start : (n : ℕ) (ws layers ends : List ℕ) (g : ℕ) (s₀ : S) → Starts n ws layers ends g s₀ → Holds n ws layers ends g s₀ g n 0 s₀
  pub asks : (n : ℕ) (ws layers ends : List ℕ) (g : ℕ) (s₀ : S) → Starts n ws layers ends g s₀ → (e lo hi : ℕ) (s : S) → Holds n ws layers ends g s₀ e lo hi s → e < length ws → Asks n (get_or ws e 0) layers ends s
  pub turn : (n : ℕ) (ws layers ends : List ℕ) (g : ℕ) (s₀ : S) → Starts n ws layers ends g s₀ → (e lo hi : ℕ) (s : S) → Holds n ws layers ends g s₀ e lo hi s → e < length ws
      → (s' : S) (r : Reach) → Does n (get_or ws e 0) layers ends s s' r → height_of (get_or ws e 0) ≡ height_of (get_or ws g 0)
      → (lo' hi' : ℕ) → lo' ≡ least_of lo r.lo → hi' ≡ most_of hi r.hi → Holds n ws layers ends g s₀ (e + 1) lo' hi' s'
