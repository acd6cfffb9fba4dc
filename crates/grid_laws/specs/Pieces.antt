-- Cell by cell: each unit piece stands in exactly one record if one of its side cells is inside and the other is not, in the direction that keeps inside on the right; else in none.
use Rattle.std.specs.Prelude.{◌≡◌, refl, ◌≢◌, Bool, ◌&&◌, List, ℕ, suc, ◌+◌, ◌*◌, ◌≤◌, ◌<◌, eqb}
use Rattle.std.proofs.Math.Path.{sym, fun_ext}
use Rattle.std.proofs.Common.{ap, ap₂, ◌∙◌, arith, mul-zero, eq-eqb, ne_eqb}
use Rattle.std.proofs.Math.Bool.{true, false}
use Rattle.meaning.specs.Numbers.{bit}
use Rattle.meaning.specs.Cells.{Dir, off, fwd, bwd, goes}
use Rattle.meaning.specs.Records.{run, Record, rec}
use Rattle.meaning.specs.Area.{total}
use Rattle.basic_laws.specs.Tests.{spans, spans_in, spans_parts, spans_empty, and_parts}
use Rattle.grid_laws.specs.Plane.{level_n, upright_n, record_at, kind_n, result_n}
use Rattle.basic_laws.specs.Sums.{sum_of, sum_append}
use Rattle.grid_laws.specs.Sums.{total_one}
use Rattle.grid_laws.specs.AreaLaws.{Additive, sum_kind}
use Rattle.grid_laws.specs.AsLayer.{piece_off}

-- a record of this kind and place passes piece k: its ends, in one order or the other
unfoldable pub passes_n : ℕ → ℕ → ℕ → Bool → Record ℕ → Bool
passes_n kind p k true (rec kd pl f t) = (eqb kd kind && eqb pl p) && spans f t k
passes_n kind p k false (rec kd pl f t) = (eqb kd kind && eqb pl p) && spans t f k

-- how many do; `true` asks for those towards greater coordinates
unfoldable pub passing_n : ℕ → ℕ → ℕ → Bool → List (Record ℕ) → ℕ
passing_n kind p k d rs = sum_of (λ r. bit (passes_n kind p k d r)) rs

none : (t a : Bool) → a ≡ false → bit (t && a) ≡ 0
none true a e = rw e
none false a e = refl

hit : (t a : Bool) → a ≡ true → bit (t && a) ≡ bit t * 1
hit true a e = rw e
hit false a e = refl

no_part : (t : Bool) (a b c k : ℕ) → a ≤ b → b ≤ c → bit (t && spans b a k) + bit (t && spans c b k) ≡ bit (t && spans c a k)
no_part t a b c k p q = and_parts t (spans b a k) (spans c b k) (spans c a k) (rw (spans_empty b a k p, spans_empty c b k q, spans_empty c a k (omega arith)))

module _ (kd p k : ℕ) (kind pl : ℕ) where
  abbrev mark : Bool
  mark = eqb kind kd && eqb pl p

  adds : (d : Bool) → Additive (λ r. bit (passes_n kd p k d (record_at kind pl r)))
  unfolding passes_n
  adds true = record { none = λ a b. none mark (spans a a k) (spans_empty a a k (omega arith)); both = go }
    where
      go : (a b c : ℕ) (d : Dir) → a ≤ b → b ≤ c → bit (passes_n kd p k true (record_at kind pl (run a b d))) + bit (passes_n kd p k true (record_at kind pl (run b c d))) ≡ bit (passes_n kd p k true (record_at kind pl (run a c d)))
      go a b c off u v = and_parts mark (spans a a k) (spans b b k) (spans a a k) (rw (spans_empty a a k (omega arith), spans_empty b b k (omega arith)))
      go a b c fwd u v = and_parts mark (spans a b k) (spans b c k) (spans a c k) (spans_parts a b c k u v)
      go a b c bwd u v = no_part mark a b c k u v
  adds false = record { none = λ a b. none mark (spans a a k) (spans_empty a a k (omega arith)); both = go }
    where
      go : (a b c : ℕ) (d : Dir) → a ≤ b → b ≤ c → bit (passes_n kd p k false (record_at kind pl (run a b d))) + bit (passes_n kd p k false (record_at kind pl (run b c d))) ≡ bit (passes_n kd p k false (record_at kind pl (run a c d)))
      go a b c off u v = and_parts mark (spans a a k) (spans b b k) (spans a a k) (rw (spans_empty a a k (omega arith), spans_empty b b k (omega arith)))
      go a b c fwd u v = no_part mark a b c k u v
      go a b c bwd u v = and_parts mark (spans a b k) (spans b c k) (spans a c k) (spans_parts a b c k u v)

  here : (d : Bool) (e : Dir) → bit (passes_n kd p k d (record_at kind pl (run k (suc k) e))) ≡ bit mark * goes d e
  unfolding passes_n
  here true off = none mark (spans k k k) (spans_empty k k k (omega arith)) ∙ sym (mul-zero (bit mark))
  here true fwd = hit mark (spans k (suc k) k) (spans_in k (suc k) k (omega arith) (omega arith))
  here true bwd = none mark (spans (suc k) k k) (spans_empty (suc k) k k (omega arith)) ∙ sym (mul-zero (bit mark))
  here false off = none mark (spans k k k) (spans_empty k k k (omega arith)) ∙ sym (mul-zero (bit mark))
  here false fwd = none mark (spans (suc k) k k) (spans_empty (suc k) k k (omega arith)) ∙ sym (mul-zero (bit mark))
  here false bwd = hit mark (spans k (suc k) k) (spans_in k (suc k) k (omega arith) (omega arith))

  there : (d : Bool) (q : ℕ) (e : Dir) → q ≢ k → bit (passes_n kd p k d (record_at kind pl (run q (suc q) e))) ≡ 0
  unfolding passes_n
  there true q off n = none mark (spans q q k) (spans_empty q q k (omega arith))
  there true q fwd n = none mark (spans q (suc q) k) (piece_off k q n)
  there true q bwd n = none mark (spans (suc q) q k) (spans_empty (suc q) q k (omega arith))
  there false q off n = none mark (spans q q k) (spans_empty q q k (omega arith))
  there false q fwd n = none mark (spans (suc q) q k) (spans_empty (suc q) q k (omega arith))
  there false q bwd n = none mark (spans q (suc q) k) (piece_off k q n)

mark_self : (b : Bool) (p : ℕ) → (b && eqb p p) ≡ b
mark_self true p = eq-eqb p p refl
mark_self false p = refl

mark_other : (b : Bool) (q p : ℕ) → q ≢ p → (b && eqb q p) ≡ false
mark_other true q p n = ne_eqb q p n
mark_other false q p n = refl

pub kind_passing : (kd p k : ℕ) (d : Bool) (kind : ℕ) (F : ℕ → ℕ → Dir) (N : ℕ) → p ≤ N → k < N → passing_n kd p k d (kind_n kind F N) ≡ bit (eqb kind kd) * goes d (F p k)
unfolding passing_n
kind_passing kd p k d kind F N a b =
    sum_kind (λ r. bit (passes_n kd p k d r)) kind F N (λ pl. adds kd p k kind pl d)
    ∙ ap (λ (h : ℕ → ℕ). total h 0 (suc N)) (fun_ext (λ pl.
    total_one (λ q. bit (passes_n kd p k d (record_at kind pl (run q (suc q) (F pl q))))) 0 N k (omega arith) (omega arith) (λ q _ _ n. there kd p k kind pl d q (F pl q) n)
    ∙ here kd p k kind pl d (F pl k)))
    ∙ total_one (λ pl. bit (eqb kind kd && eqb pl p) * goes d (F pl k)) 0 (suc N) p (omega arith) (omega arith)
    (λ q _ _ n. ap (λ (z : Bool). bit z * goes d (F q k)) (mark_other (eqb kind kd) q p n) ∙ omega arith)
    ∙ ap (λ (z : Bool). bit z * goes d (F p k)) (mark_self (eqb kind kd) p)

-- of the whole result
pub level_passing : (N : ℕ) (g : ℕ → ℕ → Bool) (y i : ℕ) (d : Bool) → y ≤ N → i < N → passing_n 0 y i d (result_n N g) ≡ goes d (level_n g y i)
unfolding passing_n result_n
level_passing N g y i d a b =
    sum_append (λ r. bit (passes_n 0 y i d r)) (kind_n 0 (level_n g) N) (kind_n 1 (upright_n g) N)
    ∙ ap₂ ◌+◌ (kind_passing 0 y i d 0 (level_n g) N a b) (kind_passing 0 y i d 1 (upright_n g) N a b)
    ∙ omega arith

pub upright_passing : (N : ℕ) (g : ℕ → ℕ → Bool) (x j : ℕ) (d : Bool) → x ≤ N → j < N → passing_n 1 x j d (result_n N g) ≡ goes d (upright_n g x j)
unfolding passing_n result_n
upright_passing N g x j d a b =
    sum_append (λ r. bit (passes_n 1 x j d r)) (kind_n 0 (level_n g) N) (kind_n 1 (upright_n g) N)
    ∙ ap₂ ◌+◌ (kind_passing 1 x j d 0 (level_n g) N a b) (kind_passing 1 x j d 1 (upright_n g) N a b)
    ∙ omega arith
