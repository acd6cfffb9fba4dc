-- A sweep with the table 0, 1, 2, .. in place of the list of x makes the horizontals by ranks. Assumes nothing.
--
--   table_ranks     THE LAW: its records, with x for ranks, are the records over the list of x
--   table_low       and their ends are ranks
--   table_horizontals   so for a closed list of edges they are the horizontals that the writer wants
use Rattle.std.specs.Prelude.{◌≡◌, Bool, true, false, ◌&&◌, ℕ, zero, suc, ◌+◌, ◌≤◌, ◌<◌, eqb, length, get_or}
use Rattle.std.proofs.Math.Path.{refl, ap, ap₂}
use Rattle.std.proofs.Common.{sym, ◌∙◌, arith}
use mathlib.Core.List.{List, [], ◌∷◌, ◌++◌, map}
use Rattle.meaning.specs.Cells.{Dir, off, fwd, bwd}
use Rattle.meaning.specs.Records.{Run, run, same_dir, join_if, join, put, rec}
use Rattle.basic_laws.specs.Tests.{eqb_same}
use Rattle.basic_laws.specs.Lists.{All, all_append, map_append}
use Rattle.meaning.specs.Edges.{Edge}
use Rattle.grid_laws.specs.Plane.{ClosedN, inside_n, xs_of, ys_of, level_n, record_at, line_at, line_over, each_of, kind_at}
use Rattle.grid_laws.specs.Places.{has, Rising}
use Rattle.grid_laws.specs.Compression.{col_late, row_late, level_jumps, level_none, kind_at_is}
use Rattle.vertical_laws.specs.Whole.{Horizontals}
use Rattle.horizontal.specs.Words.{up_from, on_level, Ranks}
use Rattle.vertical_laws.specs.Ranked.{rising_one}

abbrev InRun : ℕ → Run → Type 0
InRun n (run l h d) = (l < n) × (h < n)

join_in : (n a b : ℕ) (d : Dir) (rs : List Run) → a < n → b < n → All (InRun n) rs → All (InRun n) (join a b d rs)
join_in n a b d [] p q r = ((p, q), tt)
join_in n a b d (run l h e ∷ rs) p q r = go (eqb l b && same_dir e d)
  where
    go : (t : Bool) → All (InRun n) (join_if t a b d l h e rs)
    go true = ((p, r.0.1), r.1)
    go false = ((p, q), r)

put_in : (n a b : ℕ) (d : Dir) (rs : List Run) → a < n → b < n → All (InRun n) rs → All (InRun n) (put a b d rs)
put_in n a b off rs p q r = r
put_in n a b fwd rs p q r = join_in n a b fwd rs p q r
put_in n a b bwd rs p q r = join_in n a b bwd rs p q r

line_in : (f : ℕ → Dir) (n a : ℕ) (bs : List ℕ) → a < n → All (λ b. b < n) bs → All (InRun n) (line_at f a bs)
unfolding line_at
line_in f n a [] p q = tt
line_in f n a (b ∷ bs) p q = put_in n a b (f a) (line_at f b bs) p q.0 (line_in f n b bs q.0 q.1)

up_in : (n a m : ℕ) → a + m ≤ n → All (λ b. b < n) (up_from a m)
unfolding up_from
up_in n a zero h = tt
up_in n a (suc m) h = (omega arith, up_in n (suc a) m (omega arith))

module _ (vx : List ℕ) (s : Rising 0 vx) where
  abbrev on_run : Run → Run
  on_run (run l h d) = run (get_or vx l 0) (get_or vx h 0) d

  join_on : (a b : ℕ) (d : Dir) (rs : List Run) → b < length vx → All (InRun (length vx)) rs → map on_run (join a b d rs) ≡ join (get_or vx a 0) (get_or vx b 0) d (map on_run rs)
  join_on a b d [] q r = refl
  join_on a b d (run l h e ∷ rs) q r =
      go (eqb l b && same_dir e d)
      ∙ ap (λ t. join_if (t && same_dir e d) (get_or vx a 0) (get_or vx b 0) d (get_or vx l 0) (get_or vx h 0) e (map on_run rs))
      (sym (eqb_same (get_or vx l 0) (get_or vx b 0) l b (λ w. rising_one vx l b s r.0.0 q w) (λ w. ap (λ k. get_or vx k 0) w)))
    where
      go : (t : Bool) → map on_run (join_if t a b d l h e rs) ≡ join_if t (get_or vx a 0) (get_or vx b 0) d (get_or vx l 0) (get_or vx h 0) e (map on_run rs)
      go true = refl
      go false = refl

  put_on : (a b : ℕ) (d : Dir) (rs : List Run) → b < length vx → All (InRun (length vx)) rs → map on_run (put a b d rs) ≡ put (get_or vx a 0) (get_or vx b 0) d (map on_run rs)
  put_on a b off rs q r = refl
  put_on a b fwd rs q r = join_on a b fwd rs q r
  put_on a b bwd rs q r = join_on a b bwd rs q r

  line_on : (f : ℕ → Dir) (a : ℕ) (bs : List ℕ) → a < length vx → All (λ b. b < length vx) bs
      → map on_run (line_at (λ r. f (get_or vx r 0)) a bs) ≡ line_at f (get_or vx a 0) (map (λ r. get_or vx r 0) bs)
  unfolding line_at
  line_on f a [] p q = refl
  line_on f a (b ∷ bs) p q =
      put_on a b (f (get_or vx a 0)) (line_at (λ r. f (get_or vx r 0)) b bs) q.0 (line_in (λ r. f (get_or vx r 0)) (length vx) b bs q.0 q.1)
      ∙ ap (put (get_or vx a 0) (get_or vx b 0) (f (get_or vx a 0))) (line_on f b bs q.0 q.1)

  over_on : (f : ℕ → Dir) (bs : List ℕ) → All (λ b. b < length vx) bs → map on_run (line_over (λ r. f (get_or vx r 0)) bs) ≡ line_over f (map (λ r. get_or vx r 0) bs)
  unfolding line_over
  over_on f [] q = refl
  over_on f (b ∷ bs) q = line_on f b bs q.0 q.1

  records_on : (y : ℕ) (rs : List Run) → map (on_level vx) (map (record_at 0 y) rs) ≡ map (record_at 0 y) (map on_run rs)
  records_on y [] = refl
  records_on y (run l h off ∷ rs) = ap (◌∷◌ (rec 0 y (get_or vx l 0) (get_or vx l 0))) (records_on y rs)
  records_on y (run l h fwd ∷ rs) = ap (◌∷◌ (rec 0 y (get_or vx l 0) (get_or vx h 0))) (records_on y rs)
  records_on y (run l h bwd ∷ rs) = ap (◌∷◌ (rec 0 y (get_or vx h 0) (get_or vx l 0))) (records_on y rs)

  kind_on : (F : ℕ → ℕ → Dir) (ys bs : List ℕ) → All (λ b. b < length vx) bs → map (on_level vx) (kind_at 0 (λ y r. F y (get_or vx r 0)) ys bs) ≡ kind_at 0 F ys (map (λ r. get_or vx r 0) bs)
  unfolding kind_at each_of
  kind_on F [] bs q = refl
  kind_on F (y ∷ ys) bs q =
      map_append (on_level vx) (map (record_at 0 y) (line_over (λ r. F y (get_or vx r 0)) bs)) (kind_at 0 (λ y r. F y (get_or vx r 0)) ys bs)
      ∙ ap₂ (λ rs ss. rs ++ ss) (records_on y (line_over (λ r. F y (get_or vx r 0)) bs) ∙ ap (map (record_at 0 y)) (over_on (F y) bs q)) (kind_on F ys bs q)

up_shift : (v : ℕ) (vx : List ℕ) (a n : ℕ) → map (λ r. get_or (v ∷ vx) r 0) (up_from (suc a) n) ≡ map (λ r. get_or vx r 0) (up_from a n)
unfolding up_from
up_shift v vx a zero = refl
up_shift v vx a (suc n) = ap (◌∷◌ (get_or vx a 0)) (up_shift v vx (suc a) n)

up_all : (vx : List ℕ) → map (λ r. get_or vx r 0) (up_from 0 (length vx)) ≡ vx
unfolding up_from
up_all [] = refl
up_all (v ∷ vx) = ap (◌∷◌ v) (up_shift v vx 0 (length vx) ∙ up_all vx)

pub table_ranks : (vx : List ℕ) → Rising 0 vx → (F : ℕ → ℕ → Dir) (ys : List ℕ) → map (on_level vx) (kind_at 0 (λ y r. F y (get_or vx r 0)) ys (up_from 0 (length vx))) ≡ kind_at 0 F ys vx
table_ranks vx s F ys = kind_on vx s F ys (up_from 0 (length vx)) (up_in (length vx) 0 (length vx) (omega arith)) ∙ ap (kind_at 0 F ys) (up_all vx)

records_low : (n y : ℕ) (rs : List Run) → All (InRun n) rs → All (Ranks n) (map (record_at 0 y) rs)
records_low n y [] a = tt
records_low n y (run l h off ∷ rs) a = ((a.0.0, a.0.0), records_low n y rs a.1)
records_low n y (run l h fwd ∷ rs) a = ((a.0.0, a.0.1), records_low n y rs a.1)
records_low n y (run l h bwd ∷ rs) a = ((a.0.1, a.0.0), records_low n y rs a.1)

over_in : (f : ℕ → Dir) (n : ℕ) (bs : List ℕ) → All (λ b. b < n) bs → All (InRun n) (line_over f bs)
unfolding line_over
over_in f n [] q = tt
over_in f n (b ∷ bs) q = line_in f n b bs q.0 q.1

pub table_low : (n : ℕ) (F : ℕ → ℕ → Dir) (ys : List ℕ) → All (Ranks n) (kind_at 0 F ys (up_from 0 n))
unfolding kind_at each_of
table_low n F [] = tt
table_low n F (y ∷ ys) =
    all_append (Ranks n) (map (record_at 0 y) (line_over (F y) (up_from 0 n))) (kind_at 0 F ys (up_from 0 n))
    (records_low n y (line_over (F y) (up_from 0 n)) (over_in (F y) n (up_from 0 n) (up_in n 0 n (omega arith)))) (table_low n F ys)

-- FOR A CLOSED LIST OF EDGES: the horizontals by ranks of the sweep's table are the horizontals that the writer wants
pub table_horizontals : (holds : (ℕ → Bool) → Bool) → holds (λ c. false) ≡ false → (es : List (Edge ℕ)) → ClosedN es → (N : ℕ)
    → ((y : ℕ) → N < y → has y (xs_of es) ≡ false) → ((y : ℕ) → N < y → has y (ys_of es) ≡ false) → (xs ys : List ℕ)
    → Rising zero xs → Rising zero ys → ((y : ℕ) → has y (xs_of es) ≡ has y xs) → ((y : ℕ) → has y (ys_of es) ≡ has y ys)
    → Horizontals N (inside_n holds es) xs (kind_at 0 (λ y r. level_n (inside_n holds es) y (get_or xs r 0)) ys (up_from 0 (length xs)))
table_horizontals holds empty es closed N bx by xs ys rx ry hx hy =
    record {
      bounded = record {
        right = λ i j h. col_late holds empty es i j (λ y u. bx y (omega arith));
        top = λ i j h. row_late holds empty es closed i j (λ y u. by y (omega arith));
      };
      rising = rx;
      last = λ k u. sym (hx k) ∙ bx k u;
      ranks = table_low (length xs) (λ y r. level_n (inside_n holds es) y (get_or xs r 0)) ys;
      are = table_ranks xs rx (level_n (inside_n holds es)) ys
          ∙ sym (kind_at_is 0 (level_n (inside_n holds es)) N (ys_of es) (xs_of es) ys xs (level_jumps holds empty es closed) (level_none holds empty es closed) by bx ry rx hy hx);
    }
