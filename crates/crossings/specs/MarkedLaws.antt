-- What the edges of one place, marked one by one, keep, and what the marks summed up are. Assumes nothing.
--
--   from_more, from_none, from_split, from_few, from_long   the edges from edge g on
--   Marking, marking_start, marking_asks, marking_turn, marking_done   the loop: the edges from g on, below e, are marked
--   between                 they have their ends from lo on, up to hi
--   marked_ready, marked_done   `marked`: the marks can be summed up, and then the rows have all edges of the place
use mathlib.Core.Path.{◌≡◌, refl, ap, ◌∙◌}
use mathlib.Core.Logic.{◌≢◌}
use mathlib.Core.Bool.{Bool, false}
use mathlib.Core.List.{List}
use Prim.Native.Nat.{ℕ, zero, suc, ◌+◌, ◌-◌, ◌%◌, ◌<◌, ◌≤◌}
use native.Mathlib.Omega.{arith}
use lib.ListN.{length, get_or, take, drop, length-drop, length-map}
use lib.Seq.{get_or-drop, length-take-le}
use Rattle.meaning.specs.Numbers.{bit}
use Rattle.meaning.specs.Edges.{Edge, edge, number}
use Rattle.basic_laws.specs.Bits.{of_bits_same}
use Rattle.grid_laws.specs.Covering.{covers_same}
use Rattle.grid_laws.specs.Plane.{goes_west, goes_east}
use Rattle.strips.specs.Rows.{row_at}
use Rattle.marks.specs.Marks.{from_at, to_at, Marked, FreshMarks, Between, Covered, AllOk, SummedAll}
use Rattle.marks.specs.MarkMore.{marked_more}
use Rattle.marks.specs.Fresh.{fresh_one, marked_fresh}
use Rattle.marks.specs.AllSummed.{all_ready, all_count, all_fresh}
use Rattle.crossings.specs.declared.Reach.{Reach}
use Rattle.crossings.specs.declared.Touched.{Touched}
use Rattle.crossings.specs.Swept.{Swept, height_of, layer_of, from_of, to_of, edge_of, edges_to, edges_from, least_of, most_of, lower_at, upper_at, AdvanceOk, Advanced, MarkOk, MarkedOne, MarkAllOk, PlaceMarked}
use Rattle.crossings.specs.SweptLaws.{edges_more, edges_few}
use Rattle.crossings.specs.PlaceLaws.{least_both, most_both, low_all, high_all, Along, along_start, along_turn, along_more, along_across, along_below}

-- ---- the edges from edge g on

module _ (ws layers ends : List ℕ) (g : ℕ) where
  from_more : (k : ℕ) (p : Edge ℕ → Bool) → g + k < length ws → number p (edges_from ws layers ends g (k + 1)) ≡ number p (edges_from ws layers ends g k) + bit (p (edge_of layers ends (get_or ws (g + k) 0)))
  from_more k p h =
      edges_more (drop g ws) layers ends k p (omega (arith, length-drop g ws))
      ∙ ap (λ (w : ℕ). number p (edges_from ws layers ends g k) + bit (p (edge_of layers ends w))) (get_or-drop g ws k 0)

  from_none : (p : Edge ℕ → Bool) → number p (edges_from ws layers ends g 0) ≡ 0
  unfolding edges_to number
  from_none p = refl

  from_split : (k : ℕ) (p : Edge ℕ → Bool) → g + k ≤ length ws → number p (edges_to ws layers ends (g + k)) ≡ number p (edges_to ws layers ends g) + number p (edges_from ws layers ends g k)
  from_split zero p h = let z : g + 0 ≡ g = omega arith in rw z (omega (arith, from_none p))
  from_split (suc k) p h =
      let z : g + suc k ≡ g + k + 1 = omega arith in
      let y : suc k ≡ k + 1 = omega arith in
      rw (z, y) (omega (arith, edges_more ws layers ends (g + k) p (omega arith), from_split k p (omega arith), from_more k p (omega arith)))

  from_few : (k : ℕ) (p : Edge ℕ → Bool) → g + k ≤ length ws → number p (edges_from ws layers ends g k) ≤ k
  from_few k p h = edges_few (drop g ws) layers ends k p (omega (arith, length-drop g ws))

  from_long : (k : ℕ) → g + k ≤ length ws → length (edges_from ws layers ends g k) ≡ k
  unfolding edges_to
  from_long k h = length-map (take k (drop g ws)) (edge_of layers ends) ∙ length-take-le k (drop g ws) (omega (arith, length-drop g ws))

-- ---- the loop

pub record Marking (n : ℕ) (ws layers ends : List ℕ) (g e lo hi : ℕ) (d : List ℕ) : Type 0 where
  pub along : Along n ws ends g e lo hi
  pub marked : Marked n (edges_from ws layers ends g (e - g)) d

module _ {n : ℕ} {ws layers ends : List ℕ} {g : ℕ} {d₀ : List ℕ} (ok : MarkAllOk n ws layers ends g d₀) where
  pub marking_start : Marking n ws layers ends g g n 0 d₀
  unfolding edges_to
  marking_start = let z : g - g ≡ 0 = omega arith in record { along = along_start ends ok.some; marked = rw z (marked_fresh ok.fresh) }

  module _ {e lo hi : ℕ} {d : List ℕ} (S : Marking n ws layers ends g e lo hi d) where
    module _ (h : e < length ws) where
      pub marking_asks : MarkOk n (get_or ws e 0) layers ends d
      marking_asks =
          let k = ok.words.known e h in
          let own = ok.words.eight (get_or ws e 0 % 8192) k in
          let f = ok.words.ranks (get_or ws e 0 % 8192 + get_or ws e 0 % 8192) (omega (arith, k, ok.words.two)) in
          let t = ok.words.ranks (get_or ws e 0 % 8192 + get_or ws e 0 % 8192 + 1) (omega (arith, k, ok.words.two)) in
          let fit : g + (e - g) ≤ length ws = omega (arith, S.along.from) in
          record {
            known = k;
            two = ok.words.two;
            long = S.marked.long;
            few = ok.words.rows_few;
            layer = own;
            from = f;
            to = t;
            low = omega (
              arith,
              S.marked.marks (layer_of layers (get_or ws e 0)) (from_of ends (get_or ws e 0)) own f,
              from_few ws layers ends g (e - g) (from_at (layer_of layers (get_or ws e 0)) (from_of ends (get_or ws e 0))) fit,
              ok.words.few,
            );
            high = omega (
              arith,
              S.marked.marks (layer_of layers (get_or ws e 0)) (to_of ends (get_or ws e 0)) own t,
              from_few ws layers ends g (e - g) (to_at (layer_of layers (get_or ws e 0)) (to_of ends (get_or ws e 0))) fit,
              ok.words.few,
            );
          }

      more : (p : Edge ℕ → Bool) → number p (edges_from ws layers ends g (e + 1 - g)) ≡ number p (edges_from ws layers ends g (e - g)) + bit (p (edge_of layers ends (get_or ws e 0)))
      more p =
          let z : e + 1 - g ≡ e - g + 1 = omega (arith, S.along.from) in
          let y : g + (e - g) ≡ e = omega (arith, S.along.from) in
          rw z (rw y at (from_more ws layers ends g (e - g) p (omega (arith, y))))

      pub marking_turn : {s : Reach} {d' : List ℕ} → MarkedOne n (get_or ws e 0) layers ends d d' s
          → (lo' hi' y : ℕ) → lo' ≡ least_of lo s.lo → hi' ≡ most_of hi s.hi → height_of (get_or ws e 0) ≡ y → y ≡ height_of (get_or ws g 0) → Marking n ws layers ends g (e + 1) lo' hi' d'
      marking_turn {s} {d'} P lo' hi' y p q here-too y-is = record {
        along = along_turn ok.words S.along h P.lo P.hi lo' hi' y p q here-too y-is;
        marked =
            let a = marking_asks in
            rw P.marked (marked_more S.marked (edges_from ws layers ends g (e + 1 - g)) (layer_of layers (get_or ws e 0)) (height_of (get_or ws e 0)) (from_of ends (get_or ws e 0)) (to_of ends (get_or ws e 0)) a.layer a.from a.to a.low more);
      }

    pub marking_done : (e < length ws → height_of (get_or ws e 0) ≢ height_of (get_or ws g 0)) → PlaceMarked n ws layers ends g d (record { next = e; lo = lo; hi = hi })
    marking_done stop =
        let more = along_more ok.words S.along ok.some stop in
        record {
          more = more;
          fits = S.along.to;
          here = S.along.here;
          stop = stop;
          lo = S.along.lo_is;
          hi = S.along.hi_is;
          order = (S.along.lo_top, S.along.hi_top);
          across = along_across ok.words S.along more;
          below = along_below ok.words S.along more;
          marked = S.marked;
        }

-- ---- the marks summed up

between : (ws layers ends : List ℕ) (g a b k : ℕ) → g + k ≤ length ws → ((i : ℕ) → i < k → (a ≤ lower_at ws ends g i) × (upper_at ws ends g i ≤ b)) → Between a b (edges_from ws layers ends g k)
between ws layers ends g a b k h reach = record { none = λ p out. go p out k h reach }
  where
    go : (p : Edge ℕ → Bool) → ((l y f t : ℕ) → a ≤ f → a ≤ t → f ≤ b → t ≤ b → p (edge l y f t) ≡ false) → (k : ℕ) → g + k ≤ length ws
        → ((i : ℕ) → i < k → (a ≤ lower_at ws ends g i) × (upper_at ws ends g i ≤ b)) → number p (edges_from ws layers ends g k) ≡ 0
    go p out zero h reach = from_none ws layers ends g p
    go p out (suc k) h reach =
        let z : suc k ≡ k + 1 = omega arith in
        let r = reach k (omega arith) in
        let u = least_both (to_of ends (get_or ws (g + k) 0)) (from_of ends (get_or ws (g + k) 0)) in
        let v = most_both (to_of ends (get_or ws (g + k) 0)) (from_of ends (get_or ws (g + k) 0)) in
        let e : p (edge_of layers ends (get_or ws (g + k) 0)) ≡ false = out _ _ _ _ (omega (arith, r.0, u.1)) (omega (arith, r.0, u.0)) (omega (arith, r.1, v.1)) (omega (arith, r.1, v.0)) in
        rw z (from_more ws layers ends g k p (omega arith) ∙ rw e (omega (arith, go p out k (omega arith) (λ i q. reach i (omega arith)))))

module _ {n : ℕ} {ws layers ends : List ℕ} {g : ℕ} {c₀ m₀ d₀ d₁ : List ℕ} {t : Touched} (ok : AdvanceOk n ws layers ends g c₀ m₀) (F : FreshMarks n d₀) (P : PlaceMarked n ws layers ends g d₁ t) where
  room : g + (t.next - g) ≤ length ws
  room = omega (arith, P.more, P.fits)

  few : length (edges_from ws layers ends g (t.next - g)) ≤ 4096
  few = omega (arith, from_long ws layers ends g (t.next - g) room, room, ok.words.few)

  reach : Between t.lo t.hi (edges_from ws layers ends g (t.next - g))
  reach = between ws layers ends g t.lo t.hi (t.next - g) room (λ i u. (omega (arith, P.lo, low_all (lower_at ws ends g) n (t.next - g) i u), omega (arith, P.hi, high_all (upper_at ws ends g) (t.next - g) i u)))

  near : (l r : ℕ) → l < 8 → r < n → (4096 ≤ row_at n c₀ l r) × (row_at n c₀ l r ≤ 12288)
  near l r hl hr =
      let e = ok.swept.counts l r hl hr in
      let x = edges_few ws layers ends g (goes_east l r) (omega (arith, ok.some)) in
      let y = edges_few ws layers ends g (goes_west l r) (omega (arith, ok.some)) in
      (omega (arith, ok.some, ok.words.few), omega (arith, ok.some, ok.words.few))

  covered : Covered n c₀ m₀
  covered = record {
    is = λ r hr.
        ok.swept.covers r hr
        ∙ of_bits_same 8 _ _ (λ l hl. covers_same (number (goes_west l r) (edges_to ws layers ends g)) (number (goes_east l r) (edges_to ws layers ends g)) (row_at n c₀ l r) 8192 (omega (arith, ok.swept.counts l r hl hr)));
  }

  pub marked_ready : AllOk n t.lo t.hi c₀ m₀ d₁
  marked_ready = all_ready P.marked few reach P.across (P.below n ok.words.ranks) ok.words.rows_few ok.swept.long ok.swept.long_covers near covered

  module _ {c m d : List ℕ} (S : SummedAll n t.lo t.hi c₀ c m₀ m d₁ d) where
    split : (p : Edge ℕ → Bool) → number p (edges_to ws layers ends t.next) ≡ number p (edges_to ws layers ends g) + number p (edges_from ws layers ends g (t.next - g))
    split p = let z : g + (t.next - g) ≡ t.next = omega (arith, P.more) in rw z at (from_split ws layers ends g (t.next - g) p room)

    counts : (l r : ℕ) → l < 8 → r < n → row_at n c l r + number (goes_east l r) (edges_to ws layers ends t.next) ≡ 8192 + number (goes_west l r) (edges_to ws layers ends t.next)
    counts l r hl hr = omega (
      arith,
      all_count P.marked few reach S l r hl hr (near l r hl hr).0,
      ok.swept.counts l r hl hr,
      split (goes_east l r),
      split (goes_west l r),
    )

    swept : Swept n (edges_to ws layers ends t.next) c m
    swept = record {
      long = S.long ∙ ok.swept.long;
      long_covers = S.long_covers ∙ ok.swept.long_covers;
      counts = counts;
      covers = λ r hr.
          S.covered.is r hr
          ∙ of_bits_same 8 _ _ (λ l hl. covers_same (row_at n c l r) 8192 (number (goes_west l r) (edges_to ws layers ends t.next)) (number (goes_east l r) (edges_to ws layers ends t.next)) (omega (arith, counts l r hl hr)));
    }

    pub marked_done : Advanced n ws layers ends g c₀ c m₀ m t × (d ≡ d₀)
    marked_done = (
      record {
        more = P.more;
        fits = P.fits;
        here = P.here;
        stop = P.stop;
        swept = swept;
        lo = P.lo;
        hi = P.hi;
        order = P.order;
        across = P.across;
        below = P.below;
        still = λ l r hl hr out. S.still l r hl hr (λ _ u v. out u v);
        still_covers = λ r _ out. S.still_covers r out;
      },
      fresh_one (all_fresh P.marked few reach S) F,
    )
