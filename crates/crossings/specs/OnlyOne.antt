-- What the contracts say of an answer and of all that was lent is said of one only; and how the sweep starts. Assumes nothing.
--
--   swept_one      two rows with the same edges are equal, and so are their covers
--   advanced_one   so are two answers of `advance`, and what they leave
--   taken_one      so is what `strips::take_over` and `strips::cross` leave
--   swept_fresh    rows with every count at zero have no edge
use Rattle.std.specs.Prelude.{◌≡◌, refl, false, List, [], ℕ, zero, suc, ◌+◌, ◌*◌, ◌-◌, ◌<◌, ◌≤◌, length, get_or, replicate}
use Rattle.std.proofs.Common.{sym, ap, ap₂, ◌∙◌, arith, ext_get_or}
use Rattle.std.proofs.Math.Decide.{dec_lt}
use Rattle.std.proofs.lemmas.List.{length-replicate, get_or-replicate}
use Rattle.meaning.specs.Edges.{Edge, number}
use Rattle.basic_laws.specs.Bits.{of_bits, of_bits_same}
use Rattle.grid_laws.specs.Covering.{covers_none}
use Rattle.strips.specs.Rows.{layer_fits}
use Rattle.strips.specs.Cover.{Passed}
use Rattle.strips.specs.Strips.{Taken}
use Rattle.marks.specs.Fresh.{spot}
use Rattle.crossings.specs.declared.Touched.{Touched}
use Rattle.crossings.specs.Swept.{covers_by, Swept, edges_to, low_to, high_to, lower_at, upper_at, Advanced}

pub swept_one : {n : ℕ} {es : List (Edge ℕ)} {c m c' m' : List ℕ} → Swept n es c m → Swept n es c' m' → (c ≡ c') × (m ≡ m')
swept_one {n} {es} {c} {m} {c'} {m'} S S' =
    (ext_get_or 0 c c' (S.long ∙ sym S'.long) counts, ext_get_or 0 m m' (S.long_covers ∙ sym S'.long_covers) (λ r h. S.covers r (omega (arith, S.long_covers)) ∙ sym (S'.covers r (omega (arith, S.long_covers)))))
  where
    counts : (p : ℕ) → p < length c → get_or c p 0 ≡ get_or c' p 0
    counts p h =
        let s = spot 8 n p (omega (arith, S.long)) in
        rw s.is (omega (arith, S.counts s.layer s.strip s.layer_less s.strip_less, S'.counts s.layer s.strip s.layer_less s.strip_less))

-- ---- `advance`

abbrev touched_by : ℕ → ℕ → ℕ → Touched
touched_by k a b = record { next = k; lo = a; hi = b }

touched : {t t' : Touched} → t.next ≡ t'.next → t.lo ≡ t'.lo → t.hi ≡ t'.hi → t ≡ t'
touched {t} {t'} e a b =
    let p : touched_by t.next t.lo t.hi ≡ touched_by t'.next t.lo t.hi = ap (λ (k : ℕ). touched_by k t.lo t.hi) e in
    let q : touched_by t'.next t.lo t.hi ≡ touched_by t'.next t'.lo t'.hi = ap₂ (λ (x y : ℕ). touched_by t'.next x y) a b in
    p ∙ q

module _ {n : ℕ} {ws layers ends : List ℕ} {g : ℕ} {c₀ m₀ : List ℕ} where
  next_low : {c m c' m' : List ℕ} {t t' : Touched} → Advanced n ws layers ends g c₀ c m₀ m t → Advanced n ws layers ends g c₀ c' m₀ m' t' → t'.next ≤ t.next
  next_low {c} {m} {c'} {m'} {t} {t'} A A' = go (dec_lt t.next t'.next)
    where
      go : Dec (t.next < t'.next) → t'.next ≤ t.next
      go (yes u) = absurd (A.stop (omega (arith, A'.fits)) (A'.here t.next (omega (arith, A.more)) u))
      go (no u) = omega arith

  pub advanced_one : {c m c' m' : List ℕ} {t t' : Touched} → Advanced n ws layers ends g c₀ c m₀ m t → Advanced n ws layers ends g c₀ c' m₀ m' t' → (t ≡ t') × (c ≡ c') × (m ≡ m')
  advanced_one {c} {m} {c'} {m'} {t} {t'} A A' =
      let e : t.next ≡ t'.next = omega (arith, next_low A A', next_low A' A) in
      let lo : t.lo ≡ t'.lo = A.lo ∙ ap (λ (k : ℕ). low_to (lower_at ws ends g) n (k - g)) e ∙ sym A'.lo in
      let hi : t.hi ≡ t'.hi = A.hi ∙ ap (λ (k : ℕ). high_to (upper_at ws ends g) (k - g)) e ∙ sym A'.hi in
      let s : Swept n (edges_to ws layers ends t'.next) c m = rw e at A.swept in
      let o = swept_one s A'.swept in
      (touched e lo hi, o.0, o.1)

-- ---- `strips::cross`

passed_one : (f : ℕ → ℕ) (a b : ℕ) (xs₀ xs ys : List ℕ) → Passed 0 f a b xs₀ xs → Passed 0 f a b xs₀ ys → xs ≡ ys
passed_one f a b xs₀ xs ys P Q = ext_get_or 0 xs ys (P.long ∙ sym Q.long) (λ r _. go r (dec_lt r a) (dec_lt r b))
  where
    go : (r : ℕ) → Dec (r < a) → Dec (r < b) → get_or xs r 0 ≡ get_or ys r 0
    go r (yes u) v = P.same r (λ w _. let z : ⊥ = omega arith in absurd z) ∙ sym (Q.same r (λ w _. let z : ⊥ = omega arith in absurd z))
    go r (no u) (yes v) = P.made r (omega arith) v ∙ sym (Q.made r (omega arith) v)
    go r (no u) (no v) = P.same r (λ _ w. v w) ∙ sym (Q.same r (λ _ w. v w))

pub taken_one : {n l a b h : ℕ} {c₀ m₀ c m c' m' : List ℕ} → Taken n l a b h c₀ c m₀ m → Taken n l a b h c₀ c' m₀ m' → (c ≡ c') × (m ≡ m')
taken_one {n} {l} {a} {b} {h} {c₀} {m₀} {c} {m} {c'} {m'} T T' = (passed_one _ (l * n + a) (l * n + b) c₀ c c' T.counts T'.counts, passed_one _ a b m₀ m m' T.digits T'.digits)

-- ---- the start

none_bits : (n : ℕ) → of_bits n (λ _. false) ≡ 0
unfolding of_bits
none_bits zero = refl
none_bits (suc n) = omega (arith, none_bits n)

pub swept_fresh : (n : ℕ) (ws layers ends : List ℕ) → Swept n (edges_to ws layers ends 0) (replicate (8 * n) 8192) (replicate n 0)
unfolding edges_to number
swept_fresh n ws layers ends = record {
  long = length-replicate {A = ℕ} (8 * n) 8192;
  long_covers = length-replicate {A = ℕ} n 0;
  counts = λ l r hl hr. omega (arith, get_or-replicate {A = ℕ} (8 * n) (l * n + r) 8192 0 (omega (arith, layer_fits n l hl)));
  covers = λ r h. get_or-replicate {A = ℕ} n r 0 0 h ∙ sym (of_bits_same 8 (covers_by [] r) (λ _. false) (λ k _. covers_none 0 0 refl) ∙ none_bits 8);
}
