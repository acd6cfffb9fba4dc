-- Lists of places: membership as a test, rising lists, sorting; a each looks only at the places that matter; a line only at its breakpoints.
use Rattle.std.specs.Prelude.{◌≡◌, refl, ◌≢◌, Bool, true, false, ◌||◌, List, [], ◌∷◌, ◌++◌, ℕ, zero, suc, ◌+◌, ◌≤◌, ◌<◌, ltb, eqb}
use Rattle.std.proofs.Common.{sym, ap, ◌∙◌, true≢false, arith, eq-eqb, ne_eqb, eqb-true, ltb-true, ltb-false}
use Rattle.std.proofs.Math.Decide.{dec_lt, ℕ_discrete}
use Rattle.std.proofs.lemmas.Bool.{eqb-false}
use Rattle.meaning.specs.Cells.{Dir, off}
use Rattle.meaning.specs.Records.{line, each}
use Rattle.grid_laws.specs.Plane.{line_over, each_of, insert, insert_if, sorted}
use Rattle.grid_laws.specs.LineLaws.{line_off, line_whole, Steps, end}

unfoldable pub has : ℕ → List ℕ → Bool
has k [] = false
has k (p ∷ ps) = eqb k p || has k ps

pub or_left : (p q : Bool) → (p || q) ≡ false → p ≡ false
or_left true q e = e
or_left false q e = refl

pub or_right : (p q : Bool) → (p || q) ≡ false → q ≡ false
or_right true q e = absurd (true≢false e)
or_right false q e = e

-- each at least a, and rising
abbrev pub Rising : ℕ → List ℕ → Type 0
Rising a [] = Unit {0}
Rising a (p ∷ ps) = (a ≤ p) × Rising (suc p) ps

pub has_head : (p : ℕ) (ps : List ℕ) → has p (p ∷ ps) ≡ true
unfolding has
has_head p ps = rw (eq-eqb p p refl)

pub has_other : (k p : ℕ) (ps : List ℕ) → k ≢ p → has k (p ∷ ps) ≡ has k ps
unfolding has
has_other k p ps n = rw (ne_eqb k p n)

pub has_tail : (k p : ℕ) (ps : List ℕ) → has k (p ∷ ps) ≡ false → has k ps ≡ false
unfolding has
has_tail k p ps e = or_right (eqb k p) (has k ps) e

pub has_ne : (k p : ℕ) (ps : List ℕ) → has k (p ∷ ps) ≡ false → k ≢ p
unfolding has
has_ne k p ps e = eqb-false k p (or_left (eqb k p) (has k ps) e)

-- none past N is a member, where no member is
pub none_past : (N : ℕ) (ps : List ℕ) → ((k : ℕ) → has k ps ≡ true → k ≤ N) → (k : ℕ) → N < k → has k ps ≡ false
none_past N ps h k l = go (has k ps) refl
  where
    go : (b : Bool) → has k ps ≡ b → has k ps ≡ false
    go true e = let z : ⊥ = omega (arith, h k e) in absurd z
    go false e = e

pub rising_below : (a : ℕ) (ps : List ℕ) (k : ℕ) → Rising a ps → k < a → has k ps ≡ false
unfolding has
rising_below a [] k r l = refl
rising_below a (p ∷ ps) k r l = rw (ne_eqb k p (omega arith)) (rising_below (suc p) ps k r.1 (omega arith))

-- ---- sorting

insert_rising : (a k : ℕ) (ps : List ℕ) → a ≤ k → Rising a ps → Rising a (insert k ps)
unfolding insert insert_if
insert_rising a k [] l r = (l, tt)
insert_rising a k (p ∷ ps) l r = go (ltb k p) (eqb k p) refl refl (λ u. insert_rising (suc p) k ps u r.1)
  where
    go : (t e : Bool) → ltb k p ≡ t → eqb k p ≡ e → (p < k → Rising (suc p) (insert k ps)) → Rising a (insert_if t e k p ps (insert k ps))
    go true e q z ih = (l, (ltb-true k p q, r.1))
    go false true q z ih = r
    go false false q z ih =
        let n : k ≢ p = eqb-false k p z in
        let m : p ≤ k = ltb-false k p q in
        (r.0, ih (omega arith))

pub sorted_rising : (ks : List ℕ) → Rising zero (sorted ks)
unfolding sorted
sorted_rising [] = tt
sorted_rising (k ∷ ks) = insert_rising zero k (sorted ks) (omega arith) (sorted_rising ks)

or_swap : (p q r : Bool) → (p || (q || r)) ≡ (q || (p || r))
or_swap true true r = refl
or_swap true false r = refl
or_swap false true r = refl
or_swap false false r = refl

or_twice : (p r : Bool) → (p || (p || r)) ≡ (p || r)
or_twice true r = refl
or_twice false r = refl

insert_has : (x k : ℕ) (ps : List ℕ) → has x (insert k ps) ≡ (eqb x k || has x ps)
unfolding insert insert_if has
insert_has x k [] = refl
insert_has x k (p ∷ ps) = go (ltb k p) (eqb k p) refl (insert_has x k ps)
  where
    go : (t e : Bool) → eqb k p ≡ e → has x (insert k ps) ≡ (eqb x k || has x ps) → has x (insert_if t e k p ps (insert k ps)) ≡ (eqb x k || (eqb x p || has x ps))
    go true e z ih = refl
    go false true z ih = rw (eqb-true k p z) (sym (or_twice (eqb x p) (has x ps)))
    go false false z ih = rw ih (or_swap (eqb x p) (eqb x k) (has x ps))

pub sorted_has : (x : ℕ) (ks : List ℕ) → has x (sorted ks) ≡ has x ks
unfolding sorted has
sorted_has x [] = refl
sorted_has x (k ∷ ks) = insert_has x k (sorted ks) ∙ ap (◌||◌ (eqb x k)) (sorted_has x ks)

-- ---- a each looks only at the places where there is something

each_none : {A : Type 0} (h : ℕ → List A) (a n : ℕ) → ((k : ℕ) → a ≤ k → h k ≡ []) → each h a n ≡ []
unfolding each
each_none h a zero e = refl
each_none h a (suc n) e = rw (e a (omega arith)) (each_none h (suc a) n (λ k l. e k (omega arith)))

-- by the number of places, at each of which the list's head may stand
pub each_at : {A : Type 0} (h : ℕ → List A) (n a : ℕ) (ps : List ℕ) → Rising a ps → ((k : ℕ) → a + n ≤ k → has k ps ≡ false) → ((k : ℕ) → a ≤ k → has k ps ≡ false → h k ≡ []) → each h a n ≡ each_of h ps
unfolding each each_of
each_at h zero a [] r b e = refl
each_at h zero a (p ∷ ps) r b e = absurd (true≢false (sym (has_head p ps) ∙ b p (omega arith)))
each_at h (suc n) a [] r b e = each_none h a (suc n) (λ k l. e k l (unfold has in refl))
each_at h (suc n) a (p ∷ ps) r b e = go (ℕ_discrete a p) (λ qs. each_at h n (suc a) qs)
  where
    go : Dec (a ≡ p) → ((qs : List ℕ) → Rising (suc a) qs → ((k : ℕ) → suc a + n ≤ k → has k qs ≡ false) → ((k : ℕ) → suc a ≤ k → has k qs ≡ false → h k ≡ []) → each h (suc a) n ≡ each_of h qs)
        → (h a ++ each h (suc a) n) ≡ (h p ++ each_of h ps)
    go (yes q) ih =
        let r' : Rising (suc a) ps = rw q r.1 in
        rw (← q) (ap (◌++◌ (h a)) (ih ps r'
        (λ k l. has_tail k p ps (b k (omega arith)))
        (λ k l z. e k (omega arith) (has_other k p ps (omega arith) ∙ z))))
    go (no q) ih =
        let r' : Rising (suc a) (p ∷ ps) = (omega arith, r.1) in
        rw (e a (omega arith) (rising_below (suc a) (p ∷ ps) a r' (omega arith)))
        (ih (p ∷ ps) r' (λ k l. b k (omega arith)) (λ k l z. e k (omega arith) z))

-- ---- a line looks only at its breakpoints

-- no place of ps lies past j and up to j'
abbrev pub Quiet : ℕ → ℕ → List ℕ → Type 0
Quiet j j' ps = (y : ℕ) → j < y → y ≤ j' → has y ps ≡ false

-- f jumps only at places of ps, and is off before the first and from the last on
pub record Jumps (f : ℕ → Dir) (ps : List ℕ) : Type 0 where
  pub same : (j j' : ℕ) → j ≤ j' → Quiet j j' ps → f j' ≡ f j
  pub early : (j : ℕ) → ((y : ℕ) → y ≤ j → has y ps ≡ false) → f j ≡ off
  pub late : (j : ℕ) → ((y : ℕ) → j < y → has y ps ≡ false) → f j ≡ off

steps_of : (f : ℕ → Dir) (qs : List ℕ) (a : ℕ) (bs : List ℕ) → Jumps f qs → Rising (suc a) bs → ((y : ℕ) → a < y → has y qs ≡ has y bs) → Steps f a bs
steps_of f qs a [] J r e = tt
steps_of f qs a (b ∷ bs) J r e = (
  r.0,
  λ k p q. J.same a k p (λ y u v. e y u ∙ rising_below b (b ∷ bs) y (omega arith, r.1) (omega arith)),
  steps_of f qs b bs J r.1 (λ y u. e y (omega arith) ∙ has_other y b bs (omega arith)),
)

end_up : (b : ℕ) (bs : List ℕ) → Rising (suc b) bs → b ≤ end b bs
end_up b [] r = omega arith
end_up b (c ∷ bs) r = omega (arith, end_up c bs r.1)

end_last : (a : ℕ) (bs : List ℕ) → Rising (suc a) bs → (y : ℕ) → end a bs < y → has y bs ≡ false
unfolding has
end_last a [] r y l = refl
end_last a (b ∷ bs) r y l = rw (ne_eqb y b (go b bs r.1 l)) (end_last b bs r.1 y l)
  where
    go : (b : ℕ) (bs : List ℕ) → Rising (suc b) bs → end b bs < y → y ≢ b
    go b bs r l = omega (arith, end_up b bs r)

end_has : (a : ℕ) (bs : List ℕ) → has (end a bs) (a ∷ bs) ≡ true
unfolding has
end_has a [] = has_head a []
end_has a (b ∷ bs) = go (eqb (end b bs) a) (end_has b bs)
  where
    go : (t : Bool) → has (end b bs) (b ∷ bs) ≡ true → (t || has (end b bs) (b ∷ bs)) ≡ true
    go true e = refl
    go false e = e

pub line_over_is : (f : ℕ → Dir) (qs bs : List ℕ) (n : ℕ) → Jumps f qs → Rising zero bs → ((y : ℕ) → has y qs ≡ has y bs) → ((y : ℕ) → n < y → has y qs ≡ false) → line f zero n ≡ line_over f bs
unfolding line_over has
line_over_is f qs [] n J r e m = line_off f zero n (λ k p. J.early k (λ y l. e y))
line_over_is f qs (b ∷ bs) n J r e m =
    line_whole f b bs n
    (λ k p. J.early k (λ y l. e y ∙ rising_below b (b ∷ bs) y (omega arith, r.1) (omega arith)))
    (steps_of f qs b bs J r.1 (λ y l. e y ∙ has_other y b bs (omega arith)))
    (λ k p. J.late k (λ y l. e y ∙ (has_other y b bs (omega (arith, end_up b bs r.1)) ∙ end_last b bs r.1 y (omega arith))))
    (go (dec_lt n (end b bs)))
  where
    go : Dec (n < end b bs) → end b bs ≤ n
    go (yes l) = absurd (true≢false (sym (end_has b bs) ∙ sym (e (end b bs)) ∙ m (end b bs) l))
    go (no l) = omega arith
