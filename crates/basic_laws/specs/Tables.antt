-- Tables of answers: a table whose rows each say one answer says one answer. Assumes nothing.
--
--   Single row        the row says at most one answer
--   single_given      `given fact a` does
--   Singles rows      each row does
--   one_answer        so the table does: "answers meeting it are equal", for every call
--   not_given         a row whose fact fails says nothing
--   Silent a rows     no row says a
--   first_stops, first_passes, first_later, first_open   a table in parts
use Rattle.std.specs.Prelude.{◌≡◌, List, [], ◌∷◌, ◌++◌}
use Rattle.std.proofs.Common.{sym, ◌∙◌, inl, inr}
use Rattle.meaning.specs.Answers.{Row, given, First}

abbrev pub Single : {A : Type 0} → Row A → Type 0
Single {A} row = (r s : A) → row r → row s → r ≡ s

abbrev pub Singles : {A : Type 0} → List (Row A) → Type 0
Singles [] = Unit {0}
Singles (row ∷ rows) = Single row × Singles rows

pub single_given : {A : Type 0} (fact : Type 0) (a : A) → Single (given fact a)
single_given fact a r s x y = x.1 ∙ sym y.1

pub not_given : {A : Type 0} {fact : Type 0} (a : A) → (fact → ⊥) → (s : A) → given fact a s → ⊥
not_given a f s x = f x.0

pub one_answer : {A : Type 0} (rows : List (Row A)) (Last : Row A) → Singles rows → Single Last → Single (First rows Last)
one_answer [] Last u v r s x y = v r s x y
one_answer (row ∷ rows) Last u v r s (inl x) (inl y) = u.0 r s x y
one_answer (row ∷ rows) Last u v r s (inl x) (inr y) = absurd (y.0 r x)
one_answer (row ∷ rows) Last u v r s (inr x) (inl y) = absurd (x.0 s y)
one_answer (row ∷ rows) Last u v r s (inr x) (inr y) = one_answer rows Last u.1 v r s x.1 y.1

-- ---- a table in parts

-- none of the rows says a
abbrev pub Silent : {A : Type 0} → A → List (Row A) → Type 0
Silent a [] = Unit {0}
Silent a (row ∷ rows) = (row a → ⊥) × Silent a rows

-- what the first rows answer, the whole table answers
pub first_stops : {A : Type 0} (rows more : List (Row A)) (Mid Last : Row A) (a : A) → First rows Mid a → (Mid a → ⊥) → First (rows ++ more) Last a
first_stops [] more Mid Last a x n = absurd (n x)
first_stops (row ∷ rows) more Mid Last a (inl x) n = inl x
first_stops (row ∷ rows) more Mid Last a (inr x) n = inr (x.0, first_stops rows more Mid Last a x.1 n)

-- what they let pass, the later rows answer
pub first_passes : {A : Type 0} (rows more : List (Row A)) (Mid Last : Row A) (a b : A) → First rows Mid a → Silent a rows → First more Last b → First (rows ++ more) Last b
first_passes [] more Mid Last a b x s y = y
first_passes (row ∷ rows) more Mid Last a b (inl x) s y = absurd (s.0 x)
first_passes (row ∷ rows) more Mid Last a b (inr x) s y = inr (x.0, first_passes rows more Mid Last a b x.1 s.1 y)

-- an answer that the first rows do not give comes from the later ones
pub first_later : {A : Type 0} (rows more : List (Row A)) (Last : Row A) (a : A) → First (rows ++ more) Last a → Silent a rows → First more Last a
first_later [] more Last a x s = x
first_later (row ∷ rows) more Last a (inl x) s = absurd (s.0 x)
first_later (row ∷ rows) more Last a (inr x) s = first_later rows more Last a x.1 s.1

-- and then the first rows let something pass
pub first_open : {A : Type 0} (rows more : List (Row A)) (Last Mid : Row A) (a b : A) → First (rows ++ more) Last a → Silent a rows → Mid b → First rows Mid b
first_open [] more Last Mid a b x s y = y
first_open (row ∷ rows) more Last Mid a b (inl x) s y = absurd (s.0 x)
first_open (row ∷ rows) more Last Mid a b (inr x) s y = inr (x.0, first_open rows more Last Mid a b x.1 s.1 y)

pub silent_append : {A : Type 0} (a : A) (rows more : List (Row A)) → Silent a rows → Silent a more → Silent a (rows ++ more)
silent_append a [] more x y = y
silent_append a (row ∷ rows) more x y = (x.0, silent_append a rows more x.1 y)

pub singles_append : {A : Type 0} (rows more : List (Row A)) → Singles rows → Singles more → Singles (rows ++ more)
singles_append [] more x y = y
singles_append (row ∷ rows) more x y = (x.0, singles_append rows more x.1 y)
