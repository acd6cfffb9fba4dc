-- The first faulty number from the front, and the three calls on ring lists as tables of answers.
--
--   Begun              what has been read: whole rings, and a ring up to the number that is due
--   after b z          what has been read after the due number z
--   Beside zs k z      z, due after the coordinates zs of a ring of k pairs, equals a cyclic neighbour
--   DueJudged L b z p  the table for the due number z at the place p: 15, 16, 17
--   Stores b v z       a file stores z, due after b, as the number v
--   Begins ..          no number of a beginning is faulty
--   FileFault, ListFault   the first faulty number of a file, of a ring list
--   Laid made out      the end of a table: the room is too short, or made is written
--   Read, OfList, Written, Edged   the calls: what is answered, and the buffer after it
--
-- Places in a file are counted in bytes, in a ring list in its numbers.
use Rattle.std.specs.Prelude.{◌≡◌, false, ◌⊎◌, List, [], ◌∷◌, ◌++◌, ℕ, suc, ◌+◌, ◌≤◌, ◌<◌, eqb, ℤ, pos, nat_abs, ◌-ℤ◌, length, drop}
use Rattle.meaning.specs.Numbers.{pick, limit, in_range}
use Rattle.meaning.specs.Answers.{Answer, accepted, Row, given, First, file_too_long, ends_inside, bad_number, other_edition, ring_out_of_range, neighbours_equal, too_many_pairs, room_too_short}
use Rattle.meaning.specs.Rings.{Pair, pair, Ring, ring, xs, ys, pairs_in, GoodRings, ring_numbers, ring_edges}
use Rattle.meaning.specs.MaskFile.{spelt, most, five, signed, bytes_of, longest, Stands, Cut, NotShortest, TooLong}

-- whole rings, then a ring's layer, its k, and its pairs, as far as they have been read
pub data Begun : Type 0 where
  at_layer : List Ring → Begun
  at_count : List Ring → ℕ → Begun
  at_x : List Ring → ℕ → ℕ → List Pair → Begun
  at_y : List Ring → ℕ → ℕ → List Pair → ℤ → Begun

abbrev pub after : Begun → ℤ → Begun
after (at_layer rs) z = at_count rs (nat_abs z)
after (at_count rs l) z = at_x rs l (nat_abs z) []
after (at_x rs l k ps) z = at_y rs l k ps z
after (at_y rs l k ps x) z =
    pick (eqb (suc (length ps)) k)
    (at_layer (rs ++ ring l (ps ++ pair x z ∷ []) ∷ []))
    (at_x rs l k (ps ++ pair x z ∷ []))

-- ---- the due number z, which stands at the place p

-- 15: "ring's layer over 7 or negative"
pub record IsLayer (z : ℤ) : Type 0 where
  pub layer : ℕ
  pub is : z ≡ pos layer
  pub low : layer ≤ 7

-- 15: "k under 2"
pub record IsCount (z : ℤ) : Type 0 where
  pub count : ℕ
  pub is : z ≡ pos count
  pub two : 2 ≤ count

-- 17: "pair total passes 4,096"
pub record TooMany (rs : List Ring) (z : ℤ) : Type 0 where
  pub count : ℕ
  pub is : z ≡ pos count
  pub passes : 4096 < pairs_in rs + count

-- 16: "cyclic neighbours equal": the neighbour before it, or at the ring's last pair the first; "An equal last and first x or y is met at the last one."
abbrev pub Beside : List ℤ → ℕ → ℤ → Type 0
Beside zs k z = ((m : List ℤ) × (zs ≡ m ++ z ∷ [])) ⊎ ((suc (length zs) ≡ k) × ((m : List ℤ) × (zs ≡ z ∷ m)))

-- "in one whole number 13, 14, 15, 16 or 17, as they apply, in that order"
abbrev pub DueJudged : ℕ → Begun → ℤ → ℕ → Row Answer
DueJudged L (at_layer rs) z p = given (IsLayer z → ⊥) (ring_out_of_range p)
DueJudged L (at_count rs l) z p = First (given (IsCount z → ⊥) (ring_out_of_range p) ∷ []) (given (TooMany rs z) (too_many_pairs p))
DueJudged L (at_x rs l k ps) z p = First (given (in_range L z ≡ false) (ring_out_of_range p) ∷ []) (given (Beside (xs ps) k z) (neighbours_equal p))
DueJudged L (at_y rs l k ps x) z p = First (given (in_range L z ≡ false) (ring_out_of_range p) ∷ []) (given (Beside (ys ps) k z) (neighbours_equal p))

-- ---- the numbers before it

-- nothing but the start, or one number more, which is spelt w and for which the table has no answer
pub data Begins {A : Type 0} (L : ℕ) (Spells : Begun → ℤ → List A → Type 0) (start : List A) : Begun → List A → Type 0 where
  nothing : Begins L Spells start (at_layer []) start
  more : {b : Begun} {l : List A} (z : ℤ) (w : List A) → Begins L Spells start b l → Spells b z w → ((p : ℕ) (a : Answer) → DueJudged L b z p a → ⊥) → Begins L Spells start (after b z) (l ++ w)

-- "rings to the end of the bytes": a file or a ring list may end after whole rings
abbrev pub MayEnd : Begun → Type 0
MayEnd (at_layer rs) = Unit {0}
MayEnd (at_count rs l) = ⊥
MayEnd (at_x rs l k ps) = ⊥
MayEnd (at_y rs l k ps x) = ⊥

abbrev pub IsCoordinate : Begun → Type 0
IsCoordinate (at_layer rs) = ⊥
IsCoordinate (at_count rs l) = ⊥
IsCoordinate (at_x rs l k ps) = Unit {0}
IsCoordinate (at_y rs l k ps x) = Unit {0}

-- ---- a file

-- the coordinate before, from which the difference is stored; 0 before the first, which is stored itself
abbrev pub previous_or : ℤ → List ℤ → ℤ
previous_or z [] = z
previous_or z (a ∷ l) = previous_or a l

abbrev pub previous : List ℤ → ℤ
previous zs = previous_or (pos 0) zs

-- "A ring is a layer, a pair count k, then x1, y1 signed, then for each further pair the signed differences from the previous x and y."
abbrev pub Stores : Begun → ℕ → ℤ → Type 0
Stores (at_layer rs) v z = z ≡ pos v
Stores (at_count rs l) v z = z ≡ pos v
Stores (at_x rs l k ps) v z = v ≡ signed (z -ℤ previous (xs ps))
Stores (at_y rs l k ps x) v z = v ≡ signed (z -ℤ previous (ys ps))

-- the bytes w of the number z, due after b
abbrev pub FileSpells : ℕ → Begun → ℤ → List ℕ → Type 0
FileSpells G b z w = (v : ℕ) × Stores b v z × (v < most G) × (w ≡ spelt G v)

-- a whole number stands there, and the table has an answer for what it means
pub record Valued (G L : ℕ) (b : Begun) (bs : List ℕ) (p : ℕ) (a : Answer) : Type 0 where
  pub number : ℕ
  pub z : ℤ
  pub stands : Stands G number bs
  pub means : Stores b number z
  pub judged : DueJudged L b z p a

-- "a due number that is absent or cut short is 12"; none is due where the bytes end after whole rings
abbrev pub Absent : ℕ → Begun → List ℕ → Type 0
Absent G b bs = Cut G bs × (MayEnd b → bs ≡ [] → ⊥)

-- "but 13 once a continued fifth group stands there"; "number not shortest, minus zero, or fifth group continued"; "minus zero (stored 1) is
-- not allowed"
abbrev pub Malformed : ℕ → Begun → List ℕ → Type 0
Malformed G b bs = TooLong G bs ⊎ (NotShortest G bs ⊎ (IsCoordinate b × Stands G 1 bs))

-- the number that is due after b at the front of bs, which begin at the place p of a file of len bytes
abbrev pub DueInFile : ℕ → ℕ → Begun → List ℕ → ℕ → ℕ → Row Answer
DueInFile G L b bs p len =
    First (given (Absent G b bs) (ends_inside len) ∷ given (Malformed G b bs) (bad_number p) ∷ [])
    (Valued G L b bs p)

-- "the first faulty number from the front": none before it is faulty
pub record RingFault (G L : ℕ) (f : List ℕ) (a : Answer) : Type 0 where
  pub begun : Begun
  pub front : List ℕ
  pub rest : List ℕ
  pub is : f ≡ front ++ rest
  pub begins : Begins L (FileSpells G) (spelt G 1) begun front
  pub due : DueInFile G L begun rest (length front) (length f) a

-- the edition, with 14: "edition not 1", and then the numbers of rings
abbrev pub FileFault : ℕ → ℕ → List ℕ → Row Answer
FileFault G L f =
    First (given (Cut G f) (ends_inside (length f))
    ∷ given (TooLong G f ⊎ NotShortest G f) (bad_number 0)
    ∷ given ((v : ℕ) × Stands G v f × (v ≡ 1 → ⊥)) other_edition
    ∷ [])
    (RingFault G L f)

-- ---- a ring list: "The writer and the edge maker judge a ring list likewise, with places counted in its numbers"

abbrev pub ListSpells : Begun → ℤ → List ℤ → Type 0
ListSpells b z w = w ≡ z ∷ []

abbrev pub DueInList : ℕ → Begun → List ℤ → ℕ → ℕ → Row Answer
DueInList L b zs p len =
    First (given ((zs ≡ []) × (MayEnd b → ⊥)) (ends_inside len) ∷ [])
    (λ a. (z : ℤ) × (rest : List ℤ) × (zs ≡ z ∷ rest) × DueJudged L b z p a)

pub record ListFault (L : ℕ) (ns : List ℤ) (a : Answer) : Type 0 where
  pub begun : Begun
  pub front : List ℤ
  pub rest : List ℤ
  pub is : ns ≡ front ++ rest
  pub begins : Begins L ListSpells [] begun front
  pub due : DueInList L begun rest (length front) (length ns) a

-- ---- the calls: an answer, and the buffer after it

-- "18 last"; "Result buffers are unchanged by every refusal, and beyond what an accepted answer writes"
abbrev pub Laid : {B : Type 0} → List B → List B → Row (Answer × List B)
Laid made out =
    First (given (length out < length made) (room_too_short (length made), out) ∷ [])
    (λ r. r ≡ (accepted (length made), made ++ drop (length made) out))

-- "File: 11, then the first faulty number from the front"
unfoldable pub Read : List ℕ → List ℤ → Row (Answer × List ℤ)
Read f out =
    First (given (longest < length f) (file_too_long, out) ∷ (λ r. FileFault five limit f r.0 × (r.1 ≡ out)) ∷ [])
    (λ r. (rs : List Ring) × GoodRings limit rs × (f ≡ bytes_of five rs) × Laid (ring_numbers rs) out r)

-- "The writer and the edge maker judge a ring list likewise": make says what a call makes of a good one
abbrev pub OfList : {B : Type 0} → (List Ring → List B) → List ℤ → List B → Row (Answer × List B)
OfList make ns out =
    First ((λ r. ListFault limit ns r.0 × (r.1 ≡ out)) ∷ [])
    (λ r. (rs : List Ring) × GoodRings limit rs × (ns ≡ ring_numbers rs) × Laid (make rs) out r)

unfoldable pub Written : List ℤ → List ℕ → Row (Answer × List ℕ)
Written ns out = OfList (bytes_of five) ns out

unfoldable pub Edged : List ℤ → List ℤ → Row (Answer × List ℤ)
Edged ns out = OfList ring_edges ns out
