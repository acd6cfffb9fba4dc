-- What is made of a ring list, number by number.
--
--   Follows s v                  v is a due number with no fault, and s the state before it
--   follows_sane, follows_most   the bounds of the two
--   Starts Begins out n after    what is made before the first ring stands at the front of the buffer
--   MadeLaws Begins adds make    each due number adds its items, and those of good rings are what is made of them
use Rattle.std.specs.Prelude.{◌≡◌, List, [], ◌++◌, ℕ, ◌≤◌, ℤ, length}
use Rattle.std.proofs.Math.Path.{subst⁻¹}
use Rattle.std.proofs.lemmas.List.Edits.{sets}
use Rattle.meaning.specs.Numbers.{limit}
use Rattle.meaning.specs.Rings.{Ring, GoodRings}
use Rattle.meaning.specs.Faults.{Begun, at_layer, after}
use Rattle.ring_laws.specs.Beginnings.{Fine, Good}
use Rattle.rings.specs.State.{greatest, Sane}
use Rattle.rings.specs.declared.State.{State}
use Rattle.reading_laws.specs.StateOf.{state_of, keyed}
use Rattle.reading_laws.specs.Standing.{Natural, sane, keyed_most}

pub record Follows (s : State) (v : ℕ) : Type 0 where
  pub begun : Begun
  pub number : ℤ
  pub good : Good limit begun
  pub natural : Natural begun number
  pub fine : Fine limit begun number
  pub state : s ≡ state_of begun
  pub value : v ≡ keyed begun number

pub follows_sane : (s : State) (v : ℕ) → Follows s v → Sane s
follows_sane s v f = subst⁻¹ Sane f.state (sane f.begun f.good)

pub follows_most : (s : State) (v : ℕ) → Follows s v → v ≤ greatest
follows_most s v f = rw f.value (keyed_most f.begun f.number f.fine)

pub record Starts {B : Type 0} (Begins : Begun → List B → Type 0) (out : List B) (n : ℕ) (after-out : List B) : Type 0 where
  pub items : List B
  pub begins : Begins (at_layer []) items
  pub count : n ≡ length items
  pub few : length items ≤ 5
  pub wrote : after-out ≡ sets out 0 items

pub record MadeLaws {B : Type 0} (Begins : Begun → List B → Type 0) (adds : State → ℕ → List B) (make : List Ring → List B) : Type 0 where
  pub more : (b : Begun) (items : List B) (z : ℤ) → Begins b items → Good limit b → Natural b z → Fine limit b z → Begins (after b z) (items ++ adds (state_of b) (keyed b z))
  pub whole : (rs : List Ring) (items : List B) → GoodRings limit rs → Begins (at_layer rs) items → items ≡ make rs
  pub few : (s : State) (v : ℕ) → length (adds s v) ≤ 5
