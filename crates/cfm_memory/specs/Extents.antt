-- Several instances are placed, each in turn at the lowest address with room or at an address that is given: the bytes at
-- their places, and the memory after they are removed. A section header says how much memory a section needs and how it
-- is aligned (Mac OS Runtime Architectures, "PEF Structure", section headers: totalSize, alignment). That
-- places are given in turn is this project's own rule of placement.
use Rattle.std.specs.Prelude.{◌≡◌, ◌≢◌, ◌⊎◌, ℕ, suc, ◌<◌, List, [], ◌∷◌, All, IsTrue, Some, drop, length, replicate, slice_index_or}
use Rattle.cfm_memory.specs.Instances.{Layout, bytes_at, holds_place, with_instance, with_instances, without}
use Rattle.cfm_memory.specs.Limits.{grain}
use Rattle.cfm_memory.specs.Placement.{IsLowest, IsRoom, with_new}
use Rattle.cfm_memory.specs.declared.place.Place.{Place}

-- the memory that an instance needs: its size, and its alignment as an exponent of two
pub record Extent : Type 0 where
  pub size : ℕ
  pub alignment : ℕ

-- a place for an extent is the lowest with room
pub record IsPlaceFor (m : Layout) (e : Extent) (p : Place) : Type 0 where
  pub size : p.size ≡ e.size
  pub lowest : IsLowest m e.size e.alignment p.address

-- a place for an extent has room
pub record HasRoom (m : Layout) (e : Extent) (p : Place) : Type 0 where
  pub size : p.size ≡ e.size
  pub room : IsRoom m e.size e.alignment p.address

-- where new instances lie: each in turn at the lowest address with room, or at the next of some addresses
pub data Rule : Type 0 where
  at_lowest : Rule
  at_given : List ℕ → Rule

-- the rule for those after n instances
abbrev pub rule_after : Rule → ℕ → Rule
rule_after at_lowest n = at_lowest
rule_after (at_given addresses) n = at_given (drop n addresses)

-- a place for the first extent by a rule. At a given address it has room, too
abbrev pub IsPlaceBy : Rule → Layout → Extent → Place → Type 0
IsPlaceBy at_lowest m e p = IsPlaceFor m e p
IsPlaceBy (at_given []) m e p = ⊥
IsPlaceBy (at_given (address ∷ addresses)) m e p = HasRoom m e p × (p.address ≡ address)

-- new instances of some extents were placed in a memory, in order, by a rule, which gave another memory
abbrev pub ArePlacedBy : Rule → Layout → List Extent → List Place → Layout → Type 0
ArePlacedBy rule m [] [] after = after ≡ m
ArePlacedBy rule m [] (p ∷ places) after = ⊥
ArePlacedBy rule m (e ∷ extents) [] after = ⊥
ArePlacedBy rule m (e ∷ extents) (p ∷ places) after = IsPlaceBy rule m e p × ArePlacedBy (rule_after rule 1) (with_new m p) extents places after

-- each in turn was placed at the lowest address with room
abbrev pub ArePlaced : Layout → List Extent → List Place → Layout → Type 0
ArePlaced m extents places after = ArePlacedBy at_lowest m extents places after

-- no address has room for an extent
abbrev pub HasNoRoomFor : Layout → Extent → Type 0
HasNoRoomFor m e = (address : ℕ) → IsRoom m e.size e.alignment address → ⊥

-- the first extent has no place by a rule: no address has room, or the given one hasn't
abbrev pub HasNoPlaceBy : Rule → Layout → Extent → Type 0
HasNoPlaceBy at_lowest m e = HasNoRoomFor m e
HasNoPlaceBy (at_given []) m e = Unit {0}
HasNoPlaceBy (at_given (address ∷ addresses)) m e = IsRoom m e.size e.alignment address → ⊥

-- one of some extents has no place by a rule after those before it
abbrev pub LackPlaceBy : Rule → Layout → List Extent → Type 0
LackPlaceBy rule m [] = ⊥
LackPlaceBy rule m (e ∷ extents) = HasNoPlaceBy rule m e ⊎ ((p : Place) × IsPlaceBy rule m e p × LackPlaceBy (rule_after rule 1) (with_new m p) extents)

-- one of some extents finds no room after those before it
abbrev pub LackRoom : Layout → List Extent → Type 0
LackRoom m extents = LackPlaceBy at_lowest m extents

-- memory without instances and reserved ranges
abbrev pub empty_memory : ℕ → ℕ → Layout
empty_memory granule limit = record { granule = granule; limit = limit; instances = []; reserved = [] }

-- memory without instances and reserved ranges, if no granule was asked for
abbrev pub no_instances : ℕ → Layout
no_instances limit = empty_memory grain limit

-- place k
abbrev pub place_at : List Place → ℕ → Place
place_at places k = slice_index_or places k (record { address = 0; size = 0 })

-- instances are at some places, each with the bytes that are given for its number
abbrev pub Stand : Layout → List Place → (ℕ → List ℕ) → Type 0
Stand m places bytes = (k : ℕ) → k < length places → bytes_at m.instances (place_at places k).address ≡ Some (bytes k)

-- the bytes of a new instance at place k: zeros
abbrev pub zeros_at : List Place → ℕ → List ℕ
zeros_at places k = replicate (place_at places k).size 0

-- an instance of the place's size is at each of some places
abbrev pub AreHeld : Layout → List Place → Type 0
AreHeld m places = All (λ p. IsTrue (holds_place m p)) places

-- no two places have the same address
abbrev pub AreApart : List Place → Type 0
AreApart places = (j k : ℕ) → j < k → k < length places → (place_at places j).address ≢ (place_at places k).address

-- memory without the instances at some places
abbrev pub given_back : Layout → List Place → Layout
given_back m [] = m
given_back m (p ∷ places) = given_back (with_instances m (without m.instances p.address)) places

-- memory with one new instance more
abbrev pub with_one : Layout → Place → List ℕ → Layout
with_one m p bytes = with_instances m (with_instance m.instances (record { address = p.address; bytes = bytes }))

-- memory with a new instance at each of some places, each with the bytes that are given for its number
abbrev pub with_filled : Layout → List Place → (ℕ → List ℕ) → Layout
with_filled m [] bytes = m
with_filled m (p ∷ places) bytes = with_filled (with_one m p (bytes 0)) places (λ k. bytes (suc k))

-- new instances of some extents were placed in a memory, in order, by a rule, and each has the bytes that are given for its
-- number. That gave another memory
pub record ArePlacedWith (rule : Rule) (m : Layout) (extents : List Extent) (bytes : ℕ → List ℕ) (places : List Place) (after : Layout) : Type 0 where
  pub empty : Layout
  pub placed : ArePlacedBy rule m extents places empty
  pub lengths : (k : ℕ) → k < length places → length (bytes k) ≡ (place_at places k).size
  pub filled : after ≡ with_filled m places bytes
