-- The steps of a context: a fragment is added or prepared, addresses are reserved or given back, or a connection is closed; and why a fragment isn't added or
-- prepared. The order of the refusals is this project's own rule.
use Rattle.std.specs.Prelude.{◌≡◌, ◌⊎◌, IsSome, ◌≤◌, ◌<◌, ℕ, ◌+◌, List, [], ◌∷◌, ◌++◌, None, Some, Ok, false, true}
use Rattle.cfm_memory.specs.Extents.{Rule, at_given, at_lowest}
use Rattle.cfm_memory.specs.Instances.{Layout}
use Rattle.cfm_memory.specs.Reservation.{Reserves, Unreserves}
use Rattle.cfm_store.specs.Additions.{has_room}
use Rattle.cfm_closure.specs.Additions.{NamesLibrary}
use Rattle.cfm_store.specs.Stores.{pair_of, place_of}
use Rattle.cfm_closure.specs.Faults.{FailsAs}
use Rattle.cfm_closure.specs.Closures.{Closed, closed_of}
use Rattle.cfm_prepare.specs.Bounds.{AreWithin, PassesAt, bytes_in, steps_in}
use Rattle.cfm_prepare.specs.Fragments.{Present, all_given_back, new_among}
use Rattle.cfm_prepare.specs.Placing.{ArePreparedBy, IsRuleFor}
use Rattle.cfm_prepare.specs.Refusals.{MayNotPrepareNewBy}
use Rattle.cfm_prepare.specs.declared.fragment_fault.FragmentFault.{FragmentFault}
use Rattle.cfm_prepare.specs.Contexts.{ContextState, Open, added, needed_of, open_of, open_without, opened, unneeded_of}
use Rattle.cfm_prepare.specs.declared.add_fault.AddFault.{AddFault}
use Rattle.cfm_prepare.specs.declared.add_fault.AddFault.TheVariants as add
use Rattle.cfm_prepare.specs.declared.fault.PrepareFault.{PrepareFault}
use Rattle.cfm_prepare.specs.declared.fault.PrepareFault.TheVariants as fault
use Rattle.cfm_prepare.specs.declared.place_fault.PlaceFault.{PlaceFault}
use Rattle.cfm_prepare.specs.declared.place_fault.PlaceFault.TheVariants as place

-- the closure of an open connection has a fragment with a library entry of this name
abbrev pub AnyNames : List Open → List ℕ → Type 0
AnyNames [] name = ⊥
AnyNames (o ∷ os) name = NamesLibrary o.closed.pairs o.closed.order name ⊎ AnyNames os name

-- a pair with this name can be added: the store has one already, or no open connection's closure lacks it
abbrev pub MayAdd : ContextState → List ℕ → Type 0
MayAdd s name = IsSome (place_of s.pairs name) ⊎ (AnyNames s.connections name → ⊥)

-- a fragment is added to the store
pub record Adds (s : ContextState) (name bytes : List ℕ) (t : ContextState) : Type 0 where
  pub may : MayAdd s name
  pub is : t ≡ added s name bytes

-- why a fragment isn't added: an open connection's closure lacks it, or else the store has no place for it, or an
-- allocation fails
abbrev pub MayNotAdd : ContextState → List ℕ → AddFault → Type 0
MayNotAdd s name add.AddedTooLate = (place_of s.pairs name ≡ None) × AnyNames s.connections name
MayNotAdd s name add.StoreFull = MayAdd s name × (has_room s.pairs name ≡ false)
MayNotAdd s name add.OutOfMemory = MayAdd s name × (has_room s.pairs name ≡ true)

-- some bytes from an address on are taken out of use, and nothing else changes
pub record TakesOut (s : ContextState) (address size : ℕ) (t : ContextState) : Type 0 where
  pub memory : Layout
  pub reserves : Reserves s.memory address size memory
  pub is : t ≡ record s { memory = memory }

-- some bytes from an address on that were out of use aren't any more, and nothing else changes
pub record PutsBack (s : ContextState) (address size : ℕ) (t : ContextState) : Type 0 where
  pub memory : Layout
  pub frees : Unreserves s.memory address size memory
  pub is : t ≡ record s { memory = memory }

-- a number is left, and the fragment with a name is in this place
pub record HasRoot (s : ContextState) (name : List ℕ) : Type 0 where
  pub left : s.given < s.bounds.connections
  pub root : ℕ
  pub is : place_of s.pairs name ≡ Some root

-- a number is left, the fragment with a name is in this place, and it has a closure
pub record HasClosure (s : ContextState) (name : List ℕ) : Type 0 where
  pub has : HasRoot s name
  pub closed : Closed
  pub is : closed_of s.pairs has.root ≡ Ok closed

-- the fragments of a closure that aren't present
abbrev pub new_of : ContextState → Closed → List ℕ
new_of s c = new_among s.present c.order

-- new fragments take no more bytes and steps than the context allows
pub record IsWithin (s : ContextState) (new : List ℕ) : Type 0 where
  pub bytes : AreWithin s.bounds.bytes (bytes_in s.pairs s.memory.granule) new
  pub steps : AreWithin s.bounds.steps (steps_in s.pairs) new

-- a connection with the next number is opened: the fragments of its closure that weren't present are prepared, their
-- sections placed by a rule
pub record PreparesBy (rule : Rule) (s : ContextState) (name : List ℕ) (n : ℕ) (t : ContextState) : Type 0 where
  pub closure : HasClosure s name
  pub within : IsWithin s (new_of s closure.closed)
  pub counted : IsRuleFor rule s.pairs (new_of s closure.closed)
  pub fresh : List Present
  pub prepared : ArePreparedBy rule s.pairs s.present s.memory (new_of s closure.closed) fresh t.memory
  pub number : n ≡ s.given
  pub bounds : t.bounds ≡ s.bounds
  pub pairs : t.pairs ≡ s.pairs
  pub given : t.given ≡ s.given + 1
  pub connections : t.connections ≡ s.connections ++ opened s closure.has.root closure.closed ∷ []
  pub present : t.present ≡ s.present ++ fresh

-- each section is placed at the lowest address with room
abbrev pub Prepares : ContextState → List ℕ → ℕ → ContextState → Type 0
Prepares s name n t = PreparesBy at_lowest s name n t

-- each section is placed at the next of some addresses
abbrev pub PreparesAt : ContextState → List ℕ → List ℕ → ℕ → ContextState → Type 0
PreparesAt s name addresses n t = PreparesBy (at_given addresses) s name n t

-- the fragment has a closure, and with the fragment of this name its new fragments take more bytes than the context allows
pub record TakesBytes (s : ContextState) (name fragment : List ℕ) : Type 0 where
  pub closure : HasClosure s name
  pub position : ℕ
  pub passes : PassesAt s.bounds.bytes (bytes_in s.pairs s.memory.granule) (new_of s closure.closed) position
  pub is : fragment ≡ (pair_of s.pairs position).name

-- the new fragments take no more bytes than the context allows, and with the fragment of this name more steps
pub record TakesSteps (s : ContextState) (name fragment : List ℕ) : Type 0 where
  pub closure : HasClosure s name
  pub bytes : AreWithin s.bounds.bytes (bytes_in s.pairs s.memory.granule) (new_of s closure.closed)
  pub position : ℕ
  pub passes : PassesAt s.bounds.steps (steps_in s.pairs) (new_of s closure.closed) position
  pub is : fragment ≡ (pair_of s.pairs position).name

-- the fragment has a closure, whose new fragments take no more than the context allows, and aren't prepared, their sections
-- placed by a rule
pub record IsRefusedLateBy (rule : Rule) (s : ContextState) (name : List ℕ) (f : FragmentFault) : Type 0 where
  pub closure : HasClosure s name
  pub within : IsWithin s (new_of s closure.closed)
  pub counted : IsRuleFor rule s.pairs (new_of s closure.closed)
  pub why : MayNotPrepareNewBy rule s.pairs s.present s.memory (new_of s closure.closed) f

-- each section is placed at the lowest address with room
abbrev pub IsRefusedLate : ContextState → List ℕ → FragmentFault → Type 0
IsRefusedLate s name f = IsRefusedLateBy at_lowest s name f

-- why a fragment isn't prepared: all numbers were given, or else the name isn't in the store, or else it has
-- no closure, or else its new fragments take too many bytes, or else too many steps, or else they can't be prepared by a rule.
-- An allocation may fail after the first two
abbrev pub MayNotPrepareBy : Rule → ContextState → List ℕ → PrepareFault → Type 0
MayNotPrepareBy rule s name fault.TooManyConnections = s.bounds.connections ≤ s.given
MayNotPrepareBy rule s name fault.RootMissing = (s.given < s.bounds.connections) × (place_of s.pairs name ≡ None)
MayNotPrepareBy rule s name (fault.Bind f) = (has : HasRoot s name) × FailsAs f (closed_of s.pairs has.root)
MayNotPrepareBy rule s name (fault.TooManyBytes f) = TakesBytes s name f.now
MayNotPrepareBy rule s name (fault.TooManyStepsInAll f) = TakesSteps s name f.now
MayNotPrepareBy rule s name (fault.Fragment f) = IsRefusedLateBy rule s name f
MayNotPrepareBy rule s name fault.OutOfMemory = HasRoot s name

-- each section is placed at the lowest address with room
abbrev pub MayNotPrepare : ContextState → List ℕ → PrepareFault → Type 0
MayNotPrepare s name f = MayNotPrepareBy at_lowest s name f

-- the fragment has a closure, whose new fragments take no more than the context allows, and have another number of sections
-- than there are addresses
pub record IsMiscounted (s : ContextState) (name addresses : List ℕ) : Type 0 where
  pub closure : HasClosure s name
  pub within : IsWithin s (new_of s closure.closed)
  pub not : IsRuleFor (at_given addresses) s.pairs (new_of s closure.closed) → ⊥

-- why a fragment isn't prepared at some addresses: there are too many or too few of them for its new fragments, which take no
-- more than the context allows; or one of the other reasons
abbrev pub MayNotPrepareAt : ContextState → List ℕ → List ℕ → PlaceFault → Type 0
MayNotPrepareAt s name addresses place.WrongAddressCount = IsMiscounted s name addresses
MayNotPrepareAt s name addresses (place.Prepare f) = MayNotPrepareBy (at_given addresses) s name f

-- an open connection is closed: the fragments that no other connection's closure has are released
pub record Closes (s : ContextState) (number : ℕ) (t : ContextState) : Type 0 where
  pub closed : Open
  pub was : open_of s.connections number ≡ Some closed
  pub bounds : t.bounds ≡ s.bounds
  pub pairs : t.pairs ≡ s.pairs
  pub given : t.given ≡ s.given
  pub connections : t.connections ≡ open_without s.connections number
  pub present : t.present ≡ needed_of t.connections s.present
  pub memory : t.memory ≡ all_given_back s.memory (unneeded_of t.connections s.present)
