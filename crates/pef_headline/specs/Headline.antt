-- The words of the headline: "Every container that the linker writes prepares, wherever its libraries resolve and its
-- sections find room, to exactly the memory that its script describes; and for each section its relocation program has
-- no more halfwords than any repeat-free program that makes the script's fixups, each once and in address order."
use Rattle.std.specs.Prelude.{◌≡◌, ℕ, ◌<◌, true, List, ◌++◌, None, Some, Result, Ok, Err, Contains, slice_get}
use Rattle.cfm_memory.specs.Extents.{Rule, at_given, at_lowest}
use Rattle.cfm_store.specs.Stores.{Pair, pair_of, place_of}
use Rattle.cfm_closure.specs.Fragments.{Fragment, fragment_of}
use Rattle.cfm_closure.specs.Closures.{Closed, closed_of}
use Rattle.cfm_prepare.specs.Addresses.{addresses_of}
use Rattle.cfm_prepare.specs.Fragments.{Present, image_refusal_in, is_present, reloc_refusal_in}
use Rattle.cfm_prepare.specs.Placing.{AreNewBy, IsRuleFor, LacksPlaceBy}
use Rattle.cfm_prepare.specs.Contexts.{ContextState, made_state}
use Rattle.cfm_prepare.specs.Faults.{fault_number, place_fault_number}
use Rattle.cfm_prepare.specs.Options.{Choices}
use Rattle.cfm_prepare.specs.Runs.{Runs, Step}
use Rattle.cfm_prepare.specs.Steps.{IsWithin, MayNotPrepare, MayNotPrepareAt, Prepares, PreparesAt, new_of}
use Rattle.cfm_prepare.specs.declared.fault.PrepareFault.{PrepareFault}
use Rattle.cfm_prepare.specs.declared.place_fault.PlaceFault.{PlaceFault}
use Rattle.pef_script.specs.Script.{DescribedScript, DescribedSection}
use Rattle.pef_headline.specs.Imports.{HasImports}
use Rattle.pef_headline.specs.Least.{HasLeast}
use Rattle.pef_headline.specs.Now.{IsDescribedNow}
use Rattle.pef_headline.specs.Placed.{IsPlacedOrKept, WasPlaced}
use Rattle.pef_write.specs.Linked.{IsLinked, LinkedContainer}

-- "container that the linker writes": place p of a store has the bytes that are linked from the script
pub record HasLinked (pairs : List Pair) (p : ℕ) (script : DescribedScript) : Type 0 where
  pub container : LinkedContainer
  pub linked : IsLinked script container
  pub bytes : (pair_of pairs p).bytes ≡ container.bytes

-- the bytes in place p aren't a container that the linker writes, for any script
abbrev pub IsForeign : List Pair → ℕ → Type 0
IsForeign pairs p = (script : DescribedScript) → HasLinked pairs p script → ⊥

-- the context was made for a store with some choices, and any list of additions, removals, reservations, preparations and closings
-- followed
pub record IsReached (s : ContextState) : Type 0 where
  pub pairs : List Pair
  pub choices : Choices
  pub steps : List Step
  pub run : Runs (made_state pairs choices) steps s

-- "libraries resolve": the store has a root of this name, and the root has a closure
pub record LibrariesResolve (s : ContextState) (name : List ℕ) : Type 0 where
  pub root : ℕ
  pub is : place_of s.pairs name ≡ Some root
  pub closed : Closed
  pub closure : closed_of s.pairs root ≡ Ok closed

-- "sections find room": a connection is left, the fragments of the closure that aren't present yet take no more bytes and
-- steps than the context allows, the rule of placement is for as many sections as they have, and none of them lacks a place by it
pub record SectionsFindPlaces (rule : Rule) (s : ContextState) (closed : Closed) : Type 0 where
  pub left : s.given < s.bounds.connections
  pub within : IsWithin s (new_of s closed)
  pub counted : IsRuleFor rule s.pairs (new_of s closed)
  pub room : (name : List ℕ) → LacksPlaceBy rule s.pairs s.memory (new_of s closed) name → ⊥

-- for `Context::prepare`: each section finds room after those before it
abbrev pub SectionsFindRoom : ContextState → Closed → Type 0
SectionsFindRoom s closed = SectionsFindPlaces at_lowest s closed

-- for `Context::prepare_at`: there is an address for each section, with room after those before it
abbrev pub AddressesHaveRoom : ContextState → Closed → List ℕ → Type 0
AddressesHaveRoom s closed addresses = SectionsFindPlaces (at_given addresses) s closed

-- the others can be prepared: of the fragments of the closure that aren't present yet, none that is foreign has an
-- image that is refused, nor, with all of them in their places by a rule, a relocation header that is refused
pub record OthersAreSoundBy (rule : Rule) (s : ContextState) (closed : Closed) : Type 0 where
  pub images : (p : ℕ) → Contains (new_of s closed) p → IsForeign s.pairs p → image_refusal_in s.pairs p ≡ None
  pub headers : (fresh : List Present) (f : Present) → AreNewBy rule s.pairs s.memory (new_of s closed) fresh → Contains fresh f → IsForeign s.pairs f.position
      → reloc_refusal_in s.pairs (addresses_of s.pairs (s.present ++ fresh) f) f.position ≡ None

abbrev pub OthersAreSound : ContextState → Closed → Type 0
OthersAreSound s closed = OthersAreSoundBy at_lowest s closed

-- what `Context::prepare` may return for a name, and the context afterwards, in the words of its own clauses
abbrev pub MayAnswer : ContextState → List ℕ → Result ℕ PrepareFault → ContextState → Type 0
MayAnswer s name (Ok number) t = Prepares s name number t
MayAnswer s name (Err fault) t = MayNotPrepare s name fault × (t ≡ s)

-- the same of `Context::prepare_at`
abbrev pub MayAnswerAt : ContextState → List ℕ → List ℕ → Result ℕ PlaceFault → ContextState → Type 0
MayAnswerAt s name addresses (Ok number) t = PreparesAt s name addresses number t
MayAnswerAt s name addresses (Err fault) t = MayNotPrepareAt s name addresses fault × (t ≡ s)

-- "exactly the memory that its script describes": the fragment in place p is present, with this memory. Its imports
-- are those of the script by their names, so the addresses of their targets are those that the script means
pub record HasDescribedMemory (s : ContextState) (p : ℕ) (script : DescribedScript) : Type 0 where
  pub present : is_present s.present p ≡ true
  pub imports : HasImports s.pairs p script
  pub memory : IsDescribedNow s.pairs s script p

-- "prepares": the result is the next connection, and the fragment in place p has the described memory afterwards. Its
-- sections were placed by the rule in the memory that this preparation has for it, or keep their places
pub record IsDescribedAfter (rule : Rule) (s : ContextState) (number : ℕ) (t : ContextState) (p : ℕ) (script : DescribedScript) : Type 0 where
  pub next : number ≡ s.given
  pub has : HasDescribedMemory t p script
  pub placed : IsPlacedOrKept rule s t p has.memory.before has.memory.rule

-- so it is after `Context::prepare`. Or the result is 99, the refusal for a failed allocation, and the context is unchanged
abbrev pub PreparesAsDescribed : ContextState → Result ℕ PrepareFault → ContextState → ℕ → DescribedScript → Type 0
PreparesAsDescribed s (Ok number) t p script = IsDescribedAfter at_lowest s number t p script
PreparesAsDescribed s (Err fault) t p script = (fault_number fault ≡ 99) × (t ≡ s)

-- the same of `Context::prepare_at`
abbrev pub PreparesAtAsDescribed : ContextState → List ℕ → Result ℕ PlaceFault → ContextState → ℕ → DescribedScript → Type 0
PreparesAtAsDescribed s addresses (Ok number) t p script = IsDescribedAfter (at_given addresses) s number t p script
PreparesAtAsDescribed s addresses (Err fault) t p script = (place_fault_number fault ≡ 99) × (t ≡ s)

-- as long as the fragment in place p is present, it has the described memory. Its sections were placed by the last step
-- before which it wasn't present
pub record StaysAsDescribed (s : ContextState) (reached : IsReached s) (p : ℕ) (script : DescribedScript) : Type 0 where
  pub described : HasDescribedMemory s p script
  pub placed : WasPlaced reached.steps (made_state reached.pairs reached.choices) s reached.run p described.memory.before described.memory.rule

-- "for each section its relocation program ..": the bytes in place p are read as a container with a loader section, and
-- that has a least program for each section of the script
pub record HasLeastPrograms (pairs : List Pair) (p : ℕ) (script : DescribedScript) (linked : HasLinked pairs p script) : Type 0 where
  pub fragment : Fragment
  pub read : fragment_of pairs p ≡ Ok fragment
  pub least : (k : ℕ) (section : DescribedSection) → slice_get script.sections k ≡ Some section → HasLeast linked.linked.certificates fragment.loader k section.fixups
