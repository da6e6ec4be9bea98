-- The headline, phrase by phrase, from the facts of memory, refusals and least programs.
use Rattle.std.proofs.Common.{◌≡◌, ℕ, true, List, None, Result, Ok, Err, Contains, sym, subst}
use Rattle.cfm_closure.specs.Closures.{Closed}
use Rattle.cfm_memory.specs.Extents.{ArePlacedBy, Rule, at_given, at_lowest}
use Rattle.cfm_memory.specs.Instances.{Layout}
use Rattle.cfm_prepare.specs.Addresses.{addresses_of}
use Rattle.cfm_prepare.specs.Fragments.{Present, extents_in, image_refusal_in, is_present, reloc_refusal_in}
use Rattle.cfm_store.specs.Stores.{Pair}
use Rattle.cfm_prepare.specs.Contexts.{ContextState}
use Rattle.cfm_prepare.specs.Steps.{HasClosure, MayNotPrepareBy, PreparesBy, new_of}
use Rattle.cfm_prepare.specs.Faults.{fault_number}
use Rattle.cfm_prepare.specs.Placing.{IsRuleFor}
use Rattle.cfm_prepare.proofs.Laws.{same-closed}
use Rattle.cfm_prepare.specs.declared.place_fault.PlaceFault.{PlaceFault}
use Rattle.cfm_prepare.specs.declared.place_fault.PlaceFault.TheVariants as place
use Rattle.cfm_prepare.specs.declared.fault.PrepareFault.{PrepareFault}
use Rattle.pef_script.specs.Script.{DescribedScript}
use Rattle.pef_headline.specs.Headline.{AddressesHaveRoom, HasDescribedMemory, HasLeastPrograms, HasLinked, IsDescribedAfter, IsReached, LibrariesResolve, MayAnswer, MayAnswerAt, OthersAreSound, OthersAreSoundBy, PreparesAsDescribed, PreparesAtAsDescribed, SectionsFindPlaces, SectionsFindRoom, StaysAsDescribed}
use Rattle.pef_headline.specs.Placed.{IsPlacedOrKept}
use Rattle.pef_headline.proofs.ImportLemmas.{imports-described}
use Rattle.pef_headline.proofs.LeastLemmas.{linked_least}
use Rattle.pef_headline.proofs.NowLemmas.{closure-described, linked-filled, linked-read, linked-relocated, present-described}
use Rattle.pef_headline.proofs.RefusedLemmas.{refused-bound}

-- a present fragment has the described memory
pub headline-present : (script : DescribedScript) (s : ContextState) (p : ℕ) (reached : IsReached s) → HasLinked s.pairs p script → is_present s.present p ≡ true → StaysAsDescribed s reached p script
headline-present script s p reached linked is =
    let now = present-described script linked.container reached.pairs reached.choices reached.steps s p linked.linked linked.bytes reached.run is in
    record {
      described = record { present = is; imports = imports-described script linked.container linked.linked s.pairs p linked.bytes; memory = now.0 };
      placed = now.1;
    }

-- and so has the closure's fragment after a preparation
pub prepared-present : (rule : Rule) (script : DescribedScript) (s t : ContextState) (name : List ℕ) (number p : ℕ) → IsReached s → HasLinked s.pairs p script → (step : PreparesBy rule s name number t) → Contains step.closure.closed.order p
    → (has : HasDescribedMemory t p script) × IsPlacedOrKept rule s t p has.memory.before has.memory.rule
prepared-present rule script s t name number p reached linked step there =
    let here : HasLinked t.pairs p script = subst (λ pairs. HasLinked pairs p script) (sym step.pairs) linked in
    let now = closure-described rule script here.container reached.pairs reached.choices reached.steps s t name number p here.linked here.bytes reached.run step there in
    (record { present = now.0; imports = imports-described script here.container here.linked t.pairs p here.bytes; memory = now.1 }, now.2)

-- what a preparation by a rule gives, if its conditions are met
module _ (rule : Rule) (script : DescribedScript) (s t : ContextState) (name : List ℕ) (p : ℕ) (reached : IsReached s) (linked : HasLinked s.pairs p script) (resolve : LibrariesResolve s name) (there : Contains resolve.closed.order p)
    (rooms : SectionsFindPlaces rule s resolve.closed) (sound : OthersAreSoundBy rule s resolve.closed) where
  abbrev has-closure : HasClosure s name
  has-closure = record { has = record { left = rooms.left; root = resolve.root; is = resolve.is }; closed = resolve.closed; is = resolve.closure }

  described-after : (number : ℕ) → PreparesBy rule s name number t → IsDescribedAfter rule s number t p script
  described-after number step =
      let same : resolve.closed ≡ step.closure.closed = same-closed s name has-closure step.closure in
      let has = prepared-present rule script s t name number p reached linked step (subst (λ (c : Closed). Contains c.order p) same there) in
      record { next = step.number; has = has.0; placed = has.1 }

  refused-after : (fault : PrepareFault) → MayNotPrepareBy rule s name fault → fault_number fault ≡ 99
  refused-after fault why = refused-bound rule s name has-closure fault rooms.within rooms.room sound why

pub headline-prepares : (script : DescribedScript) (s t : ContextState) (name : List ℕ) (p : ℕ) (answer : Result ℕ PrepareFault) → IsReached s → HasLinked s.pairs p script → (resolve : LibrariesResolve s name) → Contains resolve.closed.order p
    → SectionsFindRoom s resolve.closed → OthersAreSound s resolve.closed → MayAnswer s name answer t → PreparesAsDescribed s answer t p script
headline-prepares script s t name p (Ok number) reached linked resolve there rooms sound step = described-after at_lowest script s t name p reached linked resolve there rooms sound number step
headline-prepares script s t name p (Err fault) reached linked resolve there rooms sound why = (refused-after at_lowest script s t name p reached linked resolve there rooms sound fault why.0, why.1)

-- and at addresses that are given
pub headline-prepares-at : (script : DescribedScript) (s t : ContextState) (name addresses : List ℕ) (p : ℕ) (answer : Result ℕ PlaceFault) → IsReached s → HasLinked s.pairs p script → (resolve : LibrariesResolve s name) → Contains resolve.closed.order p
    → AddressesHaveRoom s resolve.closed addresses → OthersAreSoundBy (at_given addresses) s resolve.closed → MayAnswerAt s name addresses answer t → PreparesAtAsDescribed s addresses answer t p script
headline-prepares-at script s t name addresses p (Ok number) reached linked resolve there rooms sound step = described-after (at_given addresses) script s t name p reached linked resolve there rooms sound number step
headline-prepares-at script s t name addresses p (Err place.WrongAddressCount) reached linked resolve there rooms sound why =
    let closure = has-closure (at_given addresses) script s t name p reached linked resolve there rooms sound in
    absurd (why.0.not (subst (λ (c : Closed). IsRuleFor (at_given addresses) s.pairs (new_of s c)) (same-closed s name closure why.0.closure) rooms.counted))
headline-prepares-at script s t name addresses p (Err (place.Prepare fault)) reached linked resolve there rooms sound why =
    (refused-after (at_given addresses) script s t name p reached linked resolve there rooms sound fault why.0, why.1)

pub headline-least : (script : DescribedScript) (pairs : List Pair) (p : ℕ) (linked : HasLinked pairs p script) → HasLeastPrograms pairs p script linked
headline-least script pairs p linked =
    let read = linked-read script linked.container pairs p linked.linked linked.bytes in
    record { fragment = read.0; read = read.1; least = λ k section there. linked_least script linked.container pairs p read.0 k section linked.linked linked.bytes read.1 there }

-- a linked container isn't one that is refused
pub sound-images : (script : DescribedScript) (pairs : List Pair) (p : ℕ) → HasLinked pairs p script → image_refusal_in pairs p ≡ None
sound-images script pairs p linked = linked-filled script linked.container pairs p linked.linked linked.bytes

pub sound-headers : (script : DescribedScript) (pairs : List Pair) (all : List Present) (f : Present) (rule : Rule) (before after : Layout) → HasLinked pairs f.position script → ArePlacedBy rule before (extents_in pairs f.position) f.places after
    → reloc_refusal_in pairs (addresses_of pairs all f) f.position ≡ None
sound-headers script pairs all f rule before after linked placed = linked-relocated rule script linked.container pairs f.position all before after f.places linked.linked linked.bytes placed
