-- If new fragments are refused for an image or a relocation header, one of them has bytes that weren't linked.
use Rattle.std.proofs.Common.{◌≡◌, ℕ, List, ◌++◌, None, Some, Ok, Err, Contains, inl, inr, refl, sym, ap, subst, ◌∙◌, arith}
use Rattle.cfm_store.specs.Stores.{Pair, pair_of, place_of}
use Rattle.cfm_store.proofs.Laws.{place_of-below, place_of-named}
use Rattle.cfm_closure.proofs.Laws.{closed-no_container, closed-no_loader}
use Rattle.cfm_closure.specs.Faults.{BindRefusal, FailsAs, no_container, no_loader}
use Rattle.cfm_closure.specs.Faults as binds
use Rattle.cfm_closure.specs.declared.fault.BindFault.{BindFault}
use Rattle.cfm_closure.specs.declared.fault.BindFault.TheVariants as bind
use Rattle.cfm_closure.specs.Closures.{Closed, closed_of}
use Rattle.cfm_closure.specs.Promises.{IsOfUnread}
use Rattle.cfm_memory.specs.Extents.{Rule}
use Rattle.cfm_memory.specs.Instances.{Layout}
use Rattle.cfm_prepare.specs.Addresses.{addresses_of}
use Rattle.cfm_prepare.specs.Fragments.{Present, image_refusal_in, positions, reloc_refusal_in}
use Rattle.cfm_prepare.specs.Placing.{LacksPlaceBy}
use Rattle.cfm_prepare.specs.Refusals.{HasBadImageBy, HasBadProgramBy}
use Rattle.cfm_prepare.specs.declared.fragment_fault.FragmentFault.TheVariants as fragment
use Rattle.cfm_prepare.proofs.Laws.{HasRefusedHeader, HasRefusedImage, bad-image, bad-program, lacks-room, not-past, same-closed}
use Rattle.cfm_prepare.specs.Contexts.{ContextState}
use Rattle.cfm_prepare.specs.Faults.{fault_number}
use Rattle.cfm_prepare.specs.Bounds.{PassesAt, bytes_in, steps_in}
use Rattle.cfm_prepare.specs.Steps.{HasClosure, HasRoot, IsWithin, MayNotPrepareBy, new_of}
use Rattle.cfm_prepare.specs.declared.fault.PrepareFault.{PrepareFault}
use Rattle.cfm_prepare.specs.declared.fault.PrepareFault.TheVariants as fault
use Rattle.pef_format.specs.declared.place.Place.{Place}
use Rattle.pef_loader.specs.declared.fault.LoaderFault.{LoaderFault}
use Rattle.cfm_sections.specs.declared.image_fault.ImageFault.{ImageFault}
use Rattle.pef_loader.specs.declared.program_fault.ProgramFault.{ProgramFault}
use Rattle.pef_views.specs.declared.fault.ViewFault.{ViewFault}
use Rattle.pef_headline.specs.Headline.{IsForeign, OthersAreSoundBy}
use Rattle.pef_headline.specs.Others.{HasForeign, NamesForeign}
use Rattle.pef_headline.proofs.NowLemmas.{linked-filled, linked-read, linked-relocated}

-- a fragment that is refused isn't linked
image-foreign : (pairs : List Pair) (ps : List ℕ) (name : List ℕ) (r : HasRefusedImage pairs ps name) → IsForeign pairs r.position
image-foreign pairs ps name r script linked =
    let none : image_refusal_in pairs r.position ≡ None = linked-filled script linked.container pairs r.position linked.linked linked.bytes in
    let some : image_refusal_in pairs r.position ≡ Some r.fault = r.refused in
    absurd (cc)

header-foreign : (pairs : List Pair) (all fs : List Present) (name : List ℕ) (r : HasRefusedHeader pairs all fs name) → IsForeign pairs r.one.position
header-foreign pairs all fs name r script linked =
    let none : reloc_refusal_in pairs (addresses_of pairs all r.one) r.one.position ≡ None =
    linked-relocated r.rule script linked.container pairs r.one.position all r.before r.after r.one.places linked.linked linked.bytes r.placed in
    let some : reloc_refusal_in pairs (addresses_of pairs all r.one) r.one.position ≡ Some r.fault = r.refused in
    absurd (cc)

pub refused-image : {rule : Rule} (pairs : List Pair) (m : Layout) (new : List ℕ) (name : List ℕ) (k : ImageFault) → HasBadImageBy rule pairs m new name k → HasForeign pairs new name
refused-image pairs m new name k bad =
    let r = bad-image pairs bad.fresh name k bad.first in
    subst (λ ps. HasForeign pairs ps name) bad.are.are (record { position = r.position; member = r.member; is = r.is; foreign = image-foreign pairs (positions bad.fresh) name r })

pub refused-program : {rule : Rule} (pairs : List Pair) (there : List Present) (m : Layout) (new : List ℕ) (name : List ℕ) (k : ProgramFault) → HasBadProgramBy rule pairs there m new name k → HasForeign pairs new name
refused-program {rule} pairs there m new name k bad =
    let r = bad-program rule pairs (there ++ bad.fresh) m bad.are.empty bad.fresh name k bad.are.placed bad.first in
    subst (λ ps. HasForeign pairs ps name) bad.are.are (record { position = r.one.position; member = r.position; is = r.is; foreign = header-foreign pairs (there ++ bad.fresh) bad.fresh name r })

-- so if the others are sound, none is refused
pub no-image : (rule : Rule) (s : ContextState) (c : Closed) (name : List ℕ) (k : ImageFault) → OthersAreSoundBy rule s c → HasBadImageBy rule s.pairs s.memory (new_of s c) name k → ⊥
no-image rule s c name k sound bad =
    let r = bad-image s.pairs bad.fresh name k bad.first in
    let none : image_refusal_in s.pairs r.position ≡ None = sound.images r.position (subst (λ ps. Contains ps r.position) bad.are.are r.member) (image-foreign s.pairs (positions bad.fresh) name r) in
    let some : image_refusal_in s.pairs r.position ≡ Some r.fault = r.refused in
    absurd (cc)

pub no-header : (rule : Rule) (s : ContextState) (c : Closed) (name : List ℕ) (k : ProgramFault) → OthersAreSoundBy rule s c → HasBadProgramBy rule s.pairs s.present s.memory (new_of s c) name k → ⊥
no-header rule s c name k sound bad =
    let all = s.present ++ bad.fresh in
    let r = bad-program rule s.pairs all s.memory bad.are.empty bad.fresh name k bad.are.placed bad.first in
    let none : reloc_refusal_in s.pairs (addresses_of s.pairs all r.one) r.one.position ≡ None = sound.headers bad.fresh r.one bad.are r.member (header-foreign s.pairs all bad.fresh name r) in
    let some : reloc_refusal_in s.pairs (addresses_of s.pairs all r.one) r.one.position ≡ Some r.fault = r.refused in
    absurd (cc)

-- if a fragment has a closure, it isn't refused for having none
bound : (s : ContextState) (name : List ℕ) (closure : HasClosure s name) (f : BindFault) (has : HasRoot s name) → FailsAs f (closed_of s.pairs has.root) → binds.fault_number f ≡ 99
bound s name closure f has fails = by f (subst (FailsAs f) (ap (closed_of s.pairs) roots ∙ closure.is) fails)
  where
    roots : has.root ≡ closure.has.root
    roots =
        let here : place_of s.pairs name ≡ Some has.root = has.is in
        let there : place_of s.pairs name ≡ Some closure.has.root = closure.has.is in
        cc

    by : (f : BindFault) → FailsAs f (Ok closure.closed) → binds.fault_number f ≡ 99
    by (bind.Container f v) e = absurd (cc)
    by (bind.Loader f v place) e = absurd (cc)
    by (bind.LibraryMissing f l place) e = absurd (cc)
    by (bind.SymbolMissing f l y place) e = absurd (cc)
    by (bind.ImplementationTooOld f l place needed found) e = absurd (cc)
    by (bind.ImplementationTooNew f l place needed found) e = absurd (cc)
    by (bind.ReexportLoop f y place) e = absurd (cc)
    by (bind.InitLoop f place) e = absurd (cc)
    by bind.OutOfMemory e = refl

-- if its libraries resolve, its sections find room and the others are sound, a root is refused only for a failed
-- allocation
pub refused-bound : (rule : Rule) (s : ContextState) (name : List ℕ) (closure : HasClosure s name) (f : PrepareFault) → IsWithin s (new_of s closure.closed) → ((other : List ℕ) → LacksPlaceBy rule s.pairs s.memory (new_of s closure.closed) other → ⊥) → OthersAreSoundBy rule s closure.closed → MayNotPrepareBy rule s name f → fault_number f ≡ 99
refused-bound rule s name closure fault.TooManyConnections within rooms sound why = absurd (omega (arith, why, closure.has.left))
refused-bound rule s name closure fault.RootMissing within rooms sound why = let there : place_of s.pairs name ≡ Some closure.has.root = closure.has.is in let none : place_of s.pairs name ≡ None = why.1 in absurd (cc)
refused-bound rule s name closure (fault.Bind f) within rooms sound why = bound s name closure f why.0 why.1
refused-bound rule s name closure (fault.TooManyBytes f) within rooms sound why =
    let same = same-closed s name why.closure closure in
    let past = subst (λ (c : Closed). PassesAt s.bounds.bytes (bytes_in s.pairs s.memory.granule) (new_of s c) why.position) same why.passes in
    absurd (not-past s.bounds.bytes (bytes_in s.pairs s.memory.granule) (new_of s closure.closed) why.position within.bytes past)
refused-bound rule s name closure (fault.TooManyStepsInAll f) within rooms sound why =
    let same = same-closed s name why.closure closure in
    let past = subst (λ (c : Closed). PassesAt s.bounds.steps (steps_in s.pairs) (new_of s c) why.position) same why.passes in
    absurd (not-past s.bounds.steps (steps_in s.pairs) (new_of s closure.closed) why.position within.steps past)
refused-bound rule s name closure (fault.Fragment (fragment.NoRoom f place)) within rooms sound why =
    let lacks = lacks-room rule s.pairs s.memory (new_of s why.closure.closed) f.now place why.why in
    absurd (rooms f.now (subst (λ (c : Closed). LacksPlaceBy rule s.pairs s.memory (new_of s c) f.now) (same-closed s name why.closure closure) lacks))
refused-bound rule s name closure (fault.Fragment (fragment.Pack f k place)) within rooms sound why =
    let image : ImageFault = record { fault = k; place = place } in
    absurd (no-image rule s closure.closed f.now image sound (subst (λ (c : Closed). HasBadImageBy rule s.pairs s.memory (new_of s c) f.now image) (same-closed s name why.closure closure) why.why))
refused-bound rule s name closure (fault.Fragment (fragment.Reloc f k section place)) within rooms sound why =
    let program : ProgramFault = record { fault = k; section = section; place = place } in
    absurd (no-header rule s closure.closed f.now program sound (subst (λ (c : Closed). HasBadProgramBy rule s.pairs s.present s.memory (new_of s c) f.now program) (same-closed s name why.closure closure) why.why))
refused-bound rule s name closure (fault.Fragment fragment.OutOfMemory) within rooms sound why = refl
refused-bound rule s name closure fault.OutOfMemory within rooms sound why = refl

-- a fragment that isn't read isn't linked, and it is the one that its name means
unread : (pairs : List Pair) (root : ℕ) (asked name : List ℕ) (r : BindRefusal) → place_of pairs asked ≡ Some root → IsOfUnread pairs root name r → NamesForeign pairs name
unread pairs root asked name r is of = record {
  position = of.position;
  is = elim of.found [
    | inl same ↦ (let P : ℕ → Type 0 = λ p. (pair_of pairs p).name ≡ name in
        ap (place_of pairs) (sym (subst P same of.named) ∙ place_of-named pairs asked root is) ∙ is ∙ ap Some (sym same))
    | inr first ↦ first
  ];
  foreign = λ script linked. (let f = linked-read script linked.container pairs of.position linked.linked linked.bytes in let both : Ok f.0 ≡ Err r = sym f.1 ∙ of.refused in absurd (cc));
}

pub refused-container : (s : ContextState) (asked name : List ℕ) (k : ViewFault) (has : HasRoot s asked) → closed_of s.pairs has.root ≡ Err (no_container name k) → NamesForeign s.pairs name
refused-container s asked name k has is = unread s.pairs has.root asked name (no_container name k) has.is (closed-no_container s.pairs has.root name k (place_of-below s.pairs asked has.root has.is) is)

pub refused-loader : (s : ContextState) (asked name : List ℕ) (k : LoaderFault) (place : Place) (has : HasRoot s asked) → closed_of s.pairs has.root ≡ Err (no_loader name k place) → NamesForeign s.pairs name
refused-loader s asked name k place has is = unread s.pairs has.root asked name (no_loader name k place) has.is (closed-no_loader s.pairs has.root name k place (place_of-below s.pairs asked has.root has.is) is)
