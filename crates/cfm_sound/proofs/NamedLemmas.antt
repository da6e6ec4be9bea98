-- If a preparation reports an error of a fragment's bytes, an error is found in them.
use Rattle.std.proofs.Common.{◌≡◌, ◌∙◌, ℕ, ◌≤◌, List, ◌++◌, None, Some, Ok, Err, Contains, inl, inr, sym, ap, subst, arith}
use Rattle.std.specs.Borrow.{Bor}
use Rattle.std.proofs.lemmas.List.Elements.{All-contains}
use Rattle.pef_format.specs.declared.place.Place.{Place}
use Rattle.pef_pidata.specs.declared.fault.PackFault.{PackFault}
use Rattle.pef_reloc.specs.declared.fault.RelocFault.{RelocFault}
use Rattle.cfm_store.specs.Stores.{Pair, pair_of, place_of}
use Rattle.cfm_closure.specs.Closures.{closed_of}
use Rattle.cfm_closure.specs.Faults.{BindRefusal, FailsAs, no_container, no_loader}
use Rattle.cfm_closure.specs.Faults as binds
use Rattle.cfm_closure.specs.Promises.{IsOfUnread}
use Rattle.cfm_closure.specs.declared.fault.BindFault.{BindFault}
use Rattle.cfm_closure.specs.declared.fault.BindFault.TheVariants as bind
use Rattle.cfm_store.proofs.Laws.{place_of-below, place_of-named}
use Rattle.cfm_closure.proofs.Laws.{closed-met, closed-no_container, closed-no_loader}
use Rattle.cfm_memory.specs.Extents.{Rule}
use Rattle.cfm_prepare.specs.Addresses.{addresses_of}
use Rattle.cfm_prepare.specs.Contexts.{ContextState}
use Rattle.cfm_prepare.specs.Faults.{fault_number}
use Rattle.cfm_prepare.specs.FragmentFaults as fragments
use Rattle.cfm_prepare.specs.Fragments.{image_refusal_in, reloc_refusal_in}
use Rattle.cfm_prepare.specs.Refusals.{HasBadImageBy, HasBadProgramBy}
use Rattle.cfm_prepare.specs.Steps.{HasClosure, IsRefusedLateBy, MayNotPrepareBy, new_of}
use Rattle.cfm_prepare.specs.declared.fault.PrepareFault.{PrepareFault}
use Rattle.cfm_prepare.specs.declared.fault.PrepareFault.TheVariants as fault
use Rattle.cfm_prepare.specs.declared.fragment_fault.FragmentFault.{FragmentFault}
use Rattle.cfm_prepare.specs.declared.fragment_fault.FragmentFault.TheVariants as fragment
use Rattle.cfm_sections.specs.declared.image_fault.ImageFault.{ImageFault}
use Rattle.cfm_prepare.proofs.Laws.{bad-image, bad-program, new-members}
use Rattle.pef_loader.specs.declared.program_fault.ProgramFault.{ProgramFault}
use Rattle.pef_inspect.specs.Sound.{IsSound}
use Rattle.pef_inspect.proofs.Laws.{no_errors_within_sound}
use Rattle.cfm_sound.specs.Named.{BindingNames, FragmentNames, Names, NamesUnsound}
use Rattle.cfm_sound.proofs.SoundLemmas.{sound-filled, sound-read, sound-relocated, sound_fragment}

-- in a container that isn't sound something is found within any limits
names-unsound : (pairs : List Pair) (name : List ℕ) (p : ℕ) → place_of pairs name ≡ Some p → (IsSound (pair_of pairs p).bytes → ⊥) → NamesUnsound pairs name
names-unsound pairs name p is unsound = record { position = p; is = is; unsound = unsound; found = λ limits none. unsound (no_errors_within_sound limits (pair_of pairs p).bytes none) }

-- a fragment that isn't read
unread : (pairs : List Pair) (root : ℕ) (asked name : List ℕ) (r : BindRefusal) → place_of pairs asked ≡ Some root → IsOfUnread pairs root name r → NamesUnsound pairs name
unread pairs root asked name r is of = names-unsound pairs name of.position
    (elim of.found [
      | inl same ↦ (let P : ℕ → Type 0 = λ p. (pair_of pairs p).name ≡ name in
          ap (place_of pairs) (sym (subst P same of.named) ∙ place_of-named pairs asked root is) ∙ is ∙ ap Some (sym same))
      | inr first ↦ first
    ])
    (λ sound. (let both : Ok (sound_fragment pairs of.position sound) ≡ Err r = sym (sound-read pairs of.position sound) ∙ of.refused in
    absurd (cc both)))

-- a new fragment of a closure is the one that its name means
new-first : (s : ContextState) (asked : List ℕ) (closure : HasClosure s asked) (p : ℕ) → Contains (new_of s closure.closed) p → place_of s.pairs (pair_of s.pairs p).name ≡ Some p
new-first s asked closure p there =
    let root = closure.has.root in
    let is = closure.has.is in
    elim (closed-met s.pairs root closure.closed p (place_of-below s.pairs asked root is) closure.is (All-contains (Contains closure.closed.order) (new_of s closure.closed) p (new-members s.present closure.closed.order) there)) [
      | inl same ↦ (let P : ℕ → Type 0 = λ q. place_of s.pairs (pair_of s.pairs q).name ≡ Some q in
          subst P (sym same) (ap (place_of s.pairs) (place_of-named s.pairs asked root is) ∙ is))
      | inr first ↦ first
    ]

-- one whose image is refused
unfilled : {rule : Rule} (s : ContextState) (asked name : List ℕ) (closure : HasClosure s asked) (k : ImageFault) → HasBadImageBy rule s.pairs s.memory (new_of s closure.closed) name k → NamesUnsound s.pairs name
unfilled s asked name closure k bad =
    let r = bad-image s.pairs bad.fresh name k bad.first in
    let there = subst (λ ps. Contains ps r.position) bad.are.are r.member in
    names-unsound s.pairs name r.position (ap (place_of s.pairs) r.is ∙ new-first s asked closure r.position there)
    (λ sound. (let filled : image_refusal_in s.pairs r.position ≡ None = sound-filled s.pairs r.position sound in
    let refused : image_refusal_in s.pairs r.position ≡ Some r.fault = r.refused in
    absurd (cc (filled, refused))))

-- .. or a relocation header
unrelocated : {rule : Rule} (s : ContextState) (asked name : List ℕ) (closure : HasClosure s asked) (k : ProgramFault) → HasBadProgramBy rule s.pairs s.present s.memory (new_of s closure.closed) name k → NamesUnsound s.pairs name
unrelocated {rule} s asked name closure k bad =
    let all = s.present ++ bad.fresh in
    let r = bad-program rule s.pairs all s.memory bad.are.empty bad.fresh name k bad.are.placed bad.first in
    let there = subst (λ ps. Contains ps r.one.position) bad.are.are r.position in
    names-unsound s.pairs name r.one.position (ap (place_of s.pairs) r.is ∙ new-first s asked closure r.one.position there)
    (λ sound. (let relocated : reloc_refusal_in s.pairs (addresses_of s.pairs all r.one) r.one.position ≡ None = sound-relocated s.pairs r.one.position sound r.rule all r.before r.after r.one.places r.placed in
    let refused : reloc_refusal_in s.pairs (addresses_of s.pairs all r.one) r.one.position ≡ Some r.fault = r.refused in
    absurd (cc (relocated, refused))))

names-bound : (s : ContextState) (asked : List ℕ) (root : ℕ) (f : BindFault) → place_of s.pairs asked ≡ Some root → binds.fault_number f ≤ 39 → FailsAs f (closed_of s.pairs root) → BindingNames s.pairs f
names-bound s asked root (bind.Container f v) is low fails = unread s.pairs root asked f.now (no_container f.now v) is (closed-no_container s.pairs root f.now v (place_of-below s.pairs asked root is) fails)
names-bound s asked root (bind.Loader f v place) is low fails = unread s.pairs root asked f.now (no_loader f.now v place) is (closed-no_loader s.pairs root f.now v place (place_of-below s.pairs asked root is) fails)
names-bound s asked root (bind.LibraryMissing f l place) is low fails = absurd (omega (arith, low))
names-bound s asked root (bind.SymbolMissing f l y place) is low fails = absurd (omega (arith, low))
names-bound s asked root (bind.ImplementationTooOld f l place needed found) is low fails = absurd (omega (arith, low))
names-bound s asked root (bind.ImplementationTooNew f l place needed found) is low fails = absurd (omega (arith, low))
names-bound s asked root (bind.ReexportLoop f y place) is low fails = absurd (omega (arith, low))
names-bound s asked root (bind.InitLoop f place) is low fails = absurd (omega (arith, low))
names-bound s asked root bind.OutOfMemory is low fails = absurd (omega (arith, low))

-- an image or a program that is refused is one of a fragment that isn't sound

pub pack-unsound : (rule : Rule) (s : ContextState) (asked : List ℕ) (f : Bor (List ℕ)) (k : PackFault) (place : Place) → IsRefusedLateBy rule s asked (fragment.Pack f k place) → NamesUnsound s.pairs f.now
pack-unsound rule s asked f k place late = unfilled s asked f.now late.closure (record { fault = k; place = place }) late.why

pub reloc-unsound : (rule : Rule) (s : ContextState) (asked : List ℕ) (f : Bor (List ℕ)) (k : RelocFault) (section : ℕ) (place : Place) → IsRefusedLateBy rule s asked (fragment.Reloc f k section place) → NamesUnsound s.pairs f.now
reloc-unsound rule s asked f k section place late = unrelocated s asked f.now late.closure (record { fault = k; section = section; place = place }) late.why

names-late : (rule : Rule) (s : ContextState) (asked : List ℕ) (f : FragmentFault) → fragments.fault_number f ≤ 39 → IsRefusedLateBy rule s asked f → FragmentNames s.pairs f
names-late rule s asked (fragment.NoRoom f place) low late = absurd (omega (arith, low))
names-late rule s asked (fragment.Pack f k place) low late = pack-unsound rule s asked f k place late
names-late rule s asked (fragment.Reloc f k section place) low late = reloc-unsound rule s asked f k section place late
names-late rule s asked fragment.OutOfMemory low late = absurd (omega (arith, low))

pub names_only_unsound : (rule : Rule) (s : ContextState) (asked : List ℕ) (f : PrepareFault) → fault_number f ≤ 39 → MayNotPrepareBy rule s asked f → Names s.pairs f
names_only_unsound rule s asked fault.TooManyConnections low why = absurd (omega (arith, low))
names_only_unsound rule s asked fault.RootMissing low why = absurd (omega (arith, low))
names_only_unsound rule s asked (fault.Bind f) low why = names-bound s asked why.0.root f why.0.is low why.1
names_only_unsound rule s asked (fault.TooManyBytes f) low why = absurd (omega (arith, low))
names_only_unsound rule s asked (fault.TooManyStepsInAll f) low why = absurd (omega (arith, low))
names_only_unsound rule s asked (fault.Fragment f) low why = names-late rule s asked f low why
names_only_unsound rule s asked fault.OutOfMemory low why = absurd (omega (arith, low))
