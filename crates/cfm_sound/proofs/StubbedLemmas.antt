-- With stubs of what they lack, sound containers are prepared, unless room, memory or a bound isn't enough.
use Rattle.std.proofs.Common.{◌≡◌, ℕ, Bool, List, length, None, inl, inr, sym, ap, subst, arith}
use Rattle.std.specs.Prelude.{map}
use Rattle.std.proofs.lemmas.Bool.Decides.{leb_tells}
use Rattle.std.proofs.lemmas.List.{get_or_append_left}
use Rattle.pef_inspect.specs.Sound.{IsSound}
use Rattle.pef_script.specs.declared.parts.Versions.{Versions}
use Rattle.pef_format.specs.Exports.{Export}
use Rattle.pef_write.specs.ExportContainers.{HasExports}
use Rattle.cfm_store.specs.Stores.{Pair, no_pair, pair_of, place_of, shown}
use Rattle.cfm_store.proofs.Laws.{place_of-below}
use Rattle.cfm_closure.specs.Promises.{AllRead}
use Rattle.cfm_memory.specs.Extents.{Rule}
use Rattle.cfm_prepare.specs.Contexts.{ContextState}
use Rattle.cfm_prepare.specs.Steps.{IsRefusedLateBy, MayNotPrepareBy}
use Rattle.cfm_prepare.specs.declared.fault.PrepareFault.{PrepareFault}
use Rattle.cfm_prepare.specs.declared.fault.PrepareFault.TheVariants as fault
use Rattle.cfm_prepare.specs.declared.fragment_fault.FragmentFault.{FragmentFault}
use Rattle.cfm_prepare.specs.declared.fragment_fault.FragmentFault.TheVariants as fragment
use Rattle.cfm_stubs.specs.Added.{AreNumberStubs, added_number, is_added, stub_pair, with_stubs}
use Rattle.cfm_stubs.specs.NumberStubs.{MadeStub}
use Rattle.cfm_stubs.specs.Stubbed.{IsStubbed}
use Rattle.cfm_stubs.proofs.Laws.{added-stubbed, preparation-ends, stub-read, target-number}
use Rattle.cfm_sound.specs.Named.{NamesUnsound}
use Rattle.cfm_sound.specs.Stubbed.{AreSound, Ends, FragmentEnds, StubbedPrepare}
use Rattle.cfm_sound.proofs.NamedLemmas.{pack-unsound, reloc-unsound}
use Rattle.cfm_sound.proofs.SoundLemmas.{sound-read, sound_fragment}

-- a container of exports alone is sound: it has no sections and no programs
exports-sound : (v : Versions) (exports : List Export) (bytes : List ℕ) → HasExports v exports bytes → IsSound bytes
exports-sound v exports bytes has =
    let none : has.container.header.instantiated_section_count ≡ 0 = ap (λ h. h.instantiated_section_count) has.header in
    record {
      container = has.container;
      contained = has.read;
      loader = has.loader;
      loaded = has.loaded;
      images = λ i under. absurd (omega (arith, none, under));
      programs = λ k under. absurd (omega (arith, has.reloc_count, under));
      runs = λ k under. absurd (omega (arith, has.reloc_count, under));
    }

-- sound containers are read
all-read : (pairs : List Pair) → AreSound pairs → AllRead pairs
all-read pairs sound p under = (sound_fragment pairs p (sound p under), sound-read pairs p (sound p under))

module _ (pairs : List Pair) (first step : ℕ) (weak : Bool) (made : List MadeStub) (sound : AreSound pairs) (are : AreNumberStubs pairs first step weak made) where
  abbrev all : List Pair
  all = with_stubs pairs made

  pub stubbed : IsStubbed all (is_added pairs made) (added_number pairs made)
  stubbed = added-stubbed pairs first step weak made (all-read pairs sound) are

  pub all-sound : AreSound all
  all-sound p under =
      elim (leb_tells (length pairs) p) [
        | inl low ↦ (
            let it = stub-read pairs first step weak made (all-read pairs sound) are p low.1 under in
            subst (λ (x : Pair). IsSound x.bytes) (sym it.1) (exports-sound _ it.0.exports it.0.bytes it.2))
        | inr own ↦ (
            let same : pair_of all p ≡ pair_of pairs p = ap shown (get_or_append_left pairs (map stub_pair made) no_pair p own.1) in
            subst (λ (x : Pair). IsSound x.bytes) (sym same) (sound p own.1))
      ]

  -- no fragment is named as one that isn't sound
  none-unsound : (name : List ℕ) → NamesUnsound all name → ⊥
  none-unsound name it = it.unsound (all-sound it.position (place_of-below all name it.position it.is))

  module _ (rule : Rule) (s : ContextState) (asked : List ℕ) (is : s.pairs ≡ all) where
    none-named : (name : List ℕ) → NamesUnsound s.pairs name → ⊥
    none-named name it = none-unsound name (subst (λ pairs. NamesUnsound pairs name) is it)

    fragment-ends : (f : FragmentFault) → IsRefusedLateBy rule s asked f → FragmentEnds f
    fragment-ends (fragment.NoRoom f place) late = tt
    fragment-ends (fragment.Pack f k place) late = none-named f.now (pack-unsound rule s asked f k place late)
    fragment-ends (fragment.Reloc f k section place) late = none-named f.now (reloc-unsound rule s asked f k section place late)
    fragment-ends fragment.OutOfMemory late = tt

    stubs-of : IsStubbed s.pairs (is_added pairs made) (added_number pairs made)
    stubs-of = subst (λ ps. IsStubbed ps (is_added pairs made) (added_number pairs made)) (sym is) stubbed

    pub ends : (f : PrepareFault) → (place_of s.pairs asked ≡ None → ⊥) → MayNotPrepareBy rule s asked f → Ends s.pairs (is_added pairs made) f
    ends fault.TooManyConnections there why = tt
    ends fault.RootMissing there why = there why.1
    ends (fault.Bind f) there why = preparation-ends rule s asked (fault.Bind f) (is_added pairs made) (added_number pairs made) stubs-of why
    ends (fault.TooManyBytes f) there why = tt
    ends (fault.TooManyStepsInAll f) there why = tt
    ends (fault.Fragment f) there why = fragment-ends f why
    ends fault.OutOfMemory there why = tt

pub stubbed_prepare : StubbedPrepare
stubbed_prepare = record {
  ends = λ pairs first step weak made rule s asked f sound are is there why. ends pairs first step weak made sound are rule s asked is f there why;
  sound = λ pairs first step weak made sound are. all-sound pairs first step weak made sound are;
  numbers = λ pairs first step weak made p j q f i sound are read import names stub. target-number (with_stubs pairs made) (is_added pairs made) (added_number pairs made) (stubbed pairs first step weak made sound are) p j q f i read import names stub;
}
