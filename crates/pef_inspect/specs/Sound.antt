-- What it means that a container is sound: nothing in it is refused, neither when it is read nor when it is prepared.
use Rattle.std.specs.Prelude.{◌≡◌, ◌⊎◌, ℕ, ◌<◌, ◌≤◌, ◌||◌, Bool, true, false, List, [], ◌∷◌, None, Ok}
use Rattle.std.specs.List.{AllByRecursion}
use Rattle.std.specs.Option.{option_and_then}
use Rattle.pef_views.specs.Container.{Contained, container_of}
use Rattle.pef_loader.specs.Loader.{Loaded, loaded_of}
use Rattle.pef_reloc.specs.Unrolled.{program_fault}
use Rattle.pef_reloc.specs.Verified.{verified}
use Rattle.pef_reloc.specs.declared.verifying.Sizes.{Sizes}
use Rattle.pef_inspect.specs.Errors.{errors_of, errors_within, image_cost, image_fault, images_unverified, packed_at, program_at, program_cost, run_at, run_cost}
use Rattle.pef_inspect.specs.Findings.{is_error, is_unverified}
use Rattle.pef_inspect.specs.Limits.{total}
use Rattle.pef_inspect.specs.More.{AreMoreWithin}
use Rattle.pef_inspect.specs.Oddities.{notes_within}
use Rattle.pef_inspect.specs.declared.finding.Finding.{Finding}
use Rattle.pef_inspect.specs.declared.limits.Limits.{Limits}

-- the bytes are a container, with a loader section; each packed image expands, each program is readable, and each is applied
-- to its section, whatever addresses it is given
pub record IsSound (bytes : List ℕ) : Type 0 where
  pub container : Contained
  pub contained : container_of bytes ≡ Ok container
  pub loader : Loaded
  pub loaded : loaded_of container.header.instantiated_section_count container.loader ≡ Ok loader
  pub images : (i : ℕ) → i < container.header.instantiated_section_count → option_and_then (image_fault container) (packed_at container i) ≡ None
  pub programs : (k : ℕ) → k < loader.header.reloc_count → option_and_then program_fault (program_at loader k) ≡ None
  pub runs : (k : ℕ) → k < loader.header.reloc_count → option_and_then (λ (r : Sizes × List ℕ). verified r.0 r.1) (run_at container loader k) ≡ None

-- if no error is found, and nothing is left unverified, the container is sound
abbrev pub FindsAll : Type 0
FindsAll = (bytes : List ℕ) → errors_of bytes ≡ [] → IsSound bytes

-- if no error is found within some limits, and nothing is left unverified, the container is sound
abbrev pub FindsAllWithin : Type 0
FindsAllWithin = (limits : Limits) (bytes : List ℕ) → errors_within limits bytes ≡ [] → IsSound bytes

-- limits allow all programs of a container, by their bytes and by their steps
pub record FitPrograms (limits : Limits) (c : Contained) (l : Loaded) : Type 0 where
  pub bytes : total (program_cost l) 0 l.header.reloc_count ≤ limits.program_bytes
  pub steps : total (run_cost c l) 0 l.header.reloc_count ≤ limits.steps

-- .. and all its packed data
abbrev pub FitImages : Limits → Contained → Type 0
FitImages limits c = total (image_cost c) 0 c.header.instantiated_section_count ≤ limits.packed_bytes

-- there is nothing, or only the note that packed data weren't verified
abbrev pub OnlyImages : Contained → List Finding → Type 0
OnlyImages c found = (found ≡ []) ⊎ ((i : ℕ) × (found ≡ images_unverified c i ∷ []))

-- no error is found in a sound container, whatever the limits are. Within them nothing is left unverified
pub record NoFalseAlarm : Type 0 where
  pub none : (limits : Limits) (bytes : List ℕ) → IsSound bytes → AllByRecursion (λ f. is_error f ≡ false) (errors_within limits bytes)
  pub programs : (limits : Limits) (bytes : List ℕ) (s : IsSound bytes) → FitPrograms limits s.container s.loader → OnlyImages s.container (errors_within limits bytes)
  pub all : (limits : Limits) (bytes : List ℕ) (s : IsSound bytes) → FitPrograms limits s.container s.loader → FitImages limits s.container → errors_within limits bytes ≡ []

-- what is found among the errors is an error, or the note that something wasn't verified. What is found among the notes is no
-- error
pub record TellsApart : Type 0 where
  pub errors : (limits : Limits) (bytes : List ℕ) → AllByRecursion (λ f. is_error f || is_unverified f ≡ true) (errors_within limits bytes)
  pub notes : (limits : Limits) (bytes : List ℕ) (irregular : Bool) → AllByRecursion (λ f. is_error f ≡ false) (notes_within limits bytes irregular)
  pub more : (limits : Limits) (bytes : List ℕ) (found : List Finding) → AreMoreWithin limits bytes found → AllByRecursion (λ f. is_error f ≡ false) found
