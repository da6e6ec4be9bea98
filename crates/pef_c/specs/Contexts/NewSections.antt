-- What the calls return and write that ask which sections a preparation would place.
use Rattle.std.specs.Prelude.{◌≡◌, ◌==◌, ℕ, List, Option, None, Some, MatchBool, length, option_map, slice_get}
use Rattle.cfm_prepare.specs.Contexts.{ContextState}
use Rattle.cfm_prepare.specs.Faults.{fault_number}
use Rattle.cfm_prepare.specs.NewSections.{AreNewSections, MayNotTellSections}
use Rattle.cfm_prepare.specs.declared.fault.PrepareFault.{PrepareFault}
use Rattle.cfm_prepare.specs.declared.new_sections.NewSection.{NewSection}
use Rattle.pef_c.specs.Contexts.Context.{Names, fault_names}
use Rattle.pef_faults.specs.Places.{fault_place}
use Rattle.pef_faults.specs.declared.fault.Fault.TheVariants.{Prepare}
use Rattle.pef_records.specs.Buffers.{filled, fitting}
use Rattle.pef_records.specs.Places.{place_or_nowhere}
use Rattle.pef_records.specs.declared.structs.PefNewSection.{PefNewSection}
use Rattle.pef_records.specs.declared.structs.PefPlace.{PefPlace}

-- a section as C sees it
abbrev pub section_row : NewSection → PefNewSection
section_row s = record { fragment = s.fragment; section = s.section; kind = s.section_kind; share = s.share_kind; size = s.size; alignment = s.alignment }

-- row k of some sections
abbrev pub section_at : List NewSection → ℕ → Option PefNewSection
section_at sections k = option_map section_row (slice_get sections k)

-- 0, and the sections from a number on are in the first places, and counted; or why they can't be told, with its names and its
-- place, and nothing else is written
abbrev pub TellsSectionsIn : List ℕ → ContextState → ℕ → List PefNewSection → List PefNewSection → ℕ → ℕ → Names → Names → PefPlace → PefPlace → ℕ → Type 0
TellsSectionsIn name s from old new before after here there place placed answer =
    MatchBool (answer == 0)
    ((sections : List NewSection) × AreNewSections s name sections × (after ≡ fitting (length sections) from (length old)) × (new ≡ filled (section_at sections) from after old) × (there ≡ here) × (placed ≡ place))
    ((new ≡ old) × (after ≡ before) × ((fault : PrepareFault) × MayNotTellSections s name fault × (answer ≡ fault_number fault) × (there ≡ fault_names fault) × (placed ≡ place_or_nowhere (fault_place (Prepare fault)))))

-- what `pef_new_sections_with_place` returns and writes: 202, and nothing is written, if the context isn't open
abbrev pub PlacedNewSectionsAnswers : List ℕ → Option ContextState → ℕ → List PefNewSection → List PefNewSection → ℕ → ℕ → Names → Names → PefPlace → PefPlace → ℕ → Type 0
PlacedNewSectionsAnswers name None from old new before after here there place placed answer = (answer ≡ 202) × (new ≡ old) × (after ≡ before) × (there ≡ here) × (placed ≡ place)
PlacedNewSectionsAnswers name (Some s) from old new before after here there place placed answer = TellsSectionsIn name s from old new before after here there place placed answer

-- .. and `pef_new_sections`, which writes no place
abbrev pub NewSectionsAnswers : List ℕ → Option ContextState → ℕ → List PefNewSection → List PefNewSection → ℕ → ℕ → Names → Names → ℕ → Type 0
NewSectionsAnswers name s from old new before after here there answer =
    (placed : PefPlace) × PlacedNewSectionsAnswers name s from old new before after here there (place_or_nowhere None) placed answer
