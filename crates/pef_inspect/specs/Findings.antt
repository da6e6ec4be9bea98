-- Findings: errors and notes with their places.
use Rattle.std.specs.Prelude.{ℕ, ◌==◌, ◌||◌, Bool, true, false, List, Option, None, Some, length, nat_lt, if◌then◌else◌}
use Rattle.std.specs.Option.{option_map_or, unwrap_or}
use Rattle.pef_format.specs.declared.place.Part.TheVariants as part
use Rattle.pef_format.specs.declared.place.Place.{Place}
use Rattle.pef_views.specs.Container.{Contained, loader_offset_of, loader_row_of}
use Rattle.pef_views.specs.Faults as view
use Rattle.pef_views.specs.declared.fault.ViewFault.{ViewFault}
use Rattle.pef_loader.specs.Faults as loader
use Rattle.pef_loader.specs.Places.{place_of}
use Rattle.pef_loader.specs.Programs.{program_place}
use Rattle.pef_loader.specs.declared.fault.LoaderFault.{LoaderFault}
use Rattle.pef_loader.specs.declared.fault.LoaderFault.TheVariants.{LoaderShort}
use Rattle.pef_pidata.specs.Faults as pack
use Rattle.pef_pidata.specs.declared.fault.PackFault.{PackFault}
use Rattle.pef_reloc.specs.Faults as reloc
use Rattle.pef_reloc.specs.declared.fault.RelocFault.{RelocFault}
use Rattle.pef_inspect.specs.Notes.{note_name, note_number}
use Rattle.pef_inspect.specs.declared.note.Note.{Note}
use Rattle.pef_inspect.specs.declared.finding.Cause.{Cause}
use Rattle.pef_inspect.specs.declared.finding.Cause.TheVariants as cause
use Rattle.pef_inspect.specs.declared.finding.Finding.{Finding}

abbrev pub cause_number : Cause → ℕ
cause_number (cause.View f) = view.fault_number f
cause_number (cause.Loader f) = loader.fault_number f
cause_number (cause.Pack f) = pack.fault_number f
cause_number (cause.Reloc f) = reloc.fault_number f
cause_number (cause.Note n) = note_number n

abbrev pub cause_name : Cause → List ℕ
cause_name (cause.View f) = view.fault_name f
cause_name (cause.Loader f) = loader.fault_name f
cause_name (cause.Pack f) = pack.fault_name f
cause_name (cause.Reloc f) = reloc.fault_name f
cause_name (cause.Note n) = note_name n

abbrev pub is_fault : Cause → Bool
is_fault (cause.View f) = true
is_fault (cause.Loader f) = true
is_fault (cause.Pack f) = true
is_fault (cause.Reloc f) = true
is_fault (cause.Note n) = false

abbrev pub finding_number : Finding → ℕ
finding_number f = cause_number f.cause

abbrev pub finding_name : Finding → List ℕ
finding_name f = cause_name f.cause

abbrev pub is_error : Finding → Bool
is_error f = is_fault f.cause

-- a note that programs or packed data weren't verified
abbrev pub is_unverified : Finding → Bool
is_unverified f = finding_number f == 110 || finding_number f == 111

-- the place of a byte of a container
abbrev pub whole_place : ℕ → Place
whole_place offset = record { part = part.Header; row = 0; field = offset; offset = Some offset }

-- an error of a container, which is about its beginning if it is about no field
abbrev pub view_finding : ViewFault → Finding
view_finding f = record { cause = cause.View f; place = unwrap_or (view.fault_place f) (whole_place 0) }

-- the number of the loader section, if it begins at no byte of the container
abbrev pub outside_row : Contained → Option ℕ
outside_row c = if option_map_or (λ from. nat_lt from (length c.bytes)) (loader_offset_of c) false then None else loader_row_of c

-- the section whose containerOffset an error of the loader section is about: if there is no place for a loader header
abbrev pub named_section : Contained → LoaderFault → Option ℕ
named_section c LoaderShort = outside_row c
named_section c f = None

-- an error of the loader section
abbrev pub loader_finding : Contained → LoaderFault → Finding
loader_finding c f = record {
  cause = cause.Loader f;
  place = option_map_or (λ i. place_of c part.Section i 20) (named_section c f) (loader.fault_place c f);
}

-- an error of the packed data of section i
abbrev pub image_finding : Contained → ℕ → PackFault → Finding
image_finding c i f = record { cause = cause.Pack f; place = place_of c part.PackedData i (unwrap_or (pack.fault_offset f) 0) }

-- an error of the program of relocation header k
abbrev pub program_finding : Contained → ℕ → RelocFault → Finding
program_finding c k f = record { cause = cause.Reloc f; place = program_place c k f }

-- a note
abbrev pub note_finding : Note → Place → Finding
note_finding n place = record { cause = cause.Note n; place = place }
