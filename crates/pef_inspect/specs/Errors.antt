-- All errors of some bytes as a container, in the order in which a listing and a preparation find the first one. How much is
-- verified is bounded (this project's own).
use Rattle.std.specs.Prelude.{ℕ, ◌&&◌, List, [], ◌∷◌, ◌++◌, Option, None, Some, Result, Ok, Err, length, map, nat_le, nat_lt, if◌then◌else◌}
use Rattle.std.specs.Option.{is_none, option_and_then, option_map, option_map_or}
use Rattle.std.specs.Result.{result_err}
use Rattle.pef_words.specs.Refusals.{◌>>=◌}
use Rattle.pef_format.specs.Sections.{is_packed, kind_of}
use Rattle.pef_format.specs.declared.place.Part.TheVariants as part
use Rattle.pef_views.specs.Container.{Contained}
use Rattle.pef_views.specs.Partial as views
use Rattle.pef_views.specs.Section.{raw_of}
use Rattle.pef_views.specs.declared.fault.ViewFault.{ViewFault}
use Rattle.pef_views.specs.declared.section.SectionHeader.{SectionHeader}
use Rattle.pef_loader.specs.Header.{tables_end}
use Rattle.pef_loader.specs.Loader.{Loaded}
use Rattle.pef_loader.specs.Partial as loader
use Rattle.pef_loader.specs.Partial.{RelocationRow}
use Rattle.pef_loader.specs.Places.{place_of}
use Rattle.pef_loader.specs.declared.fault.LoaderFault.{LoaderFault}
use Rattle.pef_pidata.specs.Pattern.{pattern_text}
use Rattle.pef_pidata.specs.declared.fault.PackFault.{PackFault}
use Rattle.pef_reloc.specs.Unrolled.{program_fault}
use Rattle.pef_reloc.specs.Unrolled.{steps_of}
use Rattle.pef_reloc.specs.Verified.{verified}
use Rattle.pef_reloc.specs.declared.verifying.Sizes.{Sizes}
use Rattle.pef_inspect.specs.Findings.{image_finding, loader_finding, note_finding, program_finding, view_finding}
use Rattle.pef_inspect.specs.Limits.{checked_within, container_limits, within}
use Rattle.pef_inspect.specs.declared.limits.Limits.{Limits}
use Rattle.pef_inspect.specs.declared.note.Note.TheVariants.{ImagesUnverified, ProgramsUnverified}
use Rattle.pef_inspect.specs.declared.finding.Finding.{Finding}

-- the relocation headers: none if one isn't in the loader section
abbrev pub headers_of : Loaded → ℕ
headers_of l = if nat_le (tables_end l.header) (length l.bytes) then l.header.reloc_count else 0

-- the program of relocation header k
abbrev pub program_at : Loaded → ℕ → Option (List ℕ)
program_at l k = option_and_then (λ (r : RelocationRow). r.program) (loader.relocation_row l k)

abbrev pub program_cost : Loaded → ℕ → ℕ
program_cost l k = option_map_or length (program_at l k) 0

-- the error of a program that isn't readable
abbrev pub program_error : Contained → Loaded → ℕ → Option Finding
program_error c l k = option_map (program_finding c k) (option_and_then program_fault (program_at l k))

-- the note that the programs from one on weren't verified
abbrev pub programs_unverified : Contained → ℕ → Finding
programs_unverified c k = note_finding ProgramsUnverified (place_of c part.Relocation k 0)

-- how many programs are read
abbrev pub programs_reached : Limits → Loaded → ℕ
programs_reached limits l = within (program_cost l) limits.program_bytes 0 (headers_of l)

abbrev pub program_errors : Limits → Contained → Loaded → List Finding
program_errors limits c l = checked_within (program_cost l) (program_error c l) (programs_unverified c) limits.program_bytes (headers_of l)

-- section i, if it is pattern-initialized and all its raw bytes are there
abbrev pub packed_at : Contained → ℕ → Option SectionHeader
packed_at c i = views.header_in c i >>= (λ s. if is_packed (kind_of s.section_kind) && nat_le s.packed_size (length (raw_of c.bytes s)) then Some s else None)

abbrev pub image_cost : Contained → ℕ → ℕ
image_cost c i = option_map_or (λ (s : SectionHeader). s.packed_size) (packed_at c i) 0

-- why the packed data of a section doesn't spell its image
abbrev pub image_fault : Contained → SectionHeader → Option PackFault
image_fault c s = result_err (pattern_text (raw_of c.bytes s) s.unpacked_size)

abbrev pub image_error : Contained → ℕ → Option Finding
image_error c i = option_map (image_finding c i) (option_and_then (image_fault c) (packed_at c i))

abbrev pub images_unverified : Contained → ℕ → Finding
images_unverified c i = note_finding ImagesUnverified (place_of c part.Section i 16)

abbrev pub image_errors : Limits → Contained → List Finding
image_errors limits c = checked_within (image_cost c) (image_error c) (images_unverified c) limits.packed_bytes c.header.instantiated_section_count

-- what the relocation of a section is tested against, if the section is instantiated
abbrev pub sizes_at : Contained → Loaded → ℕ → Option Sizes
sizes_at c l section =
    if nat_lt section c.header.instantiated_section_count
    then option_map (λ (s : SectionHeader). record { sections = c.header.instantiated_section_count; imports = l.header.import_count; memory = s.total_size }) (views.header_in c section)
    else None

-- the bytes of a readable program, with the sizes of its section
abbrev pub run_of : Contained → Loaded → RelocationRow → Option (Sizes × List ℕ)
run_of c l r = r.program >>= (λ bytes. if is_none (program_fault bytes) then option_map (λ z. (z, bytes)) (sizes_at c l r.section) else None)

abbrev pub run_at : Contained → Loaded → ℕ → Option (Sizes × List ℕ)
run_at c l k = loader.relocation_row l k >>= run_of c l

abbrev pub run_cost : Contained → Loaded → ℕ → ℕ
run_cost c l k = option_map_or (λ (r : Sizes × List ℕ). steps_of r.1) (run_at c l k) 0

-- the error of a readable program that is refused in its section
abbrev pub run_error : Contained → Loaded → ℕ → Option Finding
run_error c l k = option_map (program_finding c k) (option_and_then (λ (r : Sizes × List ℕ). verified r.0 r.1) (run_at c l k))

abbrev pub run_errors : Limits → Contained → Loaded → List Finding
run_errors limits c l = checked_within (run_cost c l) (run_error c l) (programs_unverified c) limits.steps (programs_reached limits l)

-- the errors of a container whose loader section has a header
abbrev pub loader_errors : Limits → Contained → Loaded → List Finding
loader_errors limits c l = map (loader_finding c) (loader.findings_in l) ++ (program_errors limits c l ++ (image_errors limits c ++ run_errors limits c l))

abbrev pub tables_errors : Limits → Contained → Result Loaded LoaderFault → List Finding
tables_errors limits c (Ok l) = loader_errors limits c l
tables_errors limits c (Err f) = loader_finding c f ∷ image_errors limits c

-- the errors that follow those of the container itself
abbrev pub behind_errors : Limits → Contained → List Finding
behind_errors limits c =
    if is_none (views.found_loader c.bytes c.header) then image_errors limits c
    else tables_errors limits c (loader.partial_of (views.sections_allowed c) c.loader)

-- the errors of a container with a header
abbrev pub errors_in : Limits → Contained → List Finding
errors_in limits c = map view_finding (views.findings_in c) ++ behind_errors limits c

abbrev pub opened_errors : Limits → Result Contained ViewFault → List Finding
opened_errors limits (Ok c) = errors_in limits c
opened_errors limits (Err f) = view_finding f ∷ []

-- all errors, and a note where the verification of programs or of packed data ended at a limit. If this list is empty, the
-- container is sound, whatever the limits are
unfoldable pub errors_within : Limits → List ℕ → List Finding
errors_within limits bytes = opened_errors limits (views.partial_of bytes)

-- the errors of some bytes within the limits for one container
unfoldable pub errors_of : List ℕ → List Finding
errors_of bytes = errors_within container_limits bytes
