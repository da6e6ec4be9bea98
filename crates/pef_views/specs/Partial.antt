-- What can be read of bytes that needn't be a container, and all faults that they have.
use Rattle.std.specs.Prelude.{ℕ, ◌&&◌, List, [], ◌∷◌, ◌++◌, Bool, Option, None, Result, Ok, Err, length, nat_lt, option_map, if◌then◌else◌}
use Rattle.std.specs.Option.{is_none, is_some, option_map_or, option_or, unwrap_or}
use Rattle.pef_words.specs.Findings.{all_among, all_met, found_in}
use Rattle.pef_words.specs.Refusals.{◌>>=◌, first_met, unless}
use Rattle.pef_views.specs.declared.header.Header.{Header}
use Rattle.pef_views.specs.declared.section.SectionHeader.{SectionHeader}
use Rattle.pef_views.specs.declared.fault.ViewFault.{ViewFault}
use Rattle.pef_views.specs.declared.fault.ViewFault.TheVariants.{TooShort, NoLoader}
use Rattle.pef_views.specs.Header.{field_tests, header_of, tag_tests}
use Rattle.pef_views.specs.Section.{raw_of, section_at, section_tests}
use Rattle.pef_views.specs.Container.{Contained, any_loader, is_instantiated, loader_of, name_in}

-- the raw bytes of the loader section: the first that isn't instantiated, and if there is none, the first of all
abbrev pub found_loader : List ℕ → Header → Option (List ℕ)
found_loader bytes h = option_or (loader_of bytes h) (option_map (raw_of bytes) (any_loader bytes h))

-- bytes with a header, whatever else is wrong. The loader section is empty if there is none
abbrev pub opened : List ℕ → Header → Contained
opened bytes h = record { bytes = bytes; header = h; loader = unwrap_or (found_loader bytes h) [] }

-- the loader section counts as instantiated: so the instantiated sections aren't the first ones
unfoldable pub is_out_of_order : Contained → Bool
is_out_of_order c = is_none (loader_of c.bytes c.header) && is_some (found_loader c.bytes c.header)

-- the sections that a row of the loader section may name: the instantiated ones, and if those aren't the first ones, each
-- that there is
unfoldable pub sections_allowed : Contained → ℕ
sections_allowed c = if is_out_of_order c then c.header.section_count else c.header.instantiated_section_count

-- what can be read of some bytes, or why nothing can: they are too short for a header, or have another tag
unfoldable pub partial_of : List ℕ → Result Contained ViewFault
partial_of bytes = option_map_or (λ h. unless (first_met (tag_tests h)) (Ok (opened bytes h))) (header_of bytes) (Err TooShort)

-- the header of section i, if it is in the bytes
abbrev pub header_in : Contained → ℕ → Option SectionHeader
header_in c i = if nat_lt i c.header.section_count then section_at c.bytes i else None

-- the name of section i, if its header is in the bytes
abbrev pub name_of_section : Contained → ℕ → Option (List ℕ)
name_of_section c i = header_in c i >>= (λ s. name_in c s.name_offset)

-- the tests of section i, if its header is in the bytes
abbrev pub tests_of_section : Contained → ℕ → Option (List (Bool × ViewFault))
tests_of_section c i = option_map (λ s. section_tests i (is_instantiated c.header i) s (length c.bytes)) (header_in c i)

-- the test of the loader section
abbrev pub loader_tests : Contained → List (Bool × ViewFault)
loader_tests c = (is_none (loader_of c.bytes c.header), NoLoader) ∷ []

-- the faults of section i
abbrev pub section_findings : Contained → ℕ → List ViewFault
section_findings c i = option_map_or all_met (tests_of_section c i) []

-- the faults of the fields of the header, of each section in turn, and of the loader section
abbrev pub findings_in : Contained → List ViewFault
findings_in c = all_met (field_tests c.header (length c.bytes))
    ++ (all_among (section_findings c) 0 c.header.section_count ++ all_met (loader_tests c))

-- all faults of some bytes as a container, in the order in which the first of them is reported
unfoldable pub findings_of : List ℕ → List ViewFault
findings_of bytes = found_in findings_in (partial_of bytes)
