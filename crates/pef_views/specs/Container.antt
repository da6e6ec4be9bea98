-- Which bytes are a container and what it consists of, or the first refusal (Mac OS Runtime Architectures,
-- "PEF Structure", container header, section headers, section name table and section contents).
use Rattle.std.specs.Prelude.{◌≡◌, ℕ, ℤ, pos, negsuc, ◌+◌, ◌≤◌, false, Bool, List, Option, None, Some, option_map, Result, Ok, Err, IsTrue, nat_lt, length, if◌then◌else◌}
use Rattle.std.specs.Option.{option_map_or, option_or}
use Rattle.pef_words.specs.Bytes.{name_at}
use Rattle.pef_words.specs.Refusals.{◌>>=◌, first_met, first_among, unless}
use Rattle.pef_format.specs.Sections.{is_instantiable, is_loader, is_packed, kind_of}
use Rattle.pef_views.specs.declared.header.Header.{Header}
use Rattle.pef_views.specs.declared.section.SectionHeader.{SectionHeader}
use Rattle.pef_views.specs.declared.fault.ViewFault.{ViewFault}
use Rattle.pef_views.specs.declared.fault.ViewFault.TheVariants.{TooShort, NoLoader}
use Rattle.pef_views.specs.Header.{header_of, header_tests, names_from}
use Rattle.pef_views.specs.Section.{section_at, section_tests, raw_of, greatest_alignment}

-- a container: its bytes, its header and the raw bytes of its loader section
pub record Contained : Type 0 where
  pub bytes : List ℕ
  pub header : Header
  pub loader : List ℕ

-- the first instantiated_section_count sections are instantiated (instSectionCount)
abbrev pub is_instantiated : Header → ℕ → Bool
is_instantiated h i = nat_lt i h.instantiated_section_count

-- the refusal of section i
abbrev pub section_refusal : List ℕ → Header → ℕ → Option ViewFault
section_refusal bytes h i =
    option_map_or (λ s. first_met (section_tests i (is_instantiated h i) s (length bytes))) (section_at bytes i) (Some TooShort)

-- the raw bytes of section i, if it is a loader section that isn't instantiated
abbrev pub loader_here : List ℕ → Header → ℕ → Option (List ℕ)
loader_here bytes h i =
    if is_instantiated h i then None
    else section_at bytes i >>= (λ s. if is_loader (kind_of s.section_kind) then Some (raw_of bytes s) else None)

-- the first of the loader sections that aren't instantiated
abbrev pub loader_of : List ℕ → Header → Option (List ℕ)
loader_of bytes h = first_among (loader_here bytes h) 0 h.section_count

-- the number of section i, if it is a loader section
abbrev pub loader_row_at : List ℕ → ℕ → Option ℕ
loader_row_at bytes i = section_at bytes i >>= (λ s. if is_loader (kind_of s.section_kind) then Some i else None)

-- the number of section i, if it is a loader section that isn't instantiated
abbrev pub behind_row_at : List ℕ → Header → ℕ → Option ℕ
behind_row_at bytes h i = if is_instantiated h i then None else loader_row_at bytes i

-- the number of the first of all loader sections, whether they are instantiated or not
abbrev pub any_row : List ℕ → Header → Option ℕ
any_row bytes h = first_among (loader_row_at bytes) 0 h.section_count

-- the header of the first of all loader sections
abbrev pub any_loader : List ℕ → Header → Option SectionHeader
any_loader bytes h = any_row bytes h >>= section_at bytes

-- what the container consists of, if it has a loader section
abbrev pub with_loader : List ℕ → Header → Option (List ℕ) → Result Contained ViewFault
with_loader bytes h None = Err NoLoader
with_loader bytes h (Some loader) = Ok (record { bytes = bytes; header = h; loader = loader })

-- bytes with a header: the first refusal of the header's tests, of the sections' in turn, and of the
-- loader section's, or what the container consists of
abbrev pub judged : List ℕ → Header → Result Contained ViewFault
judged bytes h = unless (first_met (header_tests h (length bytes)))
    (unless (first_among (section_refusal bytes h) 0 h.section_count)
    (with_loader bytes h (loader_of bytes h)))

-- the first refusal, or what the container consists of
unfoldable pub container_of : List ℕ → Result Contained ViewFault
container_of bytes = option_map_or (judged bytes) (header_of bytes) (Err TooShort)

-- the container is what its own bytes are read as
abbrev pub IsContainer : Contained → Type 0
IsContainer c = container_of c.bytes ≡ Ok c

-- the number of the loader section. If each one is instantiated, which no container has, it is the first of them
unfoldable pub loader_row_of : Contained → Option ℕ
loader_row_of c = option_or (first_among (behind_row_at c.bytes c.header) 0 c.header.section_count) (any_row c.bytes c.header)

-- where the loader section begins
unfoldable pub loader_offset_of : Contained → Option ℕ
loader_offset_of c = loader_row_of c >>= (λ i. option_map (λ s. s.container_offset) (section_at c.bytes i))

-- a section: its header and its raw bytes
pub record Section : Type 0 where
  pub header : SectionHeader
  pub raw : List ℕ

-- the section of a header among some bytes
abbrev pub section_in : List ℕ → SectionHeader → Section
section_in bytes s = record { header = s; raw = raw_of bytes s }

-- section i; none past the last one
unfoldable pub section_of : Contained → ℕ → Option Section
section_of c i =
    if nat_lt i c.header.section_count
    then option_map (section_in c.bytes) (section_at c.bytes i)
    else None

-- the zero-ended name at an offset into the section name table; none at a negative offset
abbrev pub name_in : Contained → ℤ → Option (List ℕ)
name_in c (pos offset) = name_at c.bytes (names_from c.header + offset)
name_in c (negsuc _) = None

-- the name of section i
abbrev pub section_name_of : Contained → ℕ → Option (List ℕ)
section_name_of c i = section_of c i >>= (λ s. name_in c s.header.name_offset)

-- what holds for every instantiated section: its kind may be instantiated, its image fits its memory and can
-- come of its raw bytes, and its alignment can be placed
pub record IsInstantiable (s : Section) : Type 0 where
  pub kind : IsTrue (is_instantiable (kind_of s.header.section_kind))
  pub image : s.header.unpacked_size ≤ s.header.total_size
  pub unpacked : is_packed (kind_of s.header.section_kind) ≡ false → s.header.unpacked_size ≤ length s.raw
  pub alignment : s.header.alignment ≤ greatest_alignment
