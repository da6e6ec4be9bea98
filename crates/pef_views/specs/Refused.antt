-- Where a container is refused: in the header, or in the first section that breaks a rule, at the field that does.
use Rattle.std.specs.Prelude.{◌≡◌, ℕ, ◌^◌, ◌<◌, List, length, None, Some, Err}
use Rattle.pef_words.specs.Bytes.{number_at}
use Rattle.pef_words.specs.Refusals.{◌>>=◌, first_met}
use Rattle.pef_views.specs.Container.{container_of, section_refusal}
use Rattle.pef_views.specs.Faults.{fault_offset}
use Rattle.pef_views.specs.Header.{header_of, header_tests}
use Rattle.pef_views.specs.Section.{section_at}
use Rattle.pef_views.specs.declared.header.Header.{Header}
use Rattle.pef_views.specs.declared.section.SectionHeader.{SectionHeader}
use Rattle.pef_views.specs.declared.fault.ViewFault.{ViewFault}
use Rattle.pef_views.specs.declared.fault.ViewFault.TheVariants.{TooShort, BadTag, BadArchitecture, BadFormatVersion, BadSectionCounts, SectionOutside, BadSectionKind, BadSizes, BadAlignment, NoLoader}

-- the number of so many bytes at a refusal's offset is the value of a field
abbrev pub HasField : List ℕ → ViewFault → ℕ → ℕ → Type 0
HasField bytes fault size value = (fault_offset fault >>= number_at size bytes) ≡ Some value

-- the first rule of the header that is broken is this one, at a field of four or two bytes
pub record IsOfHeader (bytes : List ℕ) (fault : ViewFault) (size : ℕ) (field : Header → ℕ) : Type 0 where
  pub header : Header
  pub read : header_of bytes ≡ Some header
  pub refused : first_met (header_tests header (length bytes)) ≡ Some fault
  pub here : HasField bytes fault size (field header)

-- the first section that breaks a rule is this one, and this is the first rule that it breaks, at a field of so many bytes
pub record IsOfSection (bytes : List ℕ) (fault : ViewFault) (section size : ℕ) (field : SectionHeader → ℕ) : Type 0 where
  pub header : Header
  pub read : header_of bytes ≡ Some header
  pub below : section < header.section_count
  pub before : (k : ℕ) → k < section → section_refusal bytes header k ≡ None
  pub refused : section_refusal bytes header section ≡ Some fault
  pub fields : SectionHeader
  pub there : section_at bytes section ≡ Some fields
  pub here : HasField bytes fault size (field fields)

-- the place of a refusal is that of what is refused. A container that is too short, or has no loader section, is refused as a whole
abbrev pub IsPlaced : List ℕ → ViewFault → Type 0
IsPlaced bytes TooShort = fault_offset TooShort ≡ None
IsPlaced bytes BadTag = IsOfHeader bytes BadTag 4 (λ h. h.tag_1)
IsPlaced bytes BadArchitecture = IsOfHeader bytes BadArchitecture 4 (λ h. h.architecture)
IsPlaced bytes BadFormatVersion = IsOfHeader bytes BadFormatVersion 4 (λ h. h.format_version)
IsPlaced bytes BadSectionCounts = IsOfHeader bytes BadSectionCounts 2 (λ h. h.instantiated_section_count)
IsPlaced bytes (SectionOutside i) = IsOfSection bytes (SectionOutside i) i 4 (λ s. s.container_offset)
IsPlaced bytes (BadSectionKind i) = IsOfSection bytes (BadSectionKind i) i 1 (λ s. s.section_kind)
IsPlaced bytes (BadSizes i) = IsOfSection bytes (BadSizes i) i 4 (λ s. s.unpacked_size)
IsPlaced bytes (BadAlignment i) = IsOfSection bytes (BadAlignment i) i 1 (λ s. s.alignment)
IsPlaced bytes NoLoader = fault_offset NoLoader ≡ None

abbrev pub RefusalsHavePlaces : Type 0
RefusalsHavePlaces = (bytes : List ℕ) (fault : ViewFault) → length bytes < 2 ^ 64 → container_of bytes ≡ Err fault → IsPlaced bytes fault
