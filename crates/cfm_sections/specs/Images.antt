-- The memory that a container's instantiated sections need, and the bytes that they are filled with (Mac
-- OS Runtime Architectures, "PEF Structure", section headers: totalSize, unpackedSize, alignment; section
-- contents; pattern-initialized data).
use Rattle.std.specs.Prelude.{ℕ, zero, suc, ◌+◌, List, [], ◌∷◌, Option, option_map, Result, Ok, if◌then◌else◌, take}
use Rattle.std.specs.Option.{option_and_then, option_map_or, unwrap_or}
use Rattle.std.specs.Result.{result_err, result_unwrap_or}
use Rattle.cfm_memory.specs.Extents.{Extent}
use Rattle.pef_format.specs.Sections.{is_packed, kind_of}
use Rattle.pef_format.specs.declared.place.Part.TheVariants as part
use Rattle.pef_loader.specs.Places.{place_of}
use Rattle.pef_pidata.specs.Faults.{fault_offset}
use Rattle.pef_pidata.specs.Pattern.{pattern_text}
use Rattle.pef_pidata.specs.declared.fault.PackFault.{PackFault}
use Rattle.pef_views.specs.Container.{Contained, Section, section_of}
use Rattle.pef_words.specs.Bytes.{filled}
use Rattle.pef_words.specs.Refusals.{first_among, result_map}
use Rattle.cfm_sections.specs.declared.image_fault.ImageFault.{ImageFault}

-- the memory that a section needs: its total length, at its alignment
abbrev pub extent_in : Section → Extent
extent_in s = record { size = s.header.total_size; alignment = s.header.alignment }

-- the memory that section k of a container needs
abbrev pub extent_at : Contained → ℕ → Extent
extent_at c k = option_map_or extent_in (section_of c k) (record { size = 0; alignment = 0 })

-- the memory that n sections from a number on need
abbrev pub extents_from : Contained → ℕ → ℕ → List Extent
extents_from c from zero = []
extents_from c from (suc n) = extent_at c from ∷ extents_from c (from + 1) n

-- the memory that a container's instantiated sections need, in the order of their numbers
abbrev pub extents_of : Contained → List Extent
extents_of c = extents_from c 0 c.header.instantiated_section_count

-- the image of a section: for pattern-initialized data the bytes that its raw bytes spell, or why they
-- spell none; otherwise the first of its raw bytes
unfoldable pub image_of : Section → Result (List ℕ) PackFault
image_of s =
    if is_packed (kind_of s.header.section_kind) then pattern_text s.raw s.header.unpacked_size
    else Ok (take s.header.unpacked_size s.raw)

-- the memory of a section before it is relocated: its image, and zeros up to its total length
abbrev pub filled_in : Section → Result (List ℕ) PackFault
filled_in s = result_map (λ image. filled image s.header.total_size) (image_of s)

-- the memory of section k of a container before it is relocated; empty if its image is refused
abbrev pub filled_at : Contained → ℕ → List ℕ
filled_at c k = option_map_or (λ s. result_unwrap_or (filled_in s) []) (section_of c k) []

-- an error of the packed data of section k: at its instruction, or at the beginning
unfoldable pub fault_in_image : Contained → ℕ → PackFault → ImageFault
fault_in_image c k fault = record { fault = fault; place = place_of c part.PackedData k (unwrap_or (fault_offset fault) 0) }

-- why section k of a container can't be filled
abbrev pub image_refusal : Contained → ℕ → Option ImageFault
image_refusal c k = option_and_then (λ s. option_map (fault_in_image c k) (result_err (image_of s))) (section_of c k)

-- the first of these refusals among its n first sections
abbrev pub first_image_refusal : Contained → ℕ → Option ImageFault
first_image_refusal c n = first_among (image_refusal c) 0 n
