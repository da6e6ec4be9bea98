-- What the sections of a container hold when they are placed, before packed images are expanded. This order is this
-- project's own rule.
use Rattle.std.specs.Prelude.{ℕ, List, [], if◌then◌else◌, take}
use Rattle.std.specs.Option.{option_map_or}
use Rattle.pef_format.specs.Sections.{is_packed, kind_of}
use Rattle.pef_views.specs.Container.{Contained, Section, section_of}
use Rattle.pef_words.specs.Bytes.{filled}

-- the image that a section is placed with: none if it is packed, since it is expanded later
abbrev pub first_image : Section → List ℕ
first_image s = if is_packed (kind_of s.header.section_kind) then [] else take s.header.unpacked_size s.raw

-- the memory of a section when it is placed
abbrev pub placed_in : Section → List ℕ
placed_in s = filled (first_image s) s.header.total_size

-- the same for section k of a container
abbrev pub placed_at : Contained → ℕ → List ℕ
placed_at c k = option_map_or placed_in (section_of c k) []
