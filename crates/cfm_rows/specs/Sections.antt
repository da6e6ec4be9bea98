-- The sections of a prepared fragment as objects of JSON.
use Rattle.std.specs.Prelude.{ℕ, ◌+◌, ◌==◌, List, [], ◌∷◌, ◌++◌, Option, None, Some, codes, decimal, length, unwrap_or}
use Rattle.std.specs.Option.{option_and_then}
use Rattle.cfm_files.specs.Paths.{section_path}
use Rattle.cfm_files.specs.Sections.{fragment_name}
use Rattle.cfm_memory.specs.Instances.{bytes_at}
use Rattle.cfm_memory.specs.declared.place.Place.{Place}
use Rattle.cfm_prepare.specs.Contexts.{ContextState, open_of}
use Rattle.cfm_prepare.specs.Fragments.{places_of}
use Rattle.cfm_prepare.specs.Readers.{section_header_of}
use Rattle.cfm_rows.specs.Encoded.{base64_text}
use Rattle.cfm_rows.specs.declared.sections.SectionBytes.{SectionBytes}
use Rattle.cfm_rows.specs.declared.sections.SectionBytes.TheVariants.{Omitted, Encoded, Filed}
use Rattle.pef_format.specs.Sections.{kind_of, share_of}
use Rattle.pef_rows.specs.Codes.{kind_text, share_text}
use Rattle.pef_rows.specs.Objects.{separator}
use Rattle.pef_rows.specs.Tokens.{path_text}
use Rattle.pef_views.specs.declared.section.SectionHeader.{SectionHeader}

-- what a section is, and how it is shared
unfoldable pub section_kind : SectionHeader → List ℕ
section_kind h =
    codes ",\"kind\":" ++ decimal h.section_kind ++ codes ",\"kind_text\":" ++ kind_text (kind_of h.section_kind)
    ++ codes ",\"share\":" ++ decimal h.share_kind ++ codes ",\"share_text\":" ++ share_text (share_of h.share_kind)

abbrev pub section_kinds : Option SectionHeader → List ℕ
section_kinds None = []
section_kinds (Some h) = section_kind h

-- its number
unfoldable pub section_number : ℕ → List ℕ
section_number i = codes "{\"number\":" ++ decimal i

-- where it is, and how many bytes it has
unfoldable pub section_extent : ℕ → ℕ → List ℕ
section_extent address size = codes ",\"address\":" ++ decimal address ++ codes ",\"size\":" ++ decimal size

-- what objects have of the bytes of sections: nothing, the bytes in base64, or the path of the file in a folder that gets them
pub data BytesShown : Type 0 where
  omitted : BytesShown
  encoded : BytesShown
  filed : List ℕ → BytesShown

abbrev pub bytes_shown : SectionBytes → BytesShown
bytes_shown Omitted = omitted
bytes_shown Encoded = encoded
bytes_shown (Filed folder) = filed folder.now

-- its bytes in base64
unfoldable pub encoded_member : List ℕ → List ℕ
encoded_member bytes = codes ",\"bytes\":\"" ++ (base64_text bytes ++ codes "\"")

-- the path of the file that gets them
unfoldable pub file_member : List ℕ → List ℕ
file_member path = codes ",\"file\":\"" ++ (path_text path ++ codes "\"")

-- what is shown of the bytes of section i of a fragment
abbrev pub bytes_member : BytesShown → List ℕ → ℕ → List ℕ → List ℕ
bytes_member omitted fragment i bytes = []
bytes_member encoded fragment i bytes = encoded_member bytes
bytes_member (filed folder) fragment i bytes = file_member (section_path folder fragment i)

-- a section of a fragment with a name
unfoldable pub section_object : List ℕ → ℕ → Option SectionHeader → ℕ → List ℕ → BytesShown → List ℕ
section_object fragment i header address bytes shown =
    section_number i ++ (section_kinds header ++ (section_extent address (length bytes) ++ (bytes_member shown fragment i bytes ++ codes "}")))

-- the header of section i of a fragment
abbrev pub header_in : ContextState → ℕ → ℕ → ℕ → Option SectionHeader
header_in s number p i = option_and_then (λ o. section_header_of o p i) (open_of s.connections number)

-- section i of a fragment, which has a place, after a comma if it isn't the first
abbrev pub section_element : ContextState → ℕ → ℕ → BytesShown → ℕ → Place → List ℕ
section_element s number p shown i place =
    separator (i == 0) ++ section_object (fragment_name s p) i (header_in s number p i) place.address (unwrap_or (bytes_at s.memory.instances place.address) []) shown

-- its sections from number i on, which have some places
abbrev pub section_elements : ContextState → ℕ → ℕ → BytesShown → ℕ → List Place → List ℕ
section_elements s number p shown i [] = []
section_elements s number p shown i (place ∷ places) =
    section_element s number p shown i place ++ section_elements s number p shown (i + 1) places

-- all its sections
abbrev pub sections_list : ContextState → ℕ → ℕ → BytesShown → List ℕ
sections_list s number p shown = section_elements s number p shown 0 (places_of s.present p)
