-- How NAME of `extract` can be written (this project's own): as the bytes of the fragment's name, or as the name is printed, or in
-- UTF-8 by the characters that Mac Roman gives its bytes.
use Rattle.std.specs.Prelude.{ℕ, ◌+◌, ◌/◌, ◌%◌, ◌==◌, ◌||◌, Bool, List, [], ◌∷◌, ◌++◌, Option, None, Some, Result, Ok, Err, nat_lt, if◌then◌else◌}
use Rattle.std.specs.Option.{option_or}
use Rattle.std.specs.Str.{bytes_eq}
use Rattle.cfm_members.specs.Fragments.{container_in_pair, table_in_file}
use Rattle.cfm_members.specs.Members.{MemberIs, TableIs, all_members}
use Rattle.cfm_members.specs.declared.fault.MemberFault.{MemberFault}
use Rattle.cfm_members.specs.declared.member_lookup_fault.MemberLookupFault.{MemberLookupFault}
use Rattle.cfm_members.specs.declared.member_lookup_fault.MemberLookupFault.TheVariants.{NoContainer}
use Rattle.pef_ports.specs.Names.{name_text}
use Rattle.pef_rows.specs.Strings.{character_of}

-- a character below FFFF (hex) in UTF-8 (RFC 3629)
unfoldable pub utf8_of : ℕ → List ℕ
utf8_of c =
    if nat_lt c 0x80 then c ∷ [] else
    if nat_lt c 0x800 then (0xC0 + c / 64) ∷ (0x80 + c % 64) ∷ [] else
    (0xE0 + c / 4096) ∷ (0x80 + c / 64 % 64) ∷ (0x80 + c % 64) ∷ []

-- a name in Mac Roman as UTF-8
abbrev pub utf8_text : List ℕ → List ℕ
utf8_text [] = []
utf8_text (b ∷ name) = utf8_of (character_of b) ++ utf8_text name

abbrev pub is_spelled : List ℕ → List ℕ → Bool
is_spelled asked name = bytes_eq (name_text name) asked || bytes_eq (utf8_text name) asked

-- the name of a member that isn't for CFM-68K, if it can be written so
abbrev pub spelled_name : List ℕ → Result (List ℕ) MemberFault → Option (List ℕ)
spelled_name asked (Ok name) = if is_spelled asked name then Some name else None
spelled_name asked (Err fault) = None

abbrev pub spelled_here : List ℕ → Result MemberIs MemberFault → Option (List ℕ)
spelled_here asked (Ok m) = if m.header.architecture == 0x6D36_386B then None else spelled_name asked m.name
spelled_here asked (Err fault) = None

-- the first such name
abbrev pub first_spelled : List ℕ → List (Result MemberIs MemberFault) → Option (List ℕ)
first_spelled asked [] = None
first_spelled asked (row ∷ rows) = option_or (spelled_here asked row) (first_spelled asked rows)

-- .. in the table of a file
abbrev pub spelled_in : List ℕ → Result TableIs MemberLookupFault → Option (List ℕ)
spelled_in asked (Ok table) = first_spelled asked (all_members table)
spelled_in asked (Err fault) = None

-- the container of the fragment with a name, or if there is none, of the first one whose name can be written so
abbrev pub container_of_name : List ℕ → List ℕ → Option (List ℕ) → Result (List ℕ) MemberLookupFault
container_of_name bytes resources None = Err NoContainer
container_of_name bytes resources (Some name) = container_in_pair bytes resources name

abbrev pub or_spelled : List ℕ → List ℕ → List ℕ → Result (List ℕ) MemberLookupFault → Result (List ℕ) MemberLookupFault
or_spelled bytes resources asked (Err NoContainer) = container_of_name bytes resources (spelled_in asked (table_in_file resources))
or_spelled bytes resources asked found = found

abbrev pub container_asked : List ℕ → List ℕ → List ℕ → Result (List ℕ) MemberLookupFault
container_asked bytes resources asked = or_spelled bytes resources asked (container_in_pair bytes resources asked)
