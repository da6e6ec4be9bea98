-- What is printed of the members of a table of fragments: for each its name, what it is for, where its container is in the
-- file, and all other fields.
use Rattle.std.specs.Prelude.{ℕ, ◌+◌, Bool, true, false, List, [], ◌∷◌, ◌++◌, Option, None, Some, Result, Ok, Err, codes, decimal, length}
use Rattle.std.specs.Option.{unwrap_or}
use Rattle.byteorder.specs.Endian.{big_bytes}
use Rattle.cfm_members.specs.Members.{MemberIs, all_members, locator_of, usage_of}
use Rattle.cfm_members.specs.declared.fault.MemberFault.{MemberFault}
use Rattle.cfm_members.specs.declared.member.Locator.{Locator}
use Rattle.cfm_members.specs.declared.member.Locator.TheVariants as locator
use Rattle.cfm_members.specs.declared.member.Usage.{Usage}
use Rattle.cfm_members.specs.declared.member.Usage.TheVariants as usage
use Rattle.pef_ports.specs.Names.{name_text}
use Rattle.pef_ports.specs.Text.{word_text}
use Rattle.pef_rows.specs.Tokens.{at_or_dash, at_text, column_text, member_text, tag_text}
use Rattle.pef_rows.specs.Versions.{version_text}
use Rattle.pef_rows.specs.Objects.{separator}
use Rattle.pef_rows.specs.Tokens.{number_or_null}
use Rattle.mac_rows.specs.MacParts.{MemberTableIs, PlaceIs, elsewhere, lying, missing, place_of}
use Rattle.mac_rows.specs.Sums.{up_to}
use Rattle.mac_rows.specs.declared.output_format.OutputFormat.{OutputFormat}
use Rattle.mac_rows.specs.declared.output_format.OutputFormat.TheVariants.{Text, Json}

-- a member, where it is in the file, and the offset in the file and the length of its container
pub record FragmentIs : Type 0 where
  pub at : ℕ
  pub offset : Option ℕ
  pub size : ℕ
  pub member : MemberIs

-- the offset and the length of a container, if they are known
abbrev pub extent_of : PlaceIs → Option ℕ × ℕ
extent_of elsewhere = (None, 0)
extent_of (missing found) = (None, 0)
extent_of (lying at bytes) = (Some at, length bytes)

abbrev pub fragment_of : MemberTableIs → MemberIs → FragmentIs
fragment_of t m = record {
  at = up_to (t.table_base + m.offset);
  offset = (extent_of (place_of t m)).0;
  size = (extent_of (place_of t m)).1;
  member = m;
}

-- a name, or `?` for one that can't be read
abbrev pub name_or_mark : Result (List ℕ) MemberFault → List ℕ
name_or_mark (Ok name) = column_text name
name_or_mark (Err fault) = codes "?"

abbrev pub name_of : Result (List ℕ) MemberFault → Option (List ℕ)
name_of (Ok name) = Some name
name_of (Err fault) = None

-- the word for what a member is for, if the format names it
abbrev pub usage_word : Usage → Option (List ℕ)
usage_word usage.ImportLibrary = Some (codes "library")
usage_word usage.Application = Some (codes "application")
usage_word usage.DropInAddition = Some (codes "addition")
usage_word usage.StubLibrary = Some (codes "stub")
usage_word usage.WeakStubLibrary = Some (codes "weak-stub")
usage_word (usage.Other code) = None

-- the word for where its container is
abbrev pub where_word : Locator → Option (List ℕ)
where_word locator.Memory = Some (codes "memory")
where_word (locator.DataFork offset len) = Some (codes "data")
where_word (locator.Resource type id) = Some (codes "resource")
where_word (locator.Other code) = None

-- a word, or `?` if there is none
abbrev pub word_or_mark : Option (List ℕ) → List ℕ
word_or_mark word = unwrap_or word (codes "?")

-- the line of a member: where it is, its number and its name
unfoldable pub fragment_name : FragmentIs → List ℕ
fragment_name f = at_text f.at ++ codes " fragment " ++ decimal f.member.member ++ codes " " ++ name_or_mark f.member.name

-- .. its architecture
unfoldable pub architecture_text : ℕ → List ℕ
architecture_text n = codes " architecture " ++ name_text (big_bytes 4 n)

-- .. what it is for, and where its container is
unfoldable pub fragment_use : FragmentIs → List ℕ
fragment_use f =
    codes " usage "
    ++ decimal f.member.header.usage_code ++ codes " " ++ word_or_mark (usage_word (usage_of f.member.header.usage_code))
    ++ codes " where " ++ decimal f.member.header.where_code ++ codes " "
    ++ word_or_mark (where_word (locator_of f.member.header)) ++ codes " container "
    ++ at_or_dash f.offset ++ codes " size " ++ decimal f.size

-- .. and its other fields
unfoldable pub fragment_numbers : FragmentIs → List ℕ
fragment_numbers f =
    codes " versions " ++ version_text f.member.header.current_version ++ codes " "
    ++ version_text f.member.header.old_def_version ++ codes " current " ++ decimal f.member.header.current_version
    ++ codes " olddef " ++ decimal f.member.header.old_def_version ++ codes " level " ++ decimal f.member.header.update_level
    ++ codes " stack " ++ decimal f.member.header.stack_size ++ codes " directory "
    ++ decimal f.member.header.directory_or_flags ++ codes " place " ++ word_text f.member.header.offset
    ++ codes " length " ++ decimal f.member.header.length ++ codes " space " ++ decimal f.member.header.space_id
    ++ codes " instance " ++ decimal f.member.header.fork_instance ++ codes " extensions "
    ++ decimal f.member.header.extension_count ++ codes "\n"

abbrev pub fragment_line : FragmentIs → List ℕ
fragment_line f =
    fragment_name f ++ (architecture_text f.member.header.architecture ++ (fragment_use f ++ fragment_numbers f))

-- the object of a member: its name, and where its container and the member are
unfoldable pub fragment_place : FragmentIs → List ℕ
fragment_place f =
    codes "{" ++ member_text (codes "name") (name_of f.member.name) ++ codes ",\"offset\":" ++ number_or_null f.offset
    ++ codes ",\"size\":" ++ decimal f.size ++ codes ",\"row\":" ++ decimal f.member.member ++ codes ",\"at\":"
    ++ decimal f.at ++ codes ",\"architecture\":\"" ++ tag_text f.member.header.architecture

-- .. what it is for, and where its container is
unfoldable pub fragment_codes : FragmentIs → List ℕ
fragment_codes f =
    codes "\",\"usage\":" ++ decimal f.member.header.usage_code ++ codes ","
    ++ member_text (codes "usage_text") (usage_word (usage_of f.member.header.usage_code)) ++ codes ",\"where\":"
    ++ decimal f.member.header.where_code ++ codes "," ++ member_text (codes "where_text") (where_word (locator_of f.member.header))

-- .. its versions
unfoldable pub fragment_versions : FragmentIs → List ℕ
fragment_versions f =
    codes ",\"current\":" ++ decimal f.member.header.current_version ++ codes ",\"current_text\":\""
    ++ version_text f.member.header.current_version ++ codes "\",\"olddef\":" ++ decimal f.member.header.old_def_version
    ++ codes ",\"olddef_text\":\"" ++ version_text f.member.header.old_def_version

-- .. and its other fields
unfoldable pub fragment_fields : FragmentIs → List ℕ
fragment_fields f =
    codes "\",\"level\":" ++ decimal f.member.header.update_level ++ codes ",\"stack\":"
    ++ decimal f.member.header.stack_size ++ codes ",\"directory\":" ++ decimal f.member.header.directory_or_flags
    ++ codes ",\"place\":" ++ decimal f.member.header.offset ++ codes ",\"length\":" ++ decimal f.member.header.length
    ++ codes ",\"space\":" ++ decimal f.member.header.space_id ++ codes ",\"instance\":"
    ++ decimal f.member.header.fork_instance ++ codes ",\"extensions\":" ++ decimal f.member.header.extension_count
    ++ codes "}"

abbrev pub fragment_json : FragmentIs → List ℕ
fragment_json f = fragment_place f ++ (fragment_codes f ++ (fragment_versions f ++ fragment_fields f))

-- what is printed of a member
abbrev pub fragment_text : OutputFormat → Bool → FragmentIs → List ℕ
fragment_text Text is_first f = fragment_line f
fragment_text Json is_first f = separator is_first ++ fragment_json f

-- the member of a row; none if its fields can't be read, which is an error
abbrev pub fragment_in : MemberTableIs → Result MemberIs MemberFault → Option FragmentIs
fragment_in t (Ok m) = Some (fragment_of t m)
fragment_in t (Err fault) = None

abbrev pub maybe_fragment : OutputFormat → Bool → Option FragmentIs → List ℕ
maybe_fragment form is_first None = []
maybe_fragment form is_first (Some f) = fragment_text form is_first f

abbrev pub stays_first : Bool → Option FragmentIs → Bool
stays_first is_first None = is_first
stays_first is_first (Some f) = false

-- what is printed of all members
abbrev pub fragments_text : OutputFormat → Bool → MemberTableIs → List (Result MemberIs MemberFault) → List ℕ
fragments_text form is_first t [] = []
fragments_text form is_first t (row ∷ rows) =
    maybe_fragment form is_first (fragment_in t row) ++ fragments_text form (stays_first is_first (fragment_in t row)) t rows

-- .. of the table of fragments of a file, if there is one
abbrev pub table_text : OutputFormat → Option MemberTableIs → List ℕ
table_text form None = []
table_text form (Some t) = fragments_text form true t (all_members t.fragments)
