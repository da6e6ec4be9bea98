-- What a file in MacBinary, AppleSingle or AppleDouble says of itself besides its forks: the name that it had, what the Finder
-- knows of it, and its dates (MacBinary I, II and III; RFC 1740).
use Rattle.std.specs.Prelude.{ℕ, ℤ, pos, negsuc, ◌+◌, ◌-◌, ◌^◌, ◌==◌, List, [], ◌++◌, Option, None, Some, Result, Ok, Err, codes, decimal, nat_lt, option_map, if◌then◌else◌}
use Rattle.std.specs.Option.{is_some}
use Rattle.byteorder.specs.Endian.{big_bytes}
use Rattle.mac_forks.specs.Apple.{with_dates}
use Rattle.mac_forks.specs.MacFile.{MacFileIs, apple, bare, finder_of_file, mac_binary, mac_file_of, name_in}
use Rattle.mac_forks.specs.Parts.{Lying}
use Rattle.mac_forks.specs.declared.apple.AppleDates.{AppleDates}
use Rattle.mac_forks.specs.declared.fault.ForkFault.{ForkFault}
use Rattle.mac_forks.specs.declared.finder.FinderInfo.{FinderInfo}
use Rattle.cfm_members.specs.Contents.{readable}
use Rattle.pef_ports.specs.Names.{name_text}
use Rattle.pef_rows.specs.Dates.{date_text}
use Rattle.pef_rows.specs.Findings.{shown}
use Rattle.pef_rows.specs.Tokens.{column_text, member_text, number_or_null, tag_text}
use Rattle.mac_rows.specs.declared.record.FileDates.{FileDates}

-- .. each part of it, if the file has it and it can be read
pub record RecordIs : Type 0 where
  pub name : Option (List ℕ)
  pub finder : Option FinderInfo
  pub dates : FileDates

-- a date of RFC 1740, which counts from 2000, in seconds since 1904. The earliest one stands for a date that isn't known
abbrev pub since_1904 : ℤ → Option ℕ
since_1904 (pos n) = if nat_lt (3029529600 + n) (2 ^ 32) then Some (3029529600 + n) else None
since_1904 (negsuc n) = if n == 2147483647 then None else Some (3029529600 - (n + 1))

abbrev pub apple_dates : Option (Result AppleDates ForkFault) → FileDates
apple_dates None = record { created = None; modified = None }
apple_dates (Some (Err fault)) = record { created = None; modified = None }
apple_dates (Some (Ok dates)) = record { created = since_1904 dates.created; modified = since_1904 dates.modified }

-- the dates of a file in seconds since 1904; none if it is in none of the formats
abbrev pub dates_in : MacFileIs → Option FileDates
dates_in (bare bytes) = None
dates_in (mac_binary m) = Some (record { created = Some m.header.created; modified = Some m.header.modified })
dates_in (apple a) = Some (apple_dates (with_dates a))

-- what the Finder knows, without the error of its entry
abbrev pub known_finder : Option (Result FinderInfo ForkFault) → Option FinderInfo
known_finder None = None
known_finder (Some (Ok info)) = Some info
known_finder (Some (Err fault)) = None

abbrev pub record_with : MacFileIs → FileDates → RecordIs
record_with file dates = record {
  name = option_map (λ (part : Lying). part.bytes) (readable (name_in file));
  finder = known_finder (finder_of_file file);
  dates = dates;
}

abbrev pub record_in : Result MacFileIs ForkFault → Option RecordIs
record_in (Ok file) = option_map (record_with file) (dates_in file)
record_in (Err fault) = None

-- what a file says of itself; none if it is in none of the formats
unfoldable pub record_of : List ℕ → Option RecordIs
record_of bytes = record_in (mac_file_of bytes)

-- its line: the name
unfoldable pub name_words : Option (List ℕ) → List ℕ
name_words None = codes "mac"
name_words (Some name) = codes "mac name " ++ column_text name

-- .. the type and the creator
abbrev pub finder_words : Option FinderInfo → List ℕ
finder_words None = []
finder_words (Some info) = codes " type " ++ name_text (big_bytes 4 info.file_type) ++ codes " creator " ++ name_text (big_bytes 4 info.creator)

-- .. and the dates
abbrev pub date_digits : Option ℕ → List ℕ
date_digits None = []
date_digits (Some date) = date_text date

unfoldable pub dates_words : FileDates → List ℕ
dates_words d =
    shown (is_some d.created) (codes " created ") ++ date_digits d.created ++ shown (is_some d.modified) (codes " modified ")
    ++ date_digits d.modified ++ codes "\n"

abbrev pub record_line : Option RecordIs → List ℕ
record_line None = []
record_line (Some r) = name_words r.name ++ (finder_words r.finder ++ dates_words r.dates)

-- its object, after the list of forks: the name
unfoldable pub name_object : Option (List ℕ) → List ℕ
name_object name = codes "],\"mac\":{" ++ member_text (codes "name") name

-- .. the type, the creator and the flags
unfoldable pub finder_members : FinderInfo → List ℕ
finder_members info =
    codes ",\"type\":\"" ++ tag_text info.file_type ++ codes "\",\"creator\":\"" ++ tag_text info.creator
    ++ codes "\",\"flags\":" ++ decimal info.flags

abbrev pub finder_object : Option FinderInfo → List ℕ
finder_object None = codes ",\"type\":null,\"creator\":null,\"flags\":null"
finder_object (Some info) = finder_members info

-- .. and the dates, as numbers and as text
abbrev pub date_opened : Option ℕ → List ℕ
date_opened None = codes "null"
date_opened (Some date) = codes "\""

unfoldable pub dates_object : FileDates → List ℕ
dates_object d =
    codes ",\"created\":" ++ number_or_null d.created ++ codes ",\"created_text\":" ++ date_opened d.created
    ++ date_digits d.created ++ shown (is_some d.created) (codes "\"") ++ codes ",\"modified\":" ++ number_or_null d.modified
    ++ codes ",\"modified_text\":" ++ date_opened d.modified ++ date_digits d.modified ++ shown (is_some d.modified) (codes "\"") ++ codes "}"

abbrev pub record_member : Option RecordIs → List ℕ
record_member None = codes "],\"mac\":null"
record_member (Some r) = name_object r.name ++ (finder_object r.finder ++ dates_object r.dates)
