-- What is found in a file besides its containers, and how it is printed: a line of text, or an object of JSON.
use Rattle.std.specs.Prelude.{ℕ, Bool, true, false, List, [], ◌∷◌, ◌++◌, Option, None, Some, codes, decimal}
use Rattle.std.specs.Option.{is_some}
use Rattle.cfm_members.specs.MemberLookupFaults.{member_lookup_fault_name, member_lookup_fault_number}
use Rattle.pef_rows.specs.Findings.{at_digits, at_word, shown}
use Rattle.pef_rows.specs.Objects.{separator}
use Rattle.pef_rows.specs.Tokens.{number_or_null}
use Rattle.mac_rows.specs.FileErrors.{error_offset, error_row, part_key}
use Rattle.mac_rows.specs.declared.file_finding.FileFinding.{FileFinding}
use Rattle.mac_rows.specs.declared.file_finding.FileFinding.TheVariants.{Error, BytesAfterForks, FragmentShort, DataForkElsewhere, NotUnpacked, FragmentArchitecture, FragmentUsage}
use Rattle.mac_rows.specs.declared.file_finding.OtherFormat.{OtherFormat}
use Rattle.mac_rows.specs.declared.file_finding.OtherFormat.TheVariants.{StuffIt, CompactPro, BinHex, Zip, DiskCopy, Hfs, HfsPlus, PartitionMap, Iso9660}
use Rattle.mac_rows.specs.declared.output_format.OutputFormat.{OutputFormat}
use Rattle.mac_rows.specs.declared.output_format.OutputFormat.TheVariants.{Text, Json}

-- words that depend on a row
abbrev pub row_digits : Option ℕ → List ℕ
row_digits None = []
row_digits (Some row) = decimal row

-- what is printed of an error or a note: its number and name, the part of the file, the number of the member, and the place
abbrev pub finding_number : FileFinding → ℕ
finding_number (Error found) = member_lookup_fault_number found.fault
finding_number (BytesAfterForks at len) = 117
finding_number (FragmentShort at member len) = 118
finding_number (DataForkElsewhere at member) = 119
finding_number (NotUnpacked at format) = 120
finding_number (FragmentArchitecture at member) = 122
finding_number (FragmentUsage at member) = 123

abbrev pub finding_name : FileFinding → List ℕ
finding_name (Error found) = member_lookup_fault_name found.fault
finding_name (BytesAfterForks at len) = codes "BytesAfterForks"
finding_name (FragmentShort at member len) = codes "FragmentShort"
finding_name (DataForkElsewhere at member) = codes "DataForkElsewhere"
finding_name (NotUnpacked at format) = codes "NotUnpacked"
finding_name (FragmentArchitecture at member) = codes "FragmentArchitecture"
finding_name (FragmentUsage at member) = codes "FragmentUsage"

abbrev pub finding_part : FileFinding → List ℕ
finding_part (Error found) = part_key found.fault
finding_part (BytesAfterForks at len) = codes "fork"
finding_part (FragmentShort at member len) = codes "fragment"
finding_part (DataForkElsewhere at member) = codes "fragment"
finding_part (NotUnpacked at format) = codes "fork"
finding_part (FragmentArchitecture at member) = codes "fragment"
finding_part (FragmentUsage at member) = codes "fragment"

abbrev pub finding_row : FileFinding → Option ℕ
finding_row (Error found) = error_row found
finding_row (BytesAfterForks at len) = None
finding_row (FragmentShort at member len) = Some member
finding_row (DataForkElsewhere at member) = Some member
finding_row (NotUnpacked at format) = None
finding_row (FragmentArchitecture at member) = Some member
finding_row (FragmentUsage at member) = Some member

abbrev pub finding_offset : FileFinding → Option ℕ
finding_offset (Error found) = error_offset found
finding_offset (BytesAfterForks at len) = Some at
finding_offset (FragmentShort at member len) = Some at
finding_offset (DataForkElsewhere at member) = Some at
finding_offset (NotUnpacked at format) = Some at
finding_offset (FragmentArchitecture at member) = Some at
finding_offset (FragmentUsage at member) = Some at

-- a format in one word, and a program that opens it
abbrev pub format_word : OtherFormat → List ℕ
format_word StuffIt = codes "stuffit"
format_word CompactPro = codes "compactpro"
format_word BinHex = codes "binhex"
format_word Zip = codes "zip"
format_word DiskCopy = codes "diskcopy"
format_word Hfs = codes "hfs"
format_word HfsPlus = codes "hfsplus"
format_word PartitionMap = codes "partitions"
format_word Iso9660 = codes "iso9660"

abbrev pub opener_word : OtherFormat → List ℕ
opener_word StuffIt = codes "unar"
opener_word CompactPro = codes "unar"
opener_word BinHex = codes "unar"
opener_word Zip = codes "unzip"
opener_word DiskCopy = codes "hfsutils"
opener_word Hfs = codes "hfsutils"
opener_word HfsPlus = codes "7z"
opener_word PartitionMap = codes "7z"
opener_word Iso9660 = codes "7z"

-- what only some notes have: in a line, and in an object
abbrev pub finding_tail : FileFinding → List ℕ
finding_tail (Error found) = []
finding_tail (BytesAfterForks at len) = codes " length " ++ decimal len
finding_tail (FragmentShort at member len) = codes " length " ++ decimal len
finding_tail (DataForkElsewhere at member) = []
finding_tail (NotUnpacked at format) = codes " format " ++ (format_word format ++ (codes " open " ++ opener_word format))
finding_tail (FragmentArchitecture at member) = []
finding_tail (FragmentUsage at member) = []

unfoldable pub format_members : OtherFormat → List ℕ
format_members format = codes ",\"format\":\"" ++ format_word format ++ codes "\",\"open\":\"" ++ opener_word format ++ codes "\""

abbrev pub finding_members : FileFinding → List ℕ
finding_members (Error found) = []
finding_members (BytesAfterForks at len) = codes ",\"length\":" ++ decimal len
finding_members (FragmentShort at member len) = codes ",\"length\":" ++ decimal len
finding_members (DataForkElsewhere at member) = []
finding_members (NotUnpacked at format) = format_members format
finding_members (FragmentArchitecture at member) = []
finding_members (FragmentUsage at member) = []

abbrev pub finding_word : FileFinding → List ℕ
finding_word (Error found) = codes "error "
finding_word finding = codes "note "

unfoldable pub finding_start_line : FileFinding → List ℕ
finding_start_line finding =
    finding_word finding ++ decimal (finding_number finding) ++ codes " " ++ finding_name finding ++ codes " " ++ finding_part finding
    ++ shown (is_some (finding_row finding)) (codes " ") ++ row_digits (finding_row finding) ++ at_word (finding_offset finding) ++ at_digits (finding_offset finding)

unfoldable pub finding_start_object : FileFinding → List ℕ
finding_start_object finding =
    codes "{\"number\":" ++ decimal (finding_number finding) ++ codes ",\"name\":\"" ++ finding_name finding
    ++ codes "\",\"part\":\"" ++ finding_part finding ++ codes "\",\"row\":" ++ number_or_null (finding_row finding)
    ++ codes ",\"field\":null,\"offset\":" ++ number_or_null (finding_offset finding)

abbrev pub finding_line : FileFinding → List ℕ
finding_line finding = finding_start_line finding ++ (finding_tail finding ++ codes "\n")

abbrev pub finding_object : FileFinding → List ℕ
finding_object finding = finding_start_object finding ++ (finding_members finding ++ codes "}")

abbrev pub finding_text : OutputFormat → Bool → FileFinding → List ℕ
finding_text Text is_first finding = finding_line finding
finding_text Json is_first finding = separator is_first ++ finding_object finding

abbrev pub findings_text : OutputFormat → Bool → List FileFinding → List ℕ
findings_text form is_first [] = []
findings_text form is_first (finding ∷ findings) = finding_text form is_first finding ++ findings_text form false findings

-- there are no notes
abbrev pub none_of : List FileFinding → Bool
none_of [] = true
none_of (finding ∷ findings) = false
