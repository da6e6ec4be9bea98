-- Files in AppleSingle and AppleDouble: a header of 26 bytes, a row of 12 bytes for each entry, and the entries' bytes
-- (RFC 1740, its appendices on the AppleSingle and the AppleDouble format). That the first entry of an id counts is this
-- project's own rule, and so is which entries are too short.
use Rattle.std.specs.Prelude.{ℕ, ◌+◌, ◌*◌, ◌==◌, ◌||◌, Bool, false, List, Option, None, Some, option_map, Result, Ok, Err, nat_lt, if◌then◌else◌}
use Rattle.std.specs.Int.{w16, w32}
use Rattle.std.specs.Option.{option_map_or}
use Rattle.pef_words.specs.Bytes.{number_at, part_of, signed_at}
use Rattle.pef_words.specs.Refusals.{◌>>=◌, first_among}
use Rattle.pef_words.specs.Results as results
use Rattle.mac_forks.specs.declared.apple.AppleDates.{AppleDates}
use Rattle.mac_forks.specs.declared.apple.AppleEntry.{AppleEntry}
use Rattle.mac_forks.specs.declared.apple.AppleHeader.{AppleHeader}
use Rattle.mac_forks.specs.declared.fault.ForkFault.{ForkFault}
use Rattle.mac_forks.specs.declared.fault.ForkFault.TheVariants.{AppleHeaderCut, BadAppleVersion, AppleEntryCut, AppleEntryOutside, AppleEntryShort}
use Rattle.mac_forks.specs.declared.finder.FinderInfo.{FinderInfo}
use Rattle.mac_forks.specs.Parts.{Lying, part_in}

-- the signatures
abbrev pub apple_single : ℕ
apple_single = 0x0005_1600

abbrev pub apple_double : ℕ
apple_double = 0x0005_1607

-- whether some bytes begin with one of them
abbrev pub is_apple : List ℕ → Bool
is_apple bytes = option_map_or (λ n. n == apple_single || n == apple_double) (number_at 4 bytes 0) false

-- the header without its filler; none if it passes the end
unfoldable pub header_of : List ℕ → Option AppleHeader
header_of bytes = do
  signature ← number_at 4 bytes 0
  version ← number_at 4 bytes 4
  count ← number_at 2 bytes 24
  Some (record { signature = signature; version = version; entry_count = count })

-- versions 1 and 2
abbrev pub is_known : ℕ → Bool
is_known version = version == 0x0001_0000 || version == 0x0002_0000

-- the file has all but the data fork
abbrev pub is_double : AppleHeader → Bool
is_double h = h.signature == apple_double

-- a file: its bytes, its header and the filler in it
pub record AppleIs : Type 0 where
  pub bytes : List ℕ
  pub header : AppleHeader
  pub filler : List ℕ

-- a file with a header and a filler
abbrev pub if_known : List ℕ → AppleHeader → List ℕ → Result AppleIs ForkFault
if_known bytes h filler =
    if is_known h.version then Ok (record { bytes = bytes; header = h; filler = filler }) else Err BadAppleVersion

-- the file, or the first error: the header passes the end, or its version is unknown
unfoldable pub apple_of : List ℕ → Result AppleIs ForkFault
apple_of bytes =
    option_map_or (λ h. option_map_or (if_known bytes h) (part_of bytes 8 16) (Err AppleHeaderCut)) (header_of bytes)
    (Err AppleHeaderCut)

-- where the row of an entry begins
abbrev pub entry_from : ℕ → ℕ
entry_from i = 26 + 12 * i

-- the row of entry i; none if it passes the end
unfoldable pub entry_at : List ℕ → ℕ → Option AppleEntry
entry_at bytes i = do
  id ← number_at 4 bytes (entry_from i)
  offset ← number_at 4 bytes (entry_from i + 4)
  length ← number_at 4 bytes (entry_from i + 8)
  Some (record { id = id; offset = offset; length = length })

-- the row of entry i, or its error
abbrev pub entry_in : List ℕ → ℕ → Result AppleEntry ForkFault
entry_in bytes i = option_map_or Ok (entry_at bytes i) (Err (AppleEntryCut i))

-- the bytes of an entry, or its error
abbrev pub lying_at : List ℕ → ℕ → AppleEntry → Result Lying ForkFault
lying_at bytes i e = option_map_or Ok (part_in bytes e.offset e.length) (Err (AppleEntryOutside i))

abbrev pub contents_in : List ℕ → ℕ → Result Lying ForkFault
contents_in bytes i = results.◌>>=◌ (entry_in bytes i) (lying_at bytes i)

-- entry i of a file and its bytes; none past the last one
unfoldable pub entry_of : AppleIs → ℕ → Option (Result AppleEntry ForkFault)
entry_of a i = if nat_lt i a.header.entry_count then Some (entry_in a.bytes i) else None

unfoldable pub contents_of : AppleIs → ℕ → Option (Result Lying ForkFault)
contents_of a i = if nat_lt i a.header.entry_count then Some (contents_in a.bytes i) else None

-- i, if entry i has an id
abbrev pub id_here : List ℕ → ℕ → ℕ → Option ℕ
id_here bytes id i = entry_at bytes i >>= (λ e. if e.id == id then Some i else None)

-- the number of the first entry with an id
abbrev pub number_of : AppleIs → ℕ → Option ℕ
number_of a id = first_among (id_here a.bytes id) 0 a.header.entry_count

-- the bytes of the first entry with an id, or its error
abbrev pub part_with : AppleIs → ℕ → Option (Result Lying ForkFault)
part_with a id = option_map (contents_in a.bytes) (number_of a id)

-- the fields in the bytes of entry i, or its error
abbrev pub fields_in : {A : Type 0} → (List ℕ → Option A) → List ℕ → ℕ → Result A ForkFault
fields_in read bytes i = results.◌>>=◌ (contents_in bytes i) (λ p. option_map_or Ok (read p.bytes) (Err (AppleEntryShort i)))

-- dates: created, modified, backed up, accessed
unfoldable pub dates_of : List ℕ → Option AppleDates
dates_of bytes = do
  created ← signed_at w32 4 bytes 0
  modified ← signed_at w32 4 bytes 4
  backed ← signed_at w32 4 bytes 8
  accessed ← signed_at w32 4 bytes 12
  Some (record { created = created; modified = modified; backed_up = backed; accessed = accessed })

-- Finder information (FInfo of Inside Macintosh: Macintosh Toolbox Essentials, "Finder Interface")
unfoldable pub finder_of : List ℕ → Option FinderInfo
finder_of bytes = do
  type ← number_at 4 bytes 0
  creator ← number_at 4 bytes 4
  flags ← number_at 2 bytes 8
  vertical ← signed_at w16 2 bytes 10
  horizontal ← signed_at w16 2 bytes 12
  window ← number_at 2 bytes 14
  Some (record {
    file_type = type;
    creator = creator;
    flags = flags;
    vertical = vertical;
    horizontal = horizontal;
    window = window;
  })

abbrev pub dates_in : List ℕ → ℕ → Result AppleDates ForkFault
dates_in bytes i = fields_in dates_of bytes i

abbrev pub finder_information_in : List ℕ → ℕ → Result FinderInfo ForkFault
finder_information_in bytes i = fields_in finder_of bytes i

abbrev pub macintosh_information_in : List ℕ → ℕ → Result ℕ ForkFault
macintosh_information_in bytes i = fields_in (λ b. number_at 4 b 0) bytes i

-- the fields of the first entry with the id of dates, of Finder information and of Macintosh file information
abbrev pub with_dates : AppleIs → Option (Result AppleDates ForkFault)
with_dates a = option_map (dates_in a.bytes) (number_of a 8)

abbrev pub with_finder_information : AppleIs → Option (Result FinderInfo ForkFault)
with_finder_information a = option_map (finder_information_in a.bytes) (number_of a 9)

abbrev pub with_macintosh_information : AppleIs → Option (Result ℕ ForkFault)
with_macintosh_information a = option_map (macintosh_information_in a.bytes) (number_of a 10)
