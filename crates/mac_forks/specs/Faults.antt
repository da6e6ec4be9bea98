-- The errors of the wrappings of a file, with their numbers, names and places. They are this project's own.
use Rattle.std.specs.Prelude.{ℕ, List, Option, None, Some, ◌+◌, codes}
use Rattle.mac_forks.specs.Apple.{entry_from}
use Rattle.mac_forks.specs.declared.fault.ForkFault.{ForkFault}
use Rattle.mac_forks.specs.declared.fault.ForkFault.TheVariants.{BadMacBinaryCrc, AppleHeaderCut, BadAppleVersion, AppleEntryCut, AppleEntryOutside, AppleEntryShort, DataForkCut, ResourceForkCut, CommentCut}

-- the numbers
abbrev pub fault_number : ForkFault → ℕ
fault_number BadMacBinaryCrc = 81
fault_number AppleHeaderCut = 82
fault_number BadAppleVersion = 83
fault_number (AppleEntryCut entry) = 84
fault_number (AppleEntryOutside entry) = 85
fault_number (AppleEntryShort entry) = 86
fault_number DataForkCut = 76
fault_number ResourceForkCut = 77
fault_number CommentCut = 78

-- the names, which are the texts
abbrev pub fault_name : ForkFault → List ℕ
fault_name BadMacBinaryCrc = codes "BadMacBinaryCrc"
fault_name AppleHeaderCut = codes "AppleHeaderCut"
fault_name BadAppleVersion = codes "BadAppleVersion"
fault_name (AppleEntryCut entry) = codes "AppleEntryCut"
fault_name (AppleEntryOutside entry) = codes "AppleEntryOutside"
fault_name (AppleEntryShort entry) = codes "AppleEntryShort"
fault_name DataForkCut = codes "DataForkCut"
fault_name ResourceForkCut = codes "ResourceForkCut"
fault_name CommentCut = codes "CommentCut"

-- the offset in the file of the field that an error is about: the CRC, the version, the row of an entry, its offset or
-- its length, or the length of a fork or of the comment
abbrev pub fault_offset : ForkFault → Option ℕ
fault_offset BadMacBinaryCrc = Some 124
fault_offset AppleHeaderCut = None
fault_offset BadAppleVersion = Some 4
fault_offset (AppleEntryCut entry) = Some (entry_from entry)
fault_offset (AppleEntryOutside entry) = Some (entry_from entry + 4)
fault_offset (AppleEntryShort entry) = Some (entry_from entry + 8)
fault_offset DataForkCut = Some 83
fault_offset ResourceForkCut = Some 87
fault_offset CommentCut = Some 99
