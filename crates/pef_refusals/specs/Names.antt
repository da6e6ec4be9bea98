-- Names of errors and notes, by their numbers (docs/ERRORS.md). tools/declarations writes this file from docs/errors.table.
use Rattle.std.specs.Prelude.{◌==◌, ℕ, List, Option, None, Some, codes, if◌then◌else◌, nat_le}

-- an error of a container
unfoldable pub container_name : ℕ → Option (List ℕ)
container_name number =
    if number == 1 then Some (codes "TooShort")
    else if number == 2 then Some (codes "BadTag")
    else if number == 3 then Some (codes "BadArchitecture")
    else if number == 4 then Some (codes "BadFormatVersion")
    else if number == 5 then Some (codes "BadSectionCounts")
    else if number == 6 then Some (codes "SectionOutside")
    else if number == 7 then Some (codes "BadSectionKind")
    else if number == 8 then Some (codes "BadSizes")
    else if number == 9 then Some (codes "BadAlignment")
    else if number == 10 then Some (codes "NoLoader")
    else None

-- an error of a loader section
unfoldable pub loader_name : ℕ → Option (List ℕ)
loader_name number =
    if number == 11 then Some (codes "LoaderShort")
    else if number == 12 then Some (codes "BadTableOffset")
    else if number == 13 then Some (codes "BadName")
    else if number == 14 then Some (codes "BadLibraryRange")
    else if number == 15 then Some (codes "OrphanImport")
    else if number == 16 then Some (codes "BadEntry")
    else if number == 17 then Some (codes "BadRelocSection")
    else if number == 18 then Some (codes "RelocOutside")
    else if number == 19 then Some (codes "BadExportTable")
    else if number == 20 then Some (codes "BadExportSection")
    else None

-- an error of packed data
unfoldable pub packed_name : ℕ → Option (List ℕ)
packed_name number =
    if number == 21 then Some (codes "Truncated")
    else if number == 22 then Some (codes "BadOpcode")
    else if number == 23 then Some (codes "CountTooLarge")
    else if number == 24 then Some (codes "TooLong")
    else if number == 25 then Some (codes "TooShort")
    else None

-- an error of a relocation program
unfoldable pub relocation_name : ℕ → Option (List ℕ)
relocation_name number =
    if number == 31 then Some (codes "BadOpcode")
    else if number == 32 then Some (codes "CutInstruction")
    else if number == 33 then Some (codes "RepeatTooFar")
    else if number == 34 then Some (codes "RepeatCuts")
    else if number == 35 then Some (codes "NestedRepeat")
    else if number == 36 then Some (codes "TooManySteps")
    else if number == 37 then Some (codes "WordOutside")
    else if number == 38 then Some (codes "ImportOutside")
    else if number == 39 then Some (codes "SectionOutside")
    else None

-- an error of a script
unfoldable pub script_name : ℕ → Option (List ℕ)
script_name number =
    if number == 41 then Some (codes "BadLine")
    else if number == 42 then Some (codes "BadNumber")
    else if number == 43 then Some (codes "UnknownName")
    else if number == 44 then Some (codes "RepeatedName")
    else if number == 45 then Some (codes "OutOfOrder")
    else if number == 46 then Some (codes "Overlap")
    else if number == 47 then Some (codes "OutsideSection")
    else if number == 48 then Some (codes "TooMany")
    else if number == 49 then Some (codes "BadKind")
    else None

-- an error of certificates, closures, placement or connections
unfoldable pub closure_name : ℕ → Option (List ℕ)
closure_name number =
    if number == 51 then Some (codes "BadCertificate")
    else if number == 52 then Some (codes "SectionsDiffer")
    else if number == 60 then Some (codes "RootMissing")
    else if number == 61 then Some (codes "LibraryMissing")
    else if number == 62 then Some (codes "SymbolMissing")
    else if number == 63 then Some (codes "ImplementationTooOld")
    else if number == 64 then Some (codes "ImplementationTooNew")
    else if number == 65 then Some (codes "ReexportLoop")
    else if number == 66 then Some (codes "InitLoop")
    else if number == 67 then Some (codes "NoRoom")
    else if number == 68 then Some (codes "BadConnection")
    else if number == 69 then Some (codes "TooManyConnections")
    else if number == 70 then Some (codes "TooManyStepsInAll")
    else None

-- an error of files, inputs or memory
unfoldable pub port_name : ℕ → Option (List ℕ)
port_name number =
    if number == 71 then Some (codes "FileUnreadable")
    else if number == 72 then Some (codes "FileUnwritable")
    else if number == 73 then Some (codes "InputUnreadable")
    else if number == 74 then Some (codes "InputTooLong")
    else if number == 75 then Some (codes "TooManyBytes")
    else if number == 99 then Some (codes "OutOfMemory")
    else None

-- an error of a file of the classic Mac OS
unfoldable pub mac_name : ℕ → Option (List ℕ)
mac_name number =
    if number == 76 then Some (codes "DataForkCut")
    else if number == 77 then Some (codes "ResourceForkCut")
    else if number == 78 then Some (codes "CommentCut")
    else if number == 80 then Some (codes "NoContainer")
    else if number == 81 then Some (codes "BadMacBinaryCrc")
    else if number == 82 then Some (codes "AppleHeaderCut")
    else if number == 83 then Some (codes "BadAppleVersion")
    else if number == 84 then Some (codes "AppleEntryCut")
    else if number == 85 then Some (codes "AppleEntryOutside")
    else if number == 86 then Some (codes "AppleEntryShort")
    else if number == 87 then Some (codes "ResourceMapOutside")
    else if number == 88 then Some (codes "BadTypeList")
    else if number == 89 then Some (codes "ResourceTypeCut")
    else if number == 90 then Some (codes "TooManyReferences")
    else if number == 91 then Some (codes "ReferenceCut")
    else if number == 92 then Some (codes "ResourceNameCut")
    else if number == 93 then Some (codes "ResourceDataOutside")
    else if number == 94 then Some (codes "FragmentTableCut")
    else if number == 95 then Some (codes "BadFragmentTable")
    else if number == 96 then Some (codes "MemberCut")
    else if number == 97 then Some (codes "MemberNameCut")
    else if number == 98 then Some (codes "FragmentOutside")
    else None

-- a note
unfoldable pub note_name : ℕ → Option (List ℕ)
note_name number =
    if number == 101 then Some (codes "ReservedNotZero")
    else if number == 102 then Some (codes "UnknownKind")
    else if number == 103 then Some (codes "UnknownShare")
    else if number == 104 then Some (codes "VersionBelowOldest")
    else if number == 105 then Some (codes "EntryOutside")
    else if number == 106 then Some (codes "ExportOutside")
    else if number == 107 then Some (codes "WordOutsideImage")
    else if number == 108 then Some (codes "IrregularExports")
    else if number == 109 then Some (codes "TrailingBytes")
    else if number == 110 then Some (codes "ProgramsUnverified")
    else if number == 111 then Some (codes "ImagesUnverified")
    else if number == 112 then Some (codes "Overlap")
    else if number == 113 then Some (codes "UnownedBytes")
    else if number == 114 then Some (codes "WordRelocatedTwice")
    else if number == 115 then Some (codes "ContainersUnverified")
    else if number == 116 then Some (codes "SectionsOutOfOrder")
    else if number == 117 then Some (codes "BytesAfterForks")
    else if number == 118 then Some (codes "FragmentShort")
    else if number == 119 then Some (codes "DataForkElsewhere")
    else if number == 120 then Some (codes "NotUnpacked")
    else if number == 121 then Some (codes "NameOutside")
    else if number == 122 then Some (codes "FragmentArchitecture")
    else if number == 123 then Some (codes "FragmentUsage")
    else if number == 124 then Some (codes "TextDamage")
    else if number == 125 then Some (codes "ZeroRows")
    else None

-- an answer that only this library gives
unfoldable pub library_name : ℕ → Option (List ℕ)
library_name number =
    if number == 200 then Some (codes "RoomTooSmall")
    else if number == 201 then Some (codes "NotThere")
    else if number == 202 then Some (codes "NotOpen")
    else if number == 203 then Some (codes "AddedTooLate")
    else if number == 204 then Some (codes "StoreFull")
    else if number == 205 then Some (codes "BadGranule")
    else if number == 206 then Some (codes "BadOptions")
    else if number == 207 then Some (codes "StillPresent")
    else if number == 208 then Some (codes "StillNamed")
    else if number == 209 then Some (codes "NameTaken")
    else if number == 210 then Some (codes "WrongAddressCount")
    else if number == 211 then Some (codes "TooManySymbols")
    else if number == 212 then Some (codes "LongName")
    else if number == 213 then Some (codes "TooManyNameBytes")
    else if number == 214 then Some (codes "PastLastNumber")
    else if number == 215 then Some (codes "UnspellableName")
    else if number == 216 then Some (codes "TooManyBytes")
    else None

-- all of them
abbrev pub name_of : ℕ → Option (List ℕ)
name_of number =
    if nat_le number 10 then container_name number
    else if nat_le number 20 then loader_name number
    else if nat_le number 30 then packed_name number
    else if nat_le number 40 then relocation_name number
    else if nat_le number 50 then script_name number
    else if nat_le number 70 then closure_name number
    else if nat_le number 75 then port_name number
    else if nat_le number 98 then mac_name number
    else if nat_le number 100 then port_name number
    else if nat_le number 199 then note_name number
    else library_name number
