-- The numbers and the names of notes, which are this project's own.
use Rattle.std.specs.Prelude.{ℕ, List, codes}
use Rattle.pef_inspect.specs.declared.note.Note.{Note}
use Rattle.pef_inspect.specs.declared.note.Note.TheVariants.{ReservedNotZero, UnknownKind, UnknownShare, VersionBelowOldest, EntryOutside, ExportOutside, WordOutsideImage, IrregularExports, TrailingBytes, ProgramsUnverified, ImagesUnverified, Overlap, UnownedBytes, WordRelocatedTwice, SectionsOutOfOrder, NameOutside, TextDamage, ZeroRows}

abbrev pub note_number : Note → ℕ
note_number ReservedNotZero = 101
note_number UnknownKind = 102
note_number UnknownShare = 103
note_number VersionBelowOldest = 104
note_number EntryOutside = 105
note_number ExportOutside = 106
note_number (WordOutsideImage word) = 107
note_number IrregularExports = 108
note_number (TrailingBytes len) = 109
note_number ProgramsUnverified = 110
note_number ImagesUnverified = 111
note_number (Overlap len) = 112
note_number (UnownedBytes len) = 113
note_number (WordRelocatedTwice word) = 114
note_number (SectionsOutOfOrder sections) = 116
note_number NameOutside = 121
note_number (TextDamage count) = 124
note_number (ZeroRows len) = 125

abbrev pub note_name : Note → List ℕ
note_name ReservedNotZero = codes "ReservedNotZero"
note_name UnknownKind = codes "UnknownKind"
note_name UnknownShare = codes "UnknownShare"
note_name VersionBelowOldest = codes "VersionBelowOldest"
note_name EntryOutside = codes "EntryOutside"
note_name ExportOutside = codes "ExportOutside"
note_name (WordOutsideImage word) = codes "WordOutsideImage"
note_name IrregularExports = codes "IrregularExports"
note_name (TrailingBytes len) = codes "TrailingBytes"
note_name ProgramsUnverified = codes "ProgramsUnverified"
note_name ImagesUnverified = codes "ImagesUnverified"
note_name (Overlap len) = codes "Overlap"
note_name (UnownedBytes len) = codes "UnownedBytes"
note_name (WordRelocatedTwice word) = codes "WordRelocatedTwice"
note_name (SectionsOutOfOrder sections) = codes "SectionsOutOfOrder"
note_name NameOutside = codes "NameOutside"
note_name (TextDamage count) = codes "TextDamage"
note_name (ZeroRows len) = codes "ZeroRows"
