-- The number that a finding has beside its place: which it is, and what it counts, is this project's own choice.
use Rattle.std.specs.Prelude.{ℕ, Option, None, Some}
use Rattle.pef_reloc.specs.Faults.{fault_word}
use Rattle.pef_inspect.specs.declared.detail.Detail.{Detail}
use Rattle.pef_inspect.specs.declared.detail.Detail.TheVariants as detail
use Rattle.pef_inspect.specs.declared.finding.Cause.{Cause}
use Rattle.pef_inspect.specs.declared.finding.Cause.TheVariants as cause
use Rattle.pef_inspect.specs.declared.note.Note.{Note}
use Rattle.pef_inspect.specs.declared.note.Note.TheVariants.{ReservedNotZero, UnknownKind, UnknownShare, VersionBelowOldest, EntryOutside, ExportOutside, WordOutsideImage, IrregularExports, TrailingBytes, ProgramsUnverified, ImagesUnverified, Overlap, UnownedBytes, WordRelocatedTwice, SectionsOutOfOrder, NameOutside, TextDamage, ZeroRows}

-- the number that a note has beside its place: the offset of a word in its section, or a count of bytes or of sections
abbrev pub note_detail : Note → Detail
note_detail (WordOutsideImage word) = detail.Word word
note_detail (WordRelocatedTwice word) = detail.Word word
note_detail (TrailingBytes len) = detail.Length len
note_detail (Overlap len) = detail.Length len
note_detail (UnownedBytes len) = detail.Length len
note_detail (TextDamage count) = detail.Length count
note_detail (ZeroRows len) = detail.Length len
note_detail (SectionsOutOfOrder sections) = detail.Sections sections
note_detail ReservedNotZero = detail.None
note_detail UnknownKind = detail.None
note_detail UnknownShare = detail.None
note_detail VersionBelowOldest = detail.None
note_detail EntryOutside = detail.None
note_detail ExportOutside = detail.None
note_detail IrregularExports = detail.None
note_detail ProgramsUnverified = detail.None
note_detail ImagesUnverified = detail.None
note_detail NameOutside = detail.None

-- the offset of a word, if there is one
abbrev pub word_detail : Option ℕ → Detail
word_detail None = detail.None
word_detail (Some word) = detail.Word word

-- the number that an error or a note has beside its place: an error of a relocation program can name a word
abbrev pub detail_of : Cause → Detail
detail_of (cause.Note n) = note_detail n
detail_of (cause.View f) = detail.None
detail_of (cause.Loader f) = detail.None
detail_of (cause.Pack f) = detail.None
detail_of (cause.Reloc f) = word_detail (fault_word f)

-- the number, or 0 if there is none
abbrev pub detail_value : Detail → ℕ
detail_value (detail.Word n) = n
detail_value (detail.Length n) = n
detail_value (detail.Sections n) = n
detail_value detail.None = 0
