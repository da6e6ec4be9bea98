-- The report on a file: what it is, its forks, its fragments, and all its containers, each with its errors. It is text for
-- eyes and for `grep`, or an object of JSON on a line of its own.
use Rattle.std.specs.Prelude.{◌≡◌, ◌⊎◌, ℕ, ◌==◌, Bool, true, List, [], ◌++◌, Option, None, Some, codes, decimal, length, if◌then◌else◌}
use Rattle.cfm_members.specs.Kinds.{kind_of}
use Rattle.cfm_members.specs.Search.{containers_in}
use Rattle.cfm_members.specs.declared.file_kind.FileKind.{FileKind}
use Rattle.cfm_members.specs.declared.file_kind.FileKind.TheVariants.{Container, MacBinary, AppleSingle, AppleDouble, DamagedApple, ResourceFork, Other}
use Rattle.pef_rows.specs.Frames.{counts_line, file_line, file_object}
use Rattle.pef_rows.specs.Objects.{separator}
use Rattle.pef_rows.specs.declared.frames.Counts.{Counts}
use Rattle.mac_rows.specs.DataFiles.{DataFileIs, member_table_in, paired_line, paired_object}
use Rattle.mac_rows.specs.Faults.{faults_of}
use Rattle.mac_rows.specs.FileFindings.{findings_text, none_of}
use Rattle.mac_rows.specs.FileNotes.{notes_of}
use Rattle.mac_rows.specs.Forks.{fork_lines_of, fork_objects_of}
use Rattle.mac_rows.specs.Fragments.{table_text}
use Rattle.mac_rows.specs.MacParts.{wrapping_of}
use Rattle.mac_rows.specs.Records.{record_line, record_member, record_of}
use Rattle.mac_rows.specs.ResourceRows.{resources_of}
use Rattle.mac_rows.specs.Unread.{unread_counts, unread_text}
use Rattle.mac_rows.specs.declared.file_finding.FileFinding.{FileFinding}
use Rattle.mac_rows.specs.declared.output_format.OutputFormat.{OutputFormat}
use Rattle.mac_rows.specs.declared.output_format.OutputFormat.TheVariants.{Text, Json}
use Rattle.mac_report.specs.Containers.{Walks, fresh_tally, total}
use Rattle.mac_report.specs.declared.tally.Tally.{Tally}

-- the word for what a file is
abbrev pub kind_word : FileKind → List ℕ
kind_word Container = codes "container"
kind_word MacBinary = codes "macbinary"
kind_word AppleSingle = codes "applesingle"
kind_word AppleDouble = codes "appledouble"
kind_word DamagedApple = codes "damaged"
kind_word ResourceFork = codes "resources"
kind_word Other = codes "other"

-- what was found in a file besides its containers: errors and notes
pub record FoundIs : Type 0 where
  pub errors : List FileFinding
  pub notes : List FileFinding

-- the first line. It has the path of the other file that has the data fork, if there is one
abbrev pub first_line : List ℕ → List ℕ → Option DataFileIs → List ℕ
first_line path bytes None = file_line path (length bytes) (kind_word (kind_of bytes))
first_line path bytes (Some other) = paired_line path (length bytes) (kind_word (kind_of bytes)) other.path

-- the lines before the containers: what the file is, its forks, what it says of itself, its resources, its fragments, and all
-- errors and notes but those of containers
abbrev pub text_head : List ℕ → List ℕ → Option DataFileIs → FoundIs → List ℕ
text_head path bytes other found =
    first_line path bytes other
    ++ (fork_lines_of (wrapping_of bytes)
    ++ (record_line (record_of bytes)
    ++ (resources_of Text (wrapping_of bytes)
    ++ (table_text Text (member_table_in other (wrapping_of bytes)) ++ (findings_text Text true found.errors ++ findings_text Text true found.notes)))))

-- the beginning of the object
abbrev pub beginning : List ℕ → List ℕ → Option DataFileIs → List ℕ
beginning path bytes None = file_object path (length bytes) (kind_word (kind_of bytes))
beginning path bytes (Some other) = paired_object path (length bytes) (kind_word (kind_of bytes)) other.path

-- the object up to the containers
abbrev pub json_head : List ℕ → List ℕ → Option DataFileIs → List ℕ
json_head path bytes other =
    beginning path bytes other
    ++ (fork_objects_of (wrapping_of bytes)
    ++ (record_member (record_of bytes)
    ++ (codes ",\"resources\":[" ++ (resources_of Json (wrapping_of bytes)
    ++ (codes "],\"fragments\":[" ++ (table_text Json (member_table_in other (wrapping_of bytes)) ++ codes "],\"containers\":["))))))

-- what comes before the containers
abbrev pub head_text : OutputFormat → List ℕ → List ℕ → Option DataFileIs → FoundIs → List ℕ
head_text Text path bytes other found = text_head path bytes other found
head_text Json path bytes other found = json_head path bytes other

-- the note that some containers weren't inspected, if there are such
unfoldable pub skipped_text : ℕ → List ℕ
skipped_text n = if n == 0 then [] else codes "note 115 ContainersUnverified containers " ++ decimal n ++ codes "\n"

unfoldable pub skipped_object : ℕ → List ℕ
skipped_object n =
    codes "{\"number\":115,\"name\":\"ContainersUnverified\",\"part\":null,\"row\":null,\"field\":null,\"offset\":null,\"containers\":"
    ++ decimal n ++ codes "}"

-- .. in a list, after a comma unless it is the first note
unfoldable pub skipped_note : Bool → ℕ → List ℕ
skipped_note is_first n = if n == 0 then [] else separator is_first ++ skipped_object n

-- what comes after the containers
abbrev pub text_end : ℕ → Counts → List ℕ
text_end n counts = skipped_text n ++ counts_line counts

abbrev pub json_end : FoundIs → ℕ → List ℕ
json_end found n =
    codes "],\"errors\":[" ++ (findings_text Json true found.errors
    ++ (codes "],\"notes\":[" ++ (findings_text Json true found.notes ++ (skipped_note (none_of found.notes) n ++ codes "]}\n"))))

abbrev pub end_text : OutputFormat → FoundIs → Tally → List ℕ
end_text Text found t = text_end t.turn.skipped (total t (length found.errors) (length found.notes))
end_text Json found t = json_end found t.turn.skipped

-- a whole report on a file with these bytes, with these errors and notes besides those of its containers, and what it counts
pub record IsWhole (form : OutputFormat) (path bytes : List ℕ) (other : Option DataFileIs) (found : FoundIs) (text : List ℕ) (counts : Counts) : Type 0 where
  pub containers : List ℕ
  pub tally : Tally
  pub walked : Walks form bytes (fresh_tally bytes) (containers_in bytes 0) containers tally
  pub printed : text ≡ head_text form path bytes other found ++ (containers ++ end_text form found tally)
  pub counted : counts ≡ total tally (length found.errors) (length found.notes)

-- all that is found in a file besides its containers
abbrev pub found_of : Option DataFileIs → List ℕ → FoundIs
found_of other bytes = record { errors = faults_of other bytes; notes = notes_of other bytes }

-- a report on a file with these bytes, and what it counts. Its data fork may be in another file. An allocation may fail
-- before it
abbrev pub IsReport : OutputFormat → List ℕ → List ℕ → Option DataFileIs → List ℕ → Counts → Type 0
IsReport form path bytes other text counts =
    IsWhole form path bytes other (found_of other bytes) text counts
    ⊎ ((text ≡ unread_text form path 99 (codes "OutOfMemory")) × (counts ≡ unread_counts))
