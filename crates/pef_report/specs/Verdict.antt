-- The verdict on a container: its state, and which of its parts are whole (this project's own).
use Rattle.std.specs.Prelude.{ℕ, ◌+◌, ◌==◌, ◌&&◌, ◌||◌, Bool, true, false, List, [], ◌∷◌, ◌++◌, not, Option, None, Some, Result, Ok, Err, codes, decimal, length, nat_lt, if◌then◌else◌}
use Rattle.pef_format.specs.declared.place.Part.{Part}
use Rattle.pef_format.specs.declared.place.Part.TheVariants as part
use Rattle.pef_inspect.specs.Findings.{finding_number, is_error}
use Rattle.pef_inspect.specs.Needs.{needed_of}
use Rattle.pef_inspect.specs.declared.finding.Finding.{Finding}
use Rattle.pef_views.specs.Container.{Contained}
use Rattle.pef_views.specs.Partial.{partial_of}
use Rattle.pef_views.specs.declared.fault.ViewFault.{ViewFault}
use Rattle.pef_rows.specs.Findings.{shown}
use Rattle.pef_rows.specs.Tokens.{truth}
use Rattle.pef_report.specs.declared.verdict.Group.{Group}
use Rattle.pef_report.specs.declared.verdict.Group.TheVariants as group
use Rattle.pef_report.specs.declared.verdict.State.{State}
use Rattle.pef_report.specs.declared.verdict.State.TheVariants as state
use Rattle.pef_report.specs.declared.verdict.Verdict.{Verdict}

-- an error with a number at a part is about parts of a container. Without a loader section, and with a loader header or tables
-- that are cut, nothing is known of what is in it. But the loader section is read if it is there and counts as instantiated. The
-- error of a loader header that isn't there can be about a section header
abbrev pub is_about : Group → Bool → ℕ → Part → Bool
is_about group.Any is_read number kind = true
is_about group.Sections is_read number part.Section = true
is_about group.Sections is_read number part.PackedData = true
is_about group.Sections is_read number part.Header = number == 1
is_about group.Sections is_read number kind = false
is_about group.Imports is_read number part.Library = true
is_about group.Imports is_read number part.Import = true
is_about group.Imports is_read number part.LoaderHeader = number == 11 || number == 12
is_about group.Imports is_read number part.Section = number == 11
is_about group.Imports is_read number part.Header = number == 1 || (number == 10 && not is_read)
is_about group.Imports is_read number kind = false
is_about group.Exports is_read number part.Export = true
is_about group.Exports is_read number part.LoaderHeader = number == 11 || number == 19
is_about group.Exports is_read number part.Section = number == 11
is_about group.Exports is_read number part.Header = number == 1 || (number == 10 && not is_read)
is_about group.Exports is_read number kind = false
is_about group.Relocations is_read number part.Relocation = true
is_about group.Relocations is_read number part.Program = true
is_about group.Relocations is_read number part.LoaderHeader = number == 11 || number == 12
is_about group.Relocations is_read number part.Section = number == 11
is_about group.Relocations is_read number part.Header = number == 1 || (number == 10 && not is_read)
is_about group.Relocations is_read number kind = false

abbrev pub damages : Group → Bool → Finding → Bool
damages which is_read f = is_error f && is_about which is_read (finding_number f) f.place.part

-- an error is about these parts
abbrev pub is_damaged : Group → Bool → List Finding → Bool
is_damaged which is_read [] = false
is_damaged which is_read (f ∷ findings) = damages which is_read f || is_damaged which is_read findings

-- one of the findings has a number
abbrev pub has_number : ℕ → List Finding → Bool
has_number number [] = false
has_number number (f ∷ findings) = finding_number f == number || has_number number findings

-- an error has neither of two numbers
abbrev pub is_other : ℕ → ℕ → Finding → Bool
is_other one two f = is_error f && not (finding_number f == one || finding_number f == two)

abbrev pub has_other : ℕ → ℕ → List Finding → Bool
has_other one two [] = false
has_other one two (f ∷ findings) = is_other one two f || has_other one two findings

-- the architecture in the header, 0 without a header
abbrev pub architecture_of : Result Contained ViewFault → ℕ
architecture_of (Ok c) = c.header.architecture
architecture_of (Err fault) = 0

-- the state by an architecture, from the first row whose test is met: the bytes are hardly a container, if the architecture is
-- neither `pwpc` nor `m68k` (CFM-68K) and the version of the format is another one; it is cut; it has no error; its loader section
-- counts as instantiated (note 116), as in stub libraries, and nothing else is wrong; it is for CFM-68K, and nothing else is wrong
abbrev pub is_unlikely : ℕ → List Finding → Bool
is_unlikely architecture findings = has_number 3 findings && (has_number 4 findings && not (architecture == 0x6D36_386B))

abbrev pub is_stub : List Finding → Bool
is_stub findings = has_number 116 findings && not (has_other 7 10 findings)

abbrev pub is_m68k : ℕ → List Finding → Bool
is_m68k architecture findings = architecture == 0x6D36_386B && not (has_other 3 3 findings)

abbrev pub error_state : ℕ → List Finding → State
error_state architecture findings =
    if is_stub findings then state.Stub
    else if is_m68k architecture findings then state.M68k
    else state.Damaged

abbrev pub sound_state : ℕ → List Finding → State
sound_state architecture findings = if is_damaged group.Any true findings then error_state architecture findings else state.Whole

abbrev pub state_of : ℕ → Bool → List Finding → State
state_of architecture is_cut findings =
    if is_unlikely architecture findings then state.Unlikely
    else if is_cut then state.Cut
    else sound_state architecture findings

-- the state, the parts that are whole, and whether the container seems to have been changed as text is (note 124)
unfoldable pub verdict_of : List ℕ → List Finding → Verdict
verdict_of bytes findings = record {
  needs = needed_of (partial_of bytes);
  has = length bytes;
  state = state_of (architecture_of (partial_of bytes)) (nat_lt (length bytes) (needed_of (partial_of bytes))) findings;
  sections = is_damaged group.Sections (has_number 116 findings) findings;
  imports = is_damaged group.Imports (has_number 116 findings) findings;
  exports = is_damaged group.Exports (has_number 116 findings) findings;
  relocations = is_damaged group.Relocations (has_number 116 findings) findings;
  as_text = has_number 124 findings;
}

abbrev pub state_word : State → List ℕ
state_word state.Unlikely = codes "unlikely"
state_word state.Cut = codes "cut"
state_word state.Stub = codes "stub"
state_word state.M68k = codes "m68k"
state_word state.Damaged = codes "damaged"
state_word state.Whole = codes "whole"

abbrev pub part_state : Bool → List ℕ
part_state damaged = if damaged then codes "damaged" else codes "whole"

-- the line of a verdict
unfoldable pub verdict_line : Verdict → List ℕ
verdict_line v = codes "verdict " ++ state_word v.state ++ codes " needs " ++ decimal v.needs ++ codes " has " ++ decimal v.has
    ++ codes " sections " ++ part_state v.sections ++ codes " imports " ++ part_state v.imports
    ++ codes " exports " ++ part_state v.exports ++ codes " relocations " ++ part_state v.relocations
    ++ shown v.as_text (codes " transferred as text") ++ codes "\n"

-- its object, after the list of notes
unfoldable pub verdict_object : Verdict → List ℕ
verdict_object v = codes "],\"verdict\":{\"state\":\"" ++ state_word v.state ++ codes "\",\"needs\":" ++ decimal v.needs ++ codes ",\"has\":" ++ decimal v.has
    ++ codes ",\"sections\":\"" ++ part_state v.sections ++ codes "\",\"imports\":\"" ++ part_state v.imports
    ++ codes "\",\"exports\":\"" ++ part_state v.exports ++ codes "\",\"relocations\":\"" ++ part_state v.relocations
    ++ codes "\",\"as_text\":" ++ truth v.as_text ++ codes "}}"
