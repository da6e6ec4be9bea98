-- The numbers and the names of the refusals of a script (docs/ERRORS.md), which are this project's own.
use Rattle.std.specs.Prelude.{ℕ, Option, None, Some, List, ◌++◌, codes}
use Rattle.std.specs.Fmt.{decimal}
use Rattle.pef_script.specs.declared.text.fault.LineFault.{LineFault}
use Rattle.pef_script.specs.declared.text.fault.LineFault.TheVariants.{BadLine, BadNumber, UnknownName, RepeatedName, OutOfOrder, Overlap, OutsideSection, TooMany, BadKind}
use Rattle.pef_script.specs.declared.text.fault.ScriptFault.{ScriptFault}
use Rattle.pef_script.specs.declared.text.fault.ScriptFault.TheVariants as fault
use Rattle.pef_script.specs.declared.text.places.Word.{Word}

abbrev pub fault_number : LineFault → ℕ
fault_number (BadLine word) = 41
fault_number (BadNumber word) = 42
fault_number (UnknownName word) = 43
fault_number (RepeatedName word) = 44
fault_number (OutOfOrder word) = 45
fault_number (Overlap word) = 46
fault_number (OutsideSection word) = 47
fault_number (TooMany word) = 48
fault_number (BadKind word) = 49

abbrev pub fault_name : LineFault → List ℕ
fault_name (BadLine word) = codes "BadLine"
fault_name (BadNumber word) = codes "BadNumber"
fault_name (UnknownName word) = codes "UnknownName"
fault_name (RepeatedName word) = codes "RepeatedName"
fault_name (OutOfOrder word) = codes "OutOfOrder"
fault_name (Overlap word) = codes "Overlap"
fault_name (OutsideSection word) = codes "OutsideSection"
fault_name (TooMany word) = codes "TooMany"
fault_name (BadKind word) = codes "BadKind"

-- the number of the word that is at fault; the first word of a line is word 0
abbrev pub fault_word : LineFault → ℕ
fault_word (BadLine word) = word
fault_word (BadNumber word) = word
fault_word (UnknownName word) = word
fault_word (RepeatedName word) = word
fault_word (OutOfOrder word) = word
fault_word (Overlap word) = word
fault_word (OutsideSection word) = word
fault_word (TooMany word) = word
fault_word (BadKind word) = word

-- the number, the name and the line of the fault of a text that isn't a script

abbrev pub script_fault_number : ScriptFault → ℕ
script_fault_number (fault.Refused what line word earlier) = fault_number what
script_fault_number fault.OutOfMemory = 99

abbrev pub script_fault_name : ScriptFault → List ℕ
script_fault_name (fault.Refused what line word earlier) = fault_name what
script_fault_name fault.OutOfMemory = codes "OutOfMemory"

-- the text: the name, and the line if there is one
abbrev pub script_fault_text : ScriptFault → List ℕ
script_fault_text (fault.Refused what line word earlier) = fault_name what ++ codes " line " ++ decimal line
script_fault_text fault.OutOfMemory = codes "OutOfMemory"

abbrev pub script_fault_line : ScriptFault → Option ℕ
script_fault_line (fault.Refused what line word earlier) = Some line
script_fault_line fault.OutOfMemory = None

abbrev pub script_fault_word : ScriptFault → Option Word
script_fault_word (fault.Refused what line word earlier) = Some word
script_fault_word fault.OutOfMemory = None

abbrev pub script_fault_earlier : ScriptFault → Option ℕ
script_fault_earlier (fault.Refused what line word earlier) = earlier
script_fault_earlier fault.OutOfMemory = None
