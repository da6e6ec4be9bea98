-- The answers of runs that report an error (docs/ERRORS.md, "How a refusal is printed").
use Rattle.std.specs.Prelude.{ℕ, List, [], ◌∷◌, ◌++◌, Option, None, Some, codes, decimal}
use Rattle.pef_faults.specs.declared.fault.Fault.{Fault}
use Rattle.pef_faults.specs.Faults.{fault_line, fault_name, fault_number, fault_path}
use Rattle.pef_faults.specs.Names.{Names, fault_names}
use Rattle.pef_ports.specs.Names.{name_text}
use Rattle.pef_tool.specs.Answers.Answers.{Answer}
use Rattle.pef_faults.specs.Notes.Notes.{note_of}
use Rattle.pef_tool.specs.declared.answers.outcome.Outcome.TheVariants.{Refused}

-- the start of an error's line: its number and its name
abbrev pub refused_text : ℕ → List ℕ → List ℕ
refused_text number name = codes "refused " ++ decimal number ++ codes " " ++ name

-- the line of a text that is refused
abbrev pub line_text : Option ℕ → List ℕ
line_text None = []
line_text (Some line) = codes " line " ++ decimal line

-- a word and then a name, if there is a name
abbrev pub reported_text : List ℕ → Option (List ℕ) → List ℕ
reported_text word None = []
reported_text word (Some name) = word ++ name_text name

-- the names that an error gives: of a fragment, of a library, of a symbol
unfoldable pub names_text : Names → List ℕ
names_text names =
    reported_text (codes " in ") names.fragment
    ++ (reported_text (codes " library ") names.library
    ++ reported_text (codes " symbol ") names.symbol)

-- the path of a file
abbrev pub path_text : Option (List ℕ) → List ℕ
path_text path = reported_text (codes " ") path

-- a name at the end of a line
abbrev pub name_end : List ℕ → List ℕ
name_end name = name_text name ++ 10 ∷ []

-- the rest of an error's line
abbrev pub rest_text : Fault → List ℕ
rest_text fault = line_text (fault_line fault) ++ (names_text (fault_names fault) ++ (path_text (fault_path fault) ++ 10 ∷ []))

-- the answer of a run that reports an error. The outcome has the number that is printed, and what is known beyond the line.
unfoldable pub fault_answer : Fault → Answer
fault_answer fault = record {
  text = refused_text (fault_number fault) (fault_name fault) ++ rest_text fault;
  outcome = Refused (fault_number fault) (note_of fault);
}
