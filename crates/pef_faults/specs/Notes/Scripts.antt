-- What is known of a script's line that is refused, and the text that says it: the end of the line with the help, a
-- sentence on the reason, if the error's number doesn't say it, and the line with the word marked.
use Rattle.std.specs.Prelude.{ℕ, ◌==◌, List, [], ◌∷◌, ◌++◌, Option, None, Some, codes, decimal, if◌then◌else◌}
use Rattle.std.specs.Option.{option_map_or}
use Rattle.pef_script.specs.Text.Earlier.{form_in, kind_in}
use Rattle.pef_script.specs.Text.Faults.{fault_word}
use Rattle.pef_script.specs.Text.Forms.{choices_of, row_of}
use Rattle.pef_script.specs.Text.Oddities.{oddity_of}
use Rattle.pef_script.specs.Text.Places.{line_in, word_range}
use Rattle.pef_script.specs.declared.text.fault.LineFault.{LineFault}
use Rattle.pef_script.specs.declared.text.fault.LineFault.TheVariants.{BadLine, BadNumber, UnknownName, RepeatedName, OutOfOrder, Overlap, OutsideSection, TooMany, BadKind}
use Rattle.pef_script.specs.declared.text.form.WordKind.{WordKind}
use Rattle.pef_script.specs.declared.text.oddity.Oddity.{Oddity}
use Rattle.pef_script.specs.declared.text.oddity.Oddity.TheVariants as oddity
use Rattle.pef_faults.specs.Notes.Excerpts.{excerpt_of, excerpt_text}
use Rattle.pef_faults.specs.declared.notes.script.Reason.{Reason}
use Rattle.pef_faults.specs.declared.notes.script.Reason.TheVariants as reason
use Rattle.pef_faults.specs.declared.notes.script.ScriptNote.{ScriptNote}

-- the reasons

abbrev pub kind_reason : Option WordKind → Reason
kind_reason (Some kind) = reason.Choices kind
kind_reason None = reason.Number

abbrev pub near_reason : Option ℕ → Reason
near_reason (Some line) = reason.Near line
near_reason None = reason.Number

abbrev pub repeated_reason : Option ℕ → Reason
repeated_reason (Some line) = reason.Repeated line
repeated_reason None = reason.Number

abbrev pub overlap_reason : Option ℕ → Reason
overlap_reason (Some line) = reason.Overlaps line
overlap_reason None = reason.Number

-- the group of a line, 0 if it has none
abbrev pub group_of : List ℕ → ℕ
group_of line = option_map_or (λ form. (row_of form).group) (form_in line) 0

abbrev pub order_reason : List ℕ → Option ℕ → List ℕ → Reason
order_reason line (Some number) text = if group_of line == group_of (line_in text number) then reason.Again number else reason.Later number
order_reason line None text = reason.NoLibrary

abbrev pub reason_of : LineFault → List ℕ → Option ℕ → List ℕ → Reason
reason_of (BadLine word) line earlier text = reason.Odd (oddity_of line)
reason_of (BadKind word) line earlier text = kind_reason (kind_in word line)
reason_of (UnknownName word) line earlier text = near_reason earlier
reason_of (RepeatedName word) line earlier text = repeated_reason earlier
reason_of (Overlap word) line earlier text = overlap_reason earlier
reason_of (OutOfOrder word) line earlier text = order_reason line earlier text
reason_of (BadNumber word) line earlier text = reason.Number
reason_of (OutsideSection word) line earlier text = reason.Number
reason_of (TooMany word) line earlier text = reason.Number

-- what is known of the line of a text with a number
abbrev pub script_note : LineFault → ℕ → Option ℕ → List ℕ → ScriptNote
script_note fault number earlier text = record {
  reason = reason_of fault (line_in text number) earlier text;
  excerpt = excerpt_of (line_in text number) (word_range (line_in text number) (fault_word fault)).0 (word_range (line_in text number) (fault_word fault)).1;
}

-- the texts

-- the number of words in a line, and the number that lines with its first word have
unfoldable pub words_text : ℕ → ℕ → List ℕ
words_text has wants = codes "\nA line with this first word has " ++ decimal wants ++ codes " words. This one has " ++ decimal has ++ codes ".\n"

abbrev pub oddity_text : Oddity → List ℕ
oddity_text oddity.CarriageReturn = codes "\nThe line has a carriage return. Save the script with line feeds alone.\n"
oddity_text oddity.Tab = codes "\nThe line has a tab. Write one space in its place.\n"
oddity_text oddity.Byte = codes "\nThe line has a byte that isn't printing ASCII.\n"
oddity_text oddity.SpaceAtStart = codes "\nThe line begins with a space.\n"
oddity_text oddity.SpaceAtEnd = codes "\nThe line ends with a space.\n"
oddity_text oddity.TwoSpaces = codes "\nThe line has two spaces in a row.\n"
oddity_text oddity.FirstWord = codes "\nNo line of a script begins with its first word.\n"
oddity_text (oddity.Words has wants) = words_text has wants
oddity_text oddity.Spelling = codes "\nA name has more than 255 bytes, or the hex digits aren't pairs.\n"

-- words, each after a space
abbrev pub each_text : List (List ℕ) → List ℕ
each_text [] = []
each_text (word ∷ words) = (codes " " ++ word) ++ each_text words

unfoldable pub choices_text : WordKind → List ℕ
choices_text kind = codes "\nThe word has to be one of these:" ++ (each_text (choices_of kind) ++ 10 ∷ [])

-- a sentence with the number of a line
abbrev pub about_text : List ℕ → ℕ → List ℕ → List ℕ
about_text before line after = before ++ decimal line ++ after

unfoldable pub reason_text : Reason → List ℕ
reason_text reason.Number = 10 ∷ []
reason_text (reason.Odd odd) = oddity_text odd
reason_text (reason.Choices kind) = choices_text kind
reason_text (reason.Near line) = about_text (codes "\nLine ") line (codes " declares a name that is nearly this one.\n")
reason_text (reason.Repeated line) = about_text (codes "\nLine ") line (codes " has the same name.\n")
reason_text (reason.Later line) = about_text (codes "\nIt has to come before line ") line (codes ", which is of a later group.\n")
reason_text (reason.Again line) = about_text (codes "\nLine ") line (codes " is of the same kind, and a script has one such line.\n")
reason_text reason.NoLibrary = codes "\nNo library comes before this import.\n"
reason_text (reason.Overlaps line) = about_text (codes "\nIt overlaps a word that line ") line (codes " fills.\n")

abbrev pub script_text : ScriptNote → List ℕ
script_text note = reason_text note.reason ++ excerpt_text note.excerpt
