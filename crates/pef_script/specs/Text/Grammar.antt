-- The grammar of link scripts, line by line (docs/SCRIPTS.md). Each line is refused by its first fault, or adds to the
-- script so far. Lines come in groups, and none is after one of a later group.
use Rattle.std.specs.Prelude.{ℕ, true, ◌+◌, ◌==◌, Bool, List, [], ◌∷◌, Option, None, Some, Result, Ok, Err, if◌then◌else◌}
use Rattle.std.specs.Option.{is_some, ok_or}
use Rattle.pef_words.specs.Results.{◌>>=◌}
use Rattle.pef_script.specs.declared.text.fault.LineFault.{LineFault}
use Rattle.pef_script.specs.declared.text.fault.LineFault.TheVariants.{BadLine}
use Rattle.pef_script.specs.declared.parts.Versions.{Versions}
use Rattle.pef_script.specs.declared.text.form.Form.{Form}
use Rattle.pef_script.specs.declared.text.form.Form.TheVariants as form
use Rattle.pef_script.specs.Script.{DescribedScript}
use Rattle.pef_script.specs.declared.text.places.Word.{Word}
use Rattle.pef_script.specs.Text.Earlier.{earlier_of}
use Rattle.pef_script.specs.Text.Faults.{fault_word}
use Rattle.pef_script.specs.Text.Forms.{form_of}
use Rattle.pef_script.specs.Text.Places.{word_at}
use Rattle.pef_script.specs.Text.SoFar.{ScriptSoFar}
use Rattle.pef_script.specs.Text.Declarations.{versions_line, library_line, import_line, section_line}
use Rattle.pef_script.specs.Text.Contents.{bytes_line, fix_line, tvector_line}
use Rattle.pef_script.specs.Text.Exports.{export_line, reexport_line, absolute_line, main_line, init_line, term_line}
use Rattle.pef_lines.specs.Lines.{lines_of}
use Rattle.pef_lines.specs.Words as words

-- the rest of a line of a form
abbrev pub line_by_form : ScriptSoFar → Form → List ℕ → Result ScriptSoFar LineFault
line_by_form s form.Versions rest = versions_line s rest
line_by_form s form.Library rest = library_line s rest
line_by_form s form.Import rest = import_line s rest
line_by_form s form.Section rest = section_line s rest
line_by_form s form.Bytes rest = bytes_line s rest
line_by_form s form.Fix rest = fix_line s rest
line_by_form s form.Tvector rest = tvector_line s rest
line_by_form s form.Export rest = export_line s rest
line_by_form s form.Reexport rest = reexport_line s rest
line_by_form s form.Absolute rest = absolute_line s rest
line_by_form s form.Main rest = main_line s rest
line_by_form s form.Init rest = init_line s rest
line_by_form s form.Term rest = term_line s rest

-- the rest of a line of one of the forms
abbrev pub line_by : ScriptSoFar → Option Form → List ℕ → Result ScriptSoFar LineFault
line_by s None rest = Err (BadLine 0)
line_by s (Some form) rest = line_by_form s form rest

-- the first word of a line and the rest after it
unfoldable pub line_by_word : ScriptSoFar → List ℕ × List ℕ → Result ScriptSoFar LineFault
line_by_word s p = line_by s (form_of p.0) p.1

-- an empty line, or one that starts with `#`, is ignored
abbrev pub is_skipped : List ℕ → Bool
is_skipped [] = true
is_skipped (b ∷ bytes) = b == 0x23

-- the first word of a line and the rest after its space. If there is none, it is the next word that is missing, or the
-- first that can't be read
abbrev pub first_word : List ℕ → Result (List ℕ × List ℕ) LineFault
first_word line = ok_or (words.next_word line) (BadLine (if is_some (form_of line) then 1 else 0))

-- the script so far after a line
unfoldable pub line_of : ScriptSoFar → List ℕ → Result ScriptSoFar LineFault
line_of s line = if is_skipped line then Ok s else first_word line >>= line_by_word s

-- a fault and the number of its line, from 1
pub record NumberedFault : Type 0 where
  pub fault : LineFault
  pub line : ℕ

-- a line's fault, or the result of the lines after it
abbrev pub after_line : Result ScriptSoFar LineFault → ℕ → (ScriptSoFar → Result DescribedScript NumberedFault) → Result DescribedScript NumberedFault
after_line (Ok s) number others = others s
after_line (Err fault) number others = Err (record { fault = fault; line = number })

-- the lines from a number on
abbrev pub read_lines : ScriptSoFar → ℕ → List (List ℕ) → Result DescribedScript NumberedFault
read_lines s number [] = Ok s.script
read_lines s number (line ∷ lines) = after_line (line_of s line) number (λ next. read_lines next (number + 1) lines)

-- nothing was read yet
abbrev pub no_versions : Versions
no_versions = record { current = 0; old_def = 0; old_imp = 0 }

abbrev pub no_script : DescribedScript
no_script = record { versions = no_versions; libraries = []; imports = []; sections = []; exports = []; main = None; init = None; term = None }

abbrev pub no_lines : ScriptSoFar
no_lines = record { script = no_script; reached = 0 }

-- a fault, the number of its line, its word, and the number of the earlier line that it is about
pub record LineRefusal : Type 0 where
  pub fault : LineFault
  pub line : ℕ
  pub word : Word
  pub earlier : Option ℕ

-- the fault of a line of a text, with its places
abbrev pub refusal_in : List ℕ → NumberedFault → LineRefusal
refusal_in text f = record { fault = f.fault; line = f.line; word = word_at text f.line (fault_word f.fault); earlier = earlier_of text f.line f.fault }

abbrev pub located : List ℕ → Result DescribedScript NumberedFault → Result DescribedScript LineRefusal
located text (Ok script) = Ok script
located text (Err f) = Err (refusal_in text f)

-- the script that a text is, or the first refusal
unfoldable pub script_of : List ℕ → Result DescribedScript LineRefusal
script_of text = located text (read_lines no_lines 1 (lines_of text))
