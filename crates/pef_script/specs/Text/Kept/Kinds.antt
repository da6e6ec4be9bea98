-- A line `fix`, with the kind of its base read before the name. An error of the kind is reported after those of the words and
-- of the order of lines.
use Rattle.std.specs.Prelude.{ℕ, Bool, List, [], ◌∷◌, Result, Ok}
use Rattle.pef_words.specs.Refusals.{first_met, unless}
use Rattle.pef_words.specs.Results.{◌>>=◌}
use Rattle.pef_reloc.specs.declared.fixup.Fixup.{Fixup}
use Rattle.pef_script.specs.declared.text.fault.LineFault.{LineFault}
use Rattle.pef_script.specs.Limits.{greatest_number}
use Rattle.pef_script.specs.Text.Contents.{base_named, fixup_of, fixup_tests, is_section_word}
use Rattle.pef_script.specs.Text.SoFar.{ScriptSoFar, content_group, entered, section_named}
use Rattle.pef_script.specs.Text.Words.{last_name, next_name_and_word, next_word, number_up_to}

-- a word for the kind of a base, with the rest after it
abbrev pub kind_before : List ℕ × List ℕ → Result Bool LineFault × List ℕ
kind_before word = (is_section_word 3 word.0, word.1)

-- whether the next word of a line says that a base is a section, and the rest after its space
unfoldable pub next_kind : List ℕ → Result (Result Bool LineFault × List ℕ) LineFault
next_kind line = do
  word ← next_word 3 line
  Ok (kind_before word)

-- the number of a section, and the fixup that a line has for it, by the words for its place, the name of its base and
-- the kind of that
abbrev pub fixup_for : ScriptSoFar → List ℕ × List ℕ × List ℕ → List ℕ → Result Bool LineFault → Result (ℕ × Fixup) LineFault
fixup_for s place line kind = do
  target ← last_name 4 line
  group ← entered s content_group
  is_section ← kind
  offset ← number_up_to greatest_number 2 place.1
  k ← section_named s 1 place.0
  target ← base_named s is_section 4 target
  unless (first_met (fixup_tests s k offset 1)) (Ok (k, fixup_of offset target))

unfoldable pub fixup_by_kind : ScriptSoFar → List ℕ → Result (ℕ × Fixup) LineFault
fixup_by_kind s line = do
  place ← next_name_and_word 1 line
  kind ← next_kind place.2
  fixup_for s place kind.1 kind.0

-- words, each with its value
abbrev pub paired : {T : Type 0} → List (List ℕ) → List T → List (List ℕ × T)
paired [] values = []
paired (word ∷ words) [] = []
paired (word ∷ words) (value ∷ values) = (word, value) ∷ paired words values
