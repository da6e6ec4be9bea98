-- The arguments of commands, by `clap`'s words for them.
use Rattle.std.specs.Prelude.{ℕ, Bool, true, false, List, [], ◌∷◌, Option, None, Some, codes}
use Rattle.std.specs.Str.{bytes_eq}
use Rattle.clap.specs.Walk.{Row, Rule, Text, first_of}
use Rattle.clap.specs.declared.builder.action.ArgAction.TheVariants.{Append, SetTrue}
use Rattle.clap.specs.Words.{App, new_rule, with_rule}

-- a required operand
abbrev pub operand : Text → Rule
operand name = record (new_rule name) { required = true }

-- the maximum number of files of a command that prepares them
abbrev pub most_files : ℕ
most_files = 256

-- the operand of such a command, which takes one word or more
abbrev pub files_operand : Text → Rule
files_operand name = record (operand name) { range = Some (record { start_inclusive = 1; end_inclusive = most_files }) }

-- a flag
abbrev pub flag : Text → Rule
flag name = record (new_rule name) { long = Some name; action = Some SetTrue }

-- an option with a value
abbrev pub valued : Text → Rule
valued name = record (new_rule name) { long = Some name; value_names = 1 }

-- an option of one letter with a value
abbrev pub lettered : Text → ℕ → Rule
lettered name letter = record (new_rule name) { short = Some letter; value_names = 1 }

-- an option that may be given several times
abbrev pub repeated : Rule → Rule
repeated option = record option { action = Some Append }

-- a flag was given, by the text of its value
abbrev pub is_set : Option Text → Bool
is_set None = false
is_set (Some value) = bytes_eq value (codes "true")

-- whether a flag is among what a command was given
abbrev pub has_flag : Text → List Row → Bool
has_flag name rows = is_set (first_of name rows)

-- a command with some arguments more
abbrev pub with_rules : App → List Rule → App
with_rules command [] = command
with_rules command (rule ∷ rules) = with_rules (with_rule command rule) rules
