-- The forms of lines, in one table (docs/SCRIPTS.md, "The order of lines" and "Lines").
use Rattle.std.specs.Prelude.{ℕ, Bool, true, false, List, [], ◌∷◌, Option, None, Some, codes, map, if◌then◌else◌}
use Rattle.std.specs.Str.{bytes_eq}
use Rattle.pef_script.specs.declared.text.form.Form.{Form}
use Rattle.pef_script.specs.declared.text.form.Form.TheVariants as form
use Rattle.pef_script.specs.declared.text.form.Names.{Names}
use Rattle.pef_script.specs.declared.text.form.Names.TheVariants as names
use Rattle.pef_script.specs.declared.text.form.Row.{Row}
use Rattle.pef_script.specs.declared.text.form.WordKind.{WordKind}
use Rattle.pef_script.specs.declared.text.form.WordKind.TheVariants as kind
use Rattle.pef_script.specs.Text.Contents.{base_words}
use Rattle.pef_script.specs.Text.Declarations.{class_words, kind_words, option_words, share_words, strength_words}
use Rattle.pef_script.specs.Text.SoFar.{content_group, export_group, init_group, library_group, main_group, section_group, term_group, versions_group}

-- the first word of a form, its group, whether a script has at most one such line, what the line declares the name of
-- (its word 1), and what its words after the first are
pub record FormRow : Type 0 where
  pub first_word : List ℕ
  pub group : ℕ
  pub is_once : Bool
  pub declares : Option Names
  pub words : List WordKind

abbrev pub row_of : Form → FormRow
row_of form.Versions = record { first_word = codes "versions"; group = versions_group; is_once = true; declares = None; words = kind.Current ∷ kind.OldDef ∷ kind.OldImp ∷ [] }
row_of form.Library = record { first_word = codes "library"; group = library_group; is_once = false; declares = Some names.Libraries; words = kind.NewName ∷ kind.Current ∷ kind.OldImp ∷ kind.Options ∷ [] }
row_of form.Import = record { first_word = codes "import"; group = library_group; is_once = false; declares = Some names.Imports; words = kind.NewName ∷ kind.Class ∷ kind.Strength ∷ [] }
row_of form.Section = record { first_word = codes "section"; group = section_group; is_once = false; declares = Some names.Sections; words = kind.NewName ∷ kind.Kind ∷ kind.Share ∷ kind.Align ∷ kind.Total ∷ [] }
row_of form.Bytes = record { first_word = codes "bytes"; group = content_group; is_once = false; declares = None; words = kind.SectionName ∷ kind.HexDigits ∷ [] }
row_of form.Fix = record { first_word = codes "fix"; group = content_group; is_once = false; declares = None; words = kind.SectionName ∷ kind.Offset ∷ kind.Base ∷ kind.BaseName ∷ [] }
row_of form.Tvector = record { first_word = codes "tvector"; group = content_group; is_once = false; declares = None; words = kind.SectionName ∷ kind.Offset ∷ kind.CodeName ∷ kind.DataName ∷ [] }
row_of form.Export = record { first_word = codes "export"; group = export_group; is_once = false; declares = Some names.Exports; words = kind.NewName ∷ kind.Class ∷ kind.SectionName ∷ kind.Offset ∷ [] }
row_of form.Reexport = record { first_word = codes "reexport"; group = export_group; is_once = false; declares = Some names.Exports; words = kind.NewName ∷ kind.Class ∷ kind.ImportName ∷ [] }
row_of form.Absolute = record { first_word = codes "absolute"; group = export_group; is_once = false; declares = Some names.Exports; words = kind.NewName ∷ kind.Class ∷ kind.Value ∷ [] }
row_of form.Main = record { first_word = codes "main"; group = main_group; is_once = true; declares = None; words = kind.SectionName ∷ kind.Offset ∷ [] }
row_of form.Init = record { first_word = codes "init"; group = init_group; is_once = true; declares = None; words = kind.SectionName ∷ kind.Offset ∷ [] }
row_of form.Term = record { first_word = codes "term"; group = term_group; is_once = true; declares = None; words = kind.SectionName ∷ kind.Offset ∷ [] }

-- a row of the code, without places in memory
abbrev pub row_seen : Row → FormRow
row_seen row = record { first_word = row.first_word.now; group = row.group; is_once = row.is_once; declares = row.declares; words = row.words.now }

abbrev pub all_forms : List Form
all_forms = form.Versions ∷ form.Library ∷ form.Import ∷ form.Section ∷ form.Bytes ∷ form.Fix ∷ form.Tvector ∷ form.Export ∷ form.Reexport ∷ form.Absolute ∷ form.Main ∷ form.Init ∷ form.Term ∷ []

-- the first of some forms that has a first word
abbrev pub form_among : List Form → List ℕ → Option Form
form_among [] word = None
form_among (form ∷ forms) word = if bytes_eq word (row_of form).first_word then Some form else form_among forms word

unfoldable pub form_of : List ℕ → Option Form
form_of word = form_among all_forms word

-- the name of a word, as the documents have it
abbrev pub kind_name : WordKind → List ℕ
kind_name kind.NewName = codes "NAME"
kind_name kind.Current = codes "CURRENT"
kind_name kind.OldDef = codes "OLDDEF"
kind_name kind.OldImp = codes "OLDIMP"
kind_name kind.Options = codes "OPTION"
kind_name kind.Class = codes "CLASS"
kind_name kind.Strength = codes "STRENGTH"
kind_name kind.Kind = codes "KIND"
kind_name kind.Share = codes "SHARE"
kind_name kind.Align = codes "ALIGN"
kind_name kind.Total = codes "TOTAL"
kind_name kind.SectionName = codes "SECTION"
kind_name kind.HexDigits = codes "HEX"
kind_name kind.Offset = codes "OFFSET"
kind_name kind.Base = codes "section or import"
kind_name kind.BaseName = codes "NAME"
kind_name kind.CodeName = codes "CODE"
kind_name kind.DataName = codes "DATA"
kind_name kind.ImportName = codes "IMPORT"
kind_name kind.Value = codes "VALUE"

-- the words of a table
abbrev pub words_in : {T : Type 0} → List (List ℕ × T) → List (List ℕ)
words_in table = map (λ entry. entry.0) table

-- the words that can be there, if these are a few fixed ones
abbrev pub choices_of : WordKind → List (List ℕ)
choices_of kind.Options = words_in option_words
choices_of kind.Class = words_in class_words
choices_of kind.Strength = words_in strength_words
choices_of kind.Kind = words_in kind_words
choices_of kind.Share = words_in share_words
choices_of kind.Base = words_in base_words
choices_of kind.NewName = []
choices_of kind.Current = []
choices_of kind.OldDef = []
choices_of kind.OldImp = []
choices_of kind.Align = []
choices_of kind.Total = []
choices_of kind.SectionName = []
choices_of kind.HexDigits = []
choices_of kind.Offset = []
choices_of kind.BaseName = []
choices_of kind.CodeName = []
choices_of kind.DataName = []
choices_of kind.ImportName = []
choices_of kind.Value = []
