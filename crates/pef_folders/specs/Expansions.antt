-- The words of a command line with its folders expanded: of `prepare`, each folder of an option `-L` is replaced by the files in it,
-- each as a word `--library=FOLDER/NAME`.
use Rattle.std.specs.Prelude.{◌≡◌, ℕ, ◌-◌, ◌==◌, ◌&&◌, Bool, true, false, List, [], ◌∷◌, ◌++◌, Option, None, Some, Result, Ok, Err, codes, length, slice_index_or, if◌then◌else◌}
use Rattle.std.specs.Str.{bytes_eq}
use Rattle.pef_folders.specs.declared.expansion.Reading.{Reading}
use Rattle.pef_folders.specs.declared.expansion.Reading.TheVariants.{Program, Command, Options, Folder, Operands}
use Rattle.pef_folders.specs.declared.folders.FolderFault.{FolderFault}

-- a word of the command line, or a folder with the words that name it
pub data Item : Type 0 where
  word : List ℕ → Item
  folder : List ℕ → List (List ℕ) → Item

-- what follows `-L` in a word; none if it doesn't begin so
abbrev pub after_flag : List ℕ → Option (List ℕ)
after_flag [] = None
after_flag (a ∷ []) = None
after_flag (a ∷ b ∷ rest) = if a == 0x2D && b == 0x4C then Some rest else None

-- a value that is attached to an option, without one `=`
abbrev pub without_equals : List ℕ → List ℕ
without_equals [] = []
without_equals (b ∷ rest) = if b == 0x3D then rest else b ∷ rest

-- what a word is, by what is read: the program's name, the command, an option or operand, a folder, or an operand after `--`
abbrev pub value_here : List ℕ → List ℕ → List Item
value_here w value = if length value == 0 then [] else folder (without_equals value) (w ∷ []) ∷ []

abbrev pub option_here : List ℕ → Option (List ℕ) → List Item
option_here w None = word w ∷ []
option_here w (Some value) = value_here w value

abbrev pub here : Reading → List ℕ → List Item
here Program w = word w ∷ []
here Command w = word w ∷ []
here Options w = option_here w (after_flag w)
here Folder w = folder w (codes "-L" ∷ w ∷ []) ∷ []
here Operands w = word w ∷ []

-- what is read after it
abbrev pub after_value : List ℕ → Reading
after_value value = if length value == 0 then Folder else Options

abbrev pub after_option : List ℕ → Option (List ℕ) → Reading
after_option w None = if bytes_eq w (codes "--") then Operands else Options
after_option w (Some value) = after_value value

abbrev pub next : Reading → List ℕ → Reading
next Program w = Command
next Command w = if bytes_eq w (codes "prepare") then Options else Operands
next Options w = after_option w (after_flag w)
next Folder w = Options
next Operands w = Operands

-- `-L` without a folder is a word
abbrev pub ending : Reading → List Item
ending Program = []
ending Command = []
ending Options = []
ending Folder = word (codes "-L") ∷ []
ending Operands = []

-- the items of some words
abbrev pub items_from : Reading → List (List ℕ) → List Item
items_from reading [] = ending reading
items_from reading (w ∷ words) = here reading w ++ items_from (next reading w) words

-- the word of a file in a folder. A file whose name begins with `.` has none
abbrev pub ends_with_slash : List ℕ → Bool
ends_with_slash path = slice_index_or path (length path - 1) 0 == 0x2F

abbrev pub joined : List ℕ → List ℕ → List ℕ
joined path name = if ends_with_slash path then path ++ name else path ++ 0x2F ∷ name

abbrev pub is_hidden : List ℕ → Bool
is_hidden [] = true
is_hidden (b ∷ name) = b == 0x2E

abbrev pub library_word : List ℕ → List ℕ → List ℕ
library_word path name = codes "--library=" ++ joined path name

abbrev pub file_words : List ℕ → List ℕ → List (List ℕ)
file_words path name = if is_hidden name then [] else library_word path name ∷ []

abbrev pub library_words : List ℕ → List (List ℕ) → List (List ℕ)
library_words path [] = []
library_words path (name ∷ names) = file_words path name ++ library_words path names

-- the words that a folder becomes. One that can't be listed stays as it is
abbrev pub words_of : List ℕ → List (List ℕ) → Result (List (List ℕ)) FolderFault → List (List ℕ)
words_of path named (Ok names) = library_words path names
words_of path named (Err fault) = named

-- these are the words of some items, if each folder was listed by a call that may have this answer
abbrev pub Expands : (List ℕ → Result (List (List ℕ)) FolderFault → Type 0) → List Item → List (List ℕ) → Type 0
Expands Listed [] words = words ≡ []
Expands Listed (word w ∷ items) words = (rest : List (List ℕ)) × (words ≡ w ∷ rest) × Expands Listed items rest
Expands Listed (folder path named ∷ items) words =
    (answer : Result (List (List ℕ)) FolderFault) × (rest : List (List ℕ)) × Listed path answer × (words ≡ words_of path named answer ++ rest) × Expands Listed items rest
