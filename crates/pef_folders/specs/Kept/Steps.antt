-- Steps of an expansion, for the proofs of this crate.
use Rattle.std.specs.Prelude.{◌≡◌, ℕ, List, [], ◌∷◌, ◌++◌, Result, codes}
use Rattle.pef_folders.specs.Expansions.{Expands, Item}
use Rattle.pef_folders.specs.declared.expansion.Reading.{Reading}
use Rattle.pef_folders.specs.declared.expansion.Reading.TheVariants.{Program, Command, Options, Folder, Operands}
use Rattle.pef_folders.specs.declared.folders.FolderFault.{FolderFault}

-- the words of some items were added
abbrev pub Adds : (List ℕ → Result (List (List ℕ)) FolderFault → Type 0) → List Item → List (List ℕ) → List (List ℕ) → Type 0
Adds Listed items before after =
    (added : List (List ℕ)) × (after ≡ before ++ added) × ((others : List Item) (tail : List (List ℕ)) → Expands Listed others tail → Expands Listed (items ++ others) (added ++ tail))

-- `-L` without a folder stays
abbrev pub ending_words : Reading → List (List ℕ)
ending_words Program = []
ending_words Command = []
ending_words Options = []
ending_words Folder = codes "-L" ∷ []
ending_words Operands = []
