-- What is printed of names that are cut.
use Rattle.std.specs.Prelude.{◌≡◌, ℕ, ◌<◌, ◌≤◌, List, ◌++◌, None, Some, length, take}
use Rattle.pef_loader.specs.CutNames.{cut_name}
use Rattle.pef_rows.specs.Tokens.{label_member, label_text, length_member, name_member}

-- what is printed of a row's name, of which at most 4,096 bytes are looked at: the line is that of the whole name, and so is
-- the object, which has no length if the name is longer
pub record PrintsNames : Type 0 where
  pub line : (name : List ℕ) → label_text (cut_name 4096 name).bytes ≡ label_text name
  pub whole : (key name : List ℕ) → length name ≤ 1024 → label_member key (cut_name 4096 name) ≡ name_member key name
  pub long : (key name : List ℕ) → 1024 < length name → length name ≤ 4096
      → label_member key (cut_name 4096 name) ≡ name_member key (take 1024 name) ++ length_member key (Some (length name))
  pub longer : (key name : List ℕ) → 4096 < length name
      → label_member key (cut_name 4096 name) ≡ name_member key (take 1024 name) ++ length_member key None
