-- What is printed of names that are cut.
use Rattle.std.proofs.Common.{◌≡◌, ℕ, ◌<◌, ◌≤◌, ◌++◌, inl, inr, List, None, Some, length, take, refl, arith}
use Rattle.std.proofs.lemmas.Bool.{le-leb, lt-leb}
use Rattle.std.proofs.lemmas.Bool.Decides.{leb_tells}
use Rattle.std.proofs.lemmas.List.{length-take-le, take-take}
use Rattle.pef_loader.specs.CutNames.{cut_name}
use Rattle.pef_rows.specs.Theorems.{PrintsNames}
use Rattle.pef_rows.specs.Tokens.{cut_member, label_member, label_text, length_member, name_member}

-- the 4,096 bytes of a longer name that are looked at are more than the 1,024 that are printed, and begin with these
cut-long : (name : List ℕ) → 4096 < length name → 1024 < length (take 4096 name)
cut-long name long = let len = length-take-le 4096 name (omega arith) in omega arith

cut-begins : (name : List ℕ) → take 1024 (take 4096 name) ≡ take 1024 name
cut-begins name = take-take 1024 4096 name (omega arith)

line-is : (name : List ℕ) → label_text (cut_name 4096 name).bytes ≡ label_text name
unfolding cut_name label_text
line-is name = elim (leb_tells 4097 (length name)) [
  | inl long ↦ rw (long.0, le-leb 1025 (length (take 4096 name)) (cut-long name long.1), le-leb 1025 (length name) (let p = long.1 in omega arith), cut-begins name) refl
  | inr short ↦ rw short.0 refl
]

whole-is : (key name : List ℕ) → length name ≤ 1024 → label_member key (cut_name 4096 name) ≡ name_member key name
unfolding cut_name label_member
whole-is key name short = rw (lt-leb 4097 (length name) (omega arith), lt-leb 1025 (length name) (omega arith)) refl

long-is : (key name : List ℕ) → 1024 < length name → length name ≤ 4096 → label_member key (cut_name 4096 name) ≡ name_member key (take 1024 name) ++ length_member key (Some (length name))
unfolding cut_name label_member cut_member
long-is key name long fits = rw (lt-leb 4097 (length name) (omega arith), le-leb 1025 (length name) (omega arith)) refl

longer-is : (key name : List ℕ) → 4096 < length name → label_member key (cut_name 4096 name) ≡ name_member key (take 1024 name) ++ length_member key None
unfolding cut_name label_member cut_member
longer-is key name long = rw (le-leb 4097 (length name) (omega arith), le-leb 1025 (length (take 4096 name)) (cut-long name long), cut-begins name) refl

pub prints_names : PrintsNames
prints_names = record { line = line-is; whole = whole-is; long = long-is; longer = longer-is }
