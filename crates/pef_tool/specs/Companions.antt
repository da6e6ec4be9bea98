-- The companion of a file: another file that has its resource fork. Where `inspect` and `extract` look for it, and what they
-- find. macOS makes `._NAME`, and in archives one folder `__MACOSX` that mirrors all others, netatalk `.AppleDouble/NAME`,
-- emulators and other tools the rest. The order is this project's own.
use Rattle.std.specs.Prelude.{◌≡◌, ◌⊎◌, ◌==◌, ◌||◌, ◌&&◌, ℕ, zero, suc, Bool, true, false, not, List, [], ◌∷◌, ◌++◌, Option, None, Some, Result, Ok, Err, codes, drop, get_or, length, take, if◌then◌else◌}
use Rattle.std.specs.Str.{bytes_eq}
use Rattle.mac_rows.specs.DataFiles.{is_data_fork, is_resource_file}
use Rattle.pef_faults.specs.declared.fault.Fault.{Fault}
use Rattle.pef_faults.specs.declared.fault.Fault.TheVariants.{OutOfMemory}
use Rattle.pef_ports.specs.Ports.{FilesPort, Reads}
use Rattle.pef_ports.specs.declared.ports.FileFault.TheVariants as file_fault

-- a path has a `/`
abbrev pub has_slash : List ℕ → Bool
has_slash [] = false
has_slash (b ∷ path) = b == 0x2F || has_slash path

-- the folder of a path: all up to its last `/`
abbrev pub folder_of : List ℕ → List ℕ
folder_of [] = []
folder_of (b ∷ path) = if has_slash (b ∷ path) then b ∷ folder_of path else []

-- the name at its end: all after its last `/`
abbrev pub name_of : List ℕ → List ℕ
name_of [] = []
name_of (b ∷ path) = if has_slash (b ∷ path) then name_of path else b ∷ path

-- a path in the same folder, with something before and after the name
abbrev pub place_of : List ℕ → List ℕ → List ℕ → List ℕ → List ℕ
place_of folder name before after = folder ++ (before ++ (name ++ after))

-- the places in the same folder
unfoldable pub near_places : List ℕ → List ℕ → List (List ℕ)
near_places folder name =
    let at = place_of folder name in
    at (codes "._") []
    ∷ at (codes "__MACOSX/._") []
    ∷ at (codes ".AppleDouble/") [] ∷ at (codes ".rsrc/") [] ∷ at [] (codes ".rsrc") ∷ at (codes "%") []
    ∷ at (codes "resource.frk/") [] ∷ at (codes ".resource/") [] ∷ []

-- the name of a folder may begin at an offset of a path: at its start, or after a `/`
abbrev pub is_start : List ℕ → ℕ → Bool
is_start folder zero = true
is_start folder (suc before) = get_or folder before 0 == 0x2F

-- the rest of a path begins with no name of a folder, but with `/`, or with this folder or the one above
abbrev pub is_unnamed : List ℕ → Bool
is_unnamed rest = bytes_eq (codes "/") (take 1 rest) || (bytes_eq (codes "./") (take 2 rest) || bytes_eq (codes "../") (take 3 rest))

-- the place in a folder above: `__MACOSX` is in the folder that ends at an offset, and mirrors the rest
abbrev pub mirror_of : List ℕ → List ℕ → ℕ → List ℕ
mirror_of folder name at = take at folder ++ (codes "__MACOSX/" ++ (drop at folder ++ (codes "._" ++ name)))

-- those of the folders that end before an offset, from the nearest outwards, as long as the folders below them have names
abbrev pub mirrors_before : List ℕ → List ℕ → ℕ → List (List ℕ)
mirrors_before folder name zero = []
mirrors_before folder name (suc at) =
    if not (is_start folder at) then mirrors_before folder name at
    else if is_unnamed (drop at folder) then []
    else mirror_of folder name at ∷ mirrors_before folder name at

-- the places that are looked at, in order: those in the same folder, and then those in the folders above
unfoldable pub companion_places : List ℕ → List (List ℕ)
companion_places path =
    near_places (folder_of path) (name_of path) ++ mirrors_before (folder_of path) (name_of path) (length (folder_of path))

-- a file may have a companion: it can be a data fork, and its name isn't that of a companion of macOS
unfoldable pub may_have_companion : List ℕ → List ℕ → Bool
may_have_companion path bytes = not (bytes_eq (codes "._") (take 2 (name_of path))) && is_data_fork bytes

-- a companion: its path, and its bytes or why it wasn't read
pub record CompanionIs : Type 0 where
  pub path : List ℕ
  pub read : Result (List ℕ) Fault

-- no companion is at a place: no file can be read there, or it has no resource fork that can be read
abbrev pub IsPassed : {F : Type 0} → FilesPort F → F → F → List ℕ → Type 0
IsPassed port before after place =
    Reads port before after place (Err file_fault.Failed)
    ⊎ ((bytes : List ℕ) × Reads port before after place (Ok bytes) × (is_resource_file bytes ≡ false))

-- a companion is there
abbrev pub IsFound : {F : Type 0} → FilesPort F → F → F → List ℕ → CompanionIs → Type 0
IsFound port before after place c =
    (bytes : List ℕ) × Reads port before after place (Ok bytes) × (is_resource_file bytes ≡ true) × (c ≡ record { path = place; read = Ok bytes })

-- an allocation failed. This is reported with the path of the file itself
abbrev pub IsLacking : {F : Type 0} → FilesPort F → List ℕ → F → F → List ℕ → CompanionIs → Type 0
IsLacking port path before after place c =
    (Reads port before after place (Err file_fault.OutOfMemory) ⊎ (after ≡ before)) × (c ≡ record { path = path; read = Err OutOfMemory })

-- one place was looked at
abbrev pub LooksAt : {F : Type 0} → FilesPort F → List ℕ → F → F → List ℕ → Option CompanionIs → Type 0
LooksAt port path before after place None = IsPassed port before after place
LooksAt port path before after place (Some c) = IsFound port before after place c ⊎ IsLacking port path before after place c

-- some places were looked at, one after the other, up to the first that has a companion
abbrev pub Looks : {F : Type 0} → FilesPort F → List ℕ → F → F → List (List ℕ) → Option CompanionIs → Type 0
Looks {F} port path before after [] companion = (companion ≡ None) × (after ≡ before)
Looks {F} port path before after (place ∷ places) companion =
    ((c : CompanionIs) × LooksAt port path before after place (Some c) × (companion ≡ Some c))
    ⊎ ((between : F) × LooksAt port path before between place None × Looks port path between after places companion)

-- the companion of a file was looked for, if the file may have one
abbrev pub LooksIf : {F : Type 0} → Bool → FilesPort F → F → F → List ℕ → Option CompanionIs → Type 0
LooksIf true port before after path companion = Looks port path before after (companion_places path) companion
LooksIf false port before after path companion = (companion ≡ None) × (after ≡ before)
