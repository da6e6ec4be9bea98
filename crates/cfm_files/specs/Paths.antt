-- The paths of the files that get stubs and the sections of prepared memory (docs/USAGE.md, `prepare` and `stubs`).
use Rattle.std.specs.Prelude.{ℕ, ◌==◌, ◌&&◌, ◌++◌, not, List, [], ◌∷◌, codes, decimal, if◌then◌else◌}
use Rattle.pef_ports.specs.Names.{is_plain_byte}
use Rattle.pef_ports.specs.Text.{hex_text}

-- a byte of the name of a fragment or a library in the name of its file: as names are printed, and `/` like a byte that isn't printed
unfoldable pub file_byte : ℕ → List ℕ
file_byte b = if is_plain_byte b && not (b == 0x2F) then b ∷ [] else 37 ∷ hex_text (b ∷ [])

abbrev pub file_name : List ℕ → List ℕ
file_name [] = []
file_name (b ∷ name) = file_byte b ++ file_name name

-- the path of a library's stub in a folder
abbrev pub stub_path : List ℕ → List ℕ → List ℕ
stub_path folder library = folder ++ codes "/" ++ file_name library ++ codes ".pef"

-- the path of section i of a fragment in a folder
abbrev pub section_path : List ℕ → List ℕ → ℕ → List ℕ
section_path folder fragment i = folder ++ codes "/" ++ file_name fragment ++ codes "." ++ decimal i ++ codes ".bin"
