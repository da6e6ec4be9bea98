-- The lines of stubs, and of the files that fragments come from.
use Rattle.std.specs.Prelude.{ℕ, List, ◌++◌, codes}
use Rattle.pef_ports.specs.Names.{name_text}
use Rattle.pef_ports.specs.Text.{word_text}

-- a stub, by its library's name
unfoldable pub stub_line : List ℕ → List ℕ
stub_line library = codes "stub " ++ name_text library ++ codes "\n"

-- what a number in memory means: a symbol of a stub
unfoldable pub symbol_line : ℕ → List ℕ → List ℕ
symbol_line address name = codes "symbol " ++ word_text address ++ codes " " ++ name_text name ++ codes "\n"

-- the path of the file that a fragment comes from
unfoldable pub source_line : List ℕ → List ℕ → List ℕ
source_line fragment path = codes "source " ++ name_text fragment ++ codes " " ++ name_text path ++ codes "\n"
