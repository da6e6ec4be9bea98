-- What is printed of the forks of a file.
use Rattle.std.specs.Prelude.{ℕ, List, [], ◌++◌, Option, None, Some, codes, decimal, length}
use Rattle.mac_forks.specs.Parts.{Lying}
use Rattle.cfm_members.specs.Contents.{readable}
use Rattle.pef_rows.specs.Tokens.{at_text}
use Rattle.mac_rows.specs.MacParts.{WrappingIs}

-- the line of a fork
unfoldable pub fork_line : List ℕ → Lying → List ℕ
fork_line word part =
    at_text part.offset ++ codes " fork " ++ word ++ codes " size " ++ decimal (length part.bytes) ++ codes "\n"

abbrev pub maybe_line : List ℕ → Option Lying → List ℕ
maybe_line word None = []
maybe_line word (Some part) = fork_line word part

abbrev pub forks_lines : Option Lying → Option Lying → List ℕ
forks_lines data_fork resource_fork = maybe_line (codes "data") data_fork ++ maybe_line (codes "resource") resource_fork

-- .. of a file
abbrev pub fork_lines_of : WrappingIs → List ℕ
fork_lines_of w = forks_lines (readable w.data_fork) (readable w.resource_fork)

-- the object of a fork
unfoldable pub fork_object : List ℕ → Lying → List ℕ
fork_object word part =
    codes "{\"kind\":\"" ++ word ++ codes "\",\"offset\":" ++ decimal part.offset ++ codes ",\"length\":"
    ++ decimal (length part.bytes) ++ codes "}"

abbrev pub maybe_object : List ℕ → Option Lying → List ℕ
maybe_object word None = []
maybe_object word (Some part) = fork_object word part

-- the comma between two forks
abbrev pub between : Option Lying → Option Lying → List ℕ
between (Some d) (Some r) = codes ","
between (Some d) None = []
between None (Some r) = []
between None None = []

abbrev pub forks_json : Option Lying → Option Lying → List ℕ
forks_json data_fork resource_fork =
    maybe_object (codes "data") data_fork ++ (between data_fork resource_fork ++ maybe_object (codes "resource") resource_fork)

-- .. of a file
abbrev pub fork_objects_of : WrappingIs → List ℕ
fork_objects_of w = forks_json (readable w.data_fork) (readable w.resource_fork)
