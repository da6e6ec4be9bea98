-- The result of reading the words `NAME=FILE`.
use Rattle.std.specs.Prelude.{◌≡◌, ℕ, ⊤, List, map, Option, None, Some, Result, Ok, Err}
use Rattle.std.specs.declared.vec.Vec.{Vec}
use Rattle.std.specs.declared.alloc.Global.{Global}
use Rattle.pef_request.specs.Requests.{named_path}
use Rattle.pef_request.specs.declared.files.NamedFile.{NamedFile}
use Rattle.pef_request.specs.declared.command_line.WordsFault.{WordsFault}
use Rattle.pef_request.specs.declared.command_line.WordsFault.TheVariants.{Usage, OutOfMemory}

-- the files that the words name, or that one of the words names no file
abbrev pub AnswersFiles : Result (Vec NamedFile Global) WordsFault → Option (List (List ℕ × List ℕ)) → Type 0
AnswersFiles (Ok files) named = named ≡ Some (map named_path files.items)
AnswersFiles (Err Usage) named = named ≡ None
AnswersFiles (Err OutOfMemory) named = ⊤
