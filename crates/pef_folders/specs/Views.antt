-- The values of names, without places in memory.
use Rattle.std.specs.Prelude.{ℕ, List, Result, map, string_bytes}
use Rattle.std.specs.declared.alloc.Global.{Global}
use Rattle.std.specs.declared.string.String.{String}
use Rattle.std.specs.declared.vec.Vec.{Vec}
use Rattle.pef_words.specs.Refusals.{result_map}
use Rattle.pef_folders.specs.declared.folders.FolderFault.{FolderFault}

abbrev pub names_seen : Result (Vec (String Global) Global) FolderFault → Result (List (List ℕ)) FolderFault
names_seen listed = result_map (λ names. map string_bytes names.items) listed
