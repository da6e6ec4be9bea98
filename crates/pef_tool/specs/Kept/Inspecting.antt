-- What `inspect` keeps of a file that it reads, and of its companion.
use Rattle.std.specs.Prelude.{ℕ, List, [], ◌∷◌, Option, None, Some, Result, Ok, Err}
use Rattle.std.specs.declared.alloc.Global.{Global}
use Rattle.std.specs.declared.vec.Vec.{Vec}
use Rattle.pef_words.specs.Refusals.{result_map}
use Rattle.pef_faults.specs.declared.fault.Fault.{Fault}
use Rattle.pef_faults.specs.declared.fault.Fault.TheVariants.{OutOfMemory}
use Rattle.pef_tool.specs.Companions.{CompanionIs, mirror_of, mirrors_before, place_of}
use Rattle.pef_tool.specs.declared.companion.Companion.{Companion}
use Rattle.pef_tool.specs.declared.companion.Companion.TheVariants as companion
use Rattle.pef_tool.specs.declared.companion.CompanionPlace.{CompanionPlace}

-- the bytes that were read, or why not
abbrev pub read_seen : Result (Vec ℕ Global) Fault → Result (List ℕ) Fault
read_seen read = result_map (λ bytes. bytes.items) read

-- the companion of the file at a path
abbrev pub companion_seen : List ℕ → Companion → CompanionIs
companion_seen own (companion.Found path bytes) = record { path = path.items; read = Ok bytes.items }
companion_seen own (companion.Given named) = record { path = named.path.now; read = read_seen named.bytes }
companion_seen own companion.Lacking = record { path = own; read = Err OutOfMemory }

-- the places from an offset on outwards, if there is one
abbrev pub mirrors_from : List ℕ → List ℕ → Option ℕ → List (List ℕ)
mirrors_from folder name None = []
mirrors_from folder name (Some at) = mirror_of folder name at ∷ mirrors_before folder name at

-- the path of a place
abbrev pub place_seen : List ℕ → List ℕ → CompanionPlace → List ℕ
place_seen folder name place = place_of folder name place.before.now place.after.now
