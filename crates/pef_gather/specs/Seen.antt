-- Files, fragments and errors, without their places in memory.
use Rattle.std.specs.Prelude.{◌≡◌, ⊤, List, Result, Ok, Err, map, option_map}
use Rattle.std.specs.declared.alloc.Global.{Global}
use Rattle.std.specs.declared.vec.Vec.{Vec}
use Rattle.mac_fragments.specs.Candidates.{candidate_seen}
use Rattle.pef_gather.specs.Gathered as gathered
use Rattle.pef_gather.specs.declared.fault.GatherFault.{GatherFault}
use Rattle.pef_gather.specs.declared.fault.GatherFault.TheVariants.{Untold, RootMissing, StoreFull, OutOfMemory}
use Rattle.pef_gather.specs.declared.files.Found.{Found}
use Rattle.pef_gather.specs.declared.files.GivenFile.{GivenFile}

abbrev pub given_seen : GivenFile → gathered.Given
given_seen file = record {
  name = option_map (λ name. name.now) file.name;
  file_name = file.file_name.now;
  path = file.path.now;
  bytes = file.bytes.now;
  resources = option_map (λ bytes. bytes.now) file.resources;
  is_library = file.is_library;
}

abbrev pub found_seen : Found → gathered.Found
found_seen f = record { candidate = candidate_seen f.candidate; path = f.path.now; is_library = f.is_library }

-- an error is the expected one, unless an allocation failed
abbrev pub FailsAs : GatherFault → Result (List gathered.Found) gathered.Refusal → Type 0
FailsAs (Untold path fault) expected = expected ≡ Err (gathered.untold path.now fault)
FailsAs RootMissing expected = expected ≡ Err gathered.root_missing
FailsAs StoreFull expected = ⊥
FailsAs OutOfMemory expected = ⊤

-- the fragments are the expected ones, or the error is
abbrev pub Gives : Result (Vec Found Global) GatherFault → Result (List gathered.Found) gathered.Refusal → Type 0
Gives (Ok found) expected = expected ≡ Ok (map found_seen found.items)
Gives (Err fault) expected = FailsAs fault expected
