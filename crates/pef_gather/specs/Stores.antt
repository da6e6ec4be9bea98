-- The store of a preparation: the fragments of files, and then the stubs of the libraries that these lack.
use Rattle.std.specs.Prelude.{◌≡◌, ⊤, ◌+◌, ◌<◌, ◌≤◌, ◌++◌, false, List, Result, Ok, Err, length, map}
use Rattle.cfm_store.specs.Limits.{most_pairs}
use Rattle.cfm_store.specs.Stores.{Pair}
use Rattle.cfm_stubs.specs.NumberStubs.{MadeStub}
use Rattle.pef_gather.specs.Gathered.{Found}
use Rattle.pef_gather.specs.declared.fault.GatherFault.{GatherFault}
use Rattle.pef_gather.specs.declared.fault.GatherFault.TheVariants.{Untold, RootMissing, StoreFull, OutOfMemory}

-- the pair of a fragment, and that of a stub

abbrev pub found_pair : Found → Pair
found_pair f = record { name = f.candidate.name; bytes = f.candidate.bytes; free = false }

abbrev pub stub_pair : MadeStub → Pair
stub_pair s = record { name = s.name; bytes = s.bytes; free = false }

-- the pairs of a preparation
abbrev pub supplied : List Found → List MadeStub → List Pair
supplied found stubs = map found_pair found ++ map stub_pair stubs

-- the pairs are these, or they are too many for a store
abbrev pub Stores : Result (List Pair) GatherFault → List Found → List MadeStub → Type 0
Stores (Ok pairs) found stubs = (pairs ≡ supplied found stubs) × (length found + length stubs ≤ most_pairs)
Stores (Err (Untold path fault)) found stubs = ⊥
Stores (Err RootMissing) found stubs = ⊥
Stores (Err StoreFull) found stubs = most_pairs < length found + length stubs
Stores (Err OutOfMemory) found stubs = ⊤
