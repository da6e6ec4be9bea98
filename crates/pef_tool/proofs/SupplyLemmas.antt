-- How `prepare` and `stubs` end, by their steps before.
use Rattle.std.proofs.Common.{◌≡◌, List, [], Ok, Err, inl, inr, map, refl, subst}
use Rattle.cfm_stubs.specs.NumberStubs.{MadeStub}
use Rattle.pef_faults.specs.declared.fault.Fault.{Fault}
use Rattle.pef_faults.specs.declared.fault.Fault.TheVariants as fault
use Rattle.pef_gather.specs.Gathered.{Found, Given, found_in, gathered, root_missing, untold}
use Rattle.pef_gather.specs.Seen.{FailsAs}
use Rattle.pef_gather.specs.Stores.{Stores, supplied}
use Rattle.pef_gather.specs.declared.fault.GatherFault.{GatherFault}
use Rattle.pef_gather.specs.declared.fault.GatherFault.TheVariants.{Untold, RootMissing, StoreFull, OutOfMemory}
use Rattle.pef_ports.specs.Ports.{FilesPort}
use Rattle.pef_request.specs.Requests.{Preparation, StubsOf}
use Rattle.pef_tool.specs.Answers.Answers.{Answer}
use Rattle.pef_tool.specs.Answers.Faults.{fault_answer}
use Rattle.pef_tool.specs.Gathering.{StopsGathering, WantedIs, WereGathered, wanted_root}
use Rattle.pef_tool.specs.Kept.StubFiles.{StubsFound, UnmadeStubs}
use Rattle.pef_tool.specs.Kept.Supplying.{FoundEnds, SuppliedEnds, gather_fault}
use Rattle.pef_tool.specs.Prepare.{AreMade, PrepareAnswers, PreparesGiven, RefusesSupply, StopsStore, wanted_files}
use Rattle.pef_tool.specs.WriteStubs.{RefusesStubs, StubsAnswers, StubsGiven}

-- fragments that aren't gathered end `prepare`, and those that aren't found end `stubs`

pub gather-refuses : (given : List Given) (asked : Preparation) (f : GatherFault) → FailsAs f (gathered given asked.root) → RefusesSupply given asked.root asked.stubs (gather_fault f)
gather-refuses given asked (Untold path why) is = inl (untold path.now why, is, refl)
gather-refuses given asked RootMissing is = inl (root_missing, is, refl)
gather-refuses given asked StoreFull is = absurd is
gather-refuses given asked OutOfMemory is = inr (inr (inr refl))

pub find-refuses : (given : List Given) (asked : StubsOf) (f : GatherFault) → FailsAs f (found_in given) → RefusesStubs asked given (gather_fault f)
find-refuses given asked (Untold path why) is = inl (untold path.now why, is, refl)
find-refuses given asked RootMissing is = inl (root_missing, is, refl)
find-refuses given asked StoreFull is = absurd is
find-refuses given asked OutOfMemory is = inr (inr (inr refl))

-- a store that isn't made
pub store-stops : (found : List Found) (stubs : List MadeStub) (f : GatherFault) → Stores (Err f) found stubs → StopsStore found stubs (gather_fault f)
store-stops found stubs (Untold path why) is = absurd is
store-stops found stubs RootMissing is = absurd is
store-stops found stubs StoreFull is = inl (is, refl)
store-stops found stubs OutOfMemory is = inr refl

-- fragments without stubs end `stubs`
pub unmade-refuses : (asked : StubsOf) (given : List Given) (found : List Found) (why : Fault) → found_in given ≡ Ok found → UnmadeStubs asked found why → RefusesStubs asked given why
unmade-refuses asked given found why are (inl stops) = inr (inl (found, are, stops))
unmade-refuses asked given found why are (inr (f, unmade, is)) = inr (inr (inl (found, f, are, unmade, is)))

module _ {F : Type 0} (port : FilesPort F) (before after : F) where
  -- fragments with stubs end `prepare` as they end themselves
  supplied-ends : (asked : Preparation) (given : List Given) (found : List Found) (stubs : List MadeStub) (answer : Answer)
      → gathered given asked.root ≡ Ok found → AreMade asked.stubs (supplied found []) stubs → SuppliedEnds port before after asked.form found stubs answer → PreparesGiven port before after asked given answer
  supplied-ends asked given found stubs answer are made (inl ends) = inl (found, stubs, record { gathered = are; made = made; few = ends.0 }, ends.1)
  supplied-ends asked given found stubs answer are made (inr (why, stops, same, is)) = inr (why, inr (inr (inl (found, stubs, are, made, stops))), same, is)

  -- .. and so do fragments that may have no stubs
  pub found-ends : (asked : Preparation) (given : List Given) (found : List Found) (answer : Answer) → gathered given asked.root ≡ Ok found → FoundEnds port before after asked found answer → PreparesGiven port before after asked given answer
  found-ends asked given found answer are (inl ends) = supplied-ends asked given found ends.0 answer are ends.1 ends.2
  found-ends asked given found answer are (inr (why, stops, same, is)) = inr (why, inr (inl (found, are, stops)), same, is)

  -- files that were read, and then what they give
  pub prepare-done : (between : F) (asked : Preparation) (wanted : List WantedIs) (given : List Given) (answer : Answer)
      → wanted ≡ wanted_files asked → WereGathered port before between wanted given → PreparesGiven port between after asked given answer → PrepareAnswers port before after asked answer
  prepare-done between asked wanted given answer are read ends =
      let P : List WantedIs → Type 0 = λ ws. WereGathered port before between ws given in
      inl (given, between, subst P are read, ends)

  pub stubs-done : (between : F) (asked : StubsOf) (wanted : List WantedIs) (given : List Given) (answer : Answer)
      → wanted ≡ map wanted_root asked.files → WereGathered port before between wanted given → StubsGiven port between after asked given answer → StubsAnswers port before after asked answer
  stubs-done between asked wanted given answer are read ends =
      let P : List WantedIs → Type 0 = λ ws. WereGathered port before between ws given in
      inl (given, between, subst P are read, ends)

  -- fragments end `stubs` as they end themselves
  pub stubs-end : (asked : StubsOf) (given : List Given) (found : List Found) (answer : Answer) → found_in given ≡ Ok found → StubsFound port before after asked found answer → StubsGiven port before after asked given answer
  stubs-end asked given found answer are (inl (stubs, made, inl writes)) = inl (found, stubs, are, made, writes)
  stubs-end asked given found answer are (inl (stubs, made, inr (lacks, same))) = inr (fault.OutOfMemory, inr (inr (inr refl)), same, lacks)
  stubs-end asked given found answer are (inr (why, unmade, same, is)) = inr (why, unmade-refuses asked given found why are unmade, same, is)

  -- files that weren't all read
  pub prepare-stops : (asked : Preparation) (wanted : List WantedIs) (why : Fault) → wanted ≡ wanted_files asked → StopsGathering port before after wanted why → PrepareAnswers port before after asked (fault_answer why)
  prepare-stops asked wanted why are stops =
      let P : List WantedIs → Type 0 = λ ws. StopsGathering port before after ws why in
      inr (why, subst P are stops, refl)

  pub stubs-stop : (asked : StubsOf) (wanted : List WantedIs) (why : Fault) → wanted ≡ map wanted_root asked.files → StopsGathering port before after wanted why → StubsAnswers port before after asked (fault_answer why)
  stubs-stop asked wanted why are stops =
      let P : List WantedIs → Type 0 = λ ws. StopsGathering port before after ws why in
      inr (why, subst P are stops, refl)

-- an allocation may fail before anything is done
pub prepare-lacks : {F : Type 0} (port : FilesPort F) (files : F) (asked : Preparation) → PrepareAnswers port files files asked (fault_answer fault.OutOfMemory)
prepare-lacks port files asked = inr (fault.OutOfMemory, inr (refl, (0, [], refl)), refl)
