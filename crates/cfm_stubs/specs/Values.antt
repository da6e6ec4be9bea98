-- What a stub is, by what its symbols are (docs/RULES.md, "Stubs").
use Rattle.std.specs.Prelude.{◌≡◌, ℕ, List, Option}
use Rattle.std.specs.List.{AllByRecursion}
use Rattle.pef_loader.specs.Loader.{Loaded}
use Rattle.cfm_stubs.specs.declared.fault.StubFault.{StubFault}
use Rattle.cfm_stubs.specs.declared.values.StubValues.{StubValues}
use Rattle.cfm_stubs.specs.declared.values.StubValues.TheVariants.{Memory, Numbers}
use Rattle.cfm_stubs.specs.MemoryStubs.{AreMemoryStubs, IsMemoryStub, memory_refusal, memory_refusals}
use Rattle.cfm_stubs.specs.NumberStubs.{IsReadStub, MadeStub, number_refusal, number_refusals, number_stub, number_stubs}

-- the stub of a library for some fragments
abbrev pub IsStub : StubValues → List Loaded → List ℕ → MadeStub → Type 0
IsStub (Numbers first step) loaders library made = (made ≡ number_stub loaders first step library) × IsReadStub loaders made
IsStub (Memory word size) loaders library made = IsMemoryStub loaders word size library made

-- why there is none
abbrev pub refusal : StubValues → List Loaded → List ℕ → Option StubFault
refusal (Numbers first step) loaders library = number_refusal loaders first step library
refusal (Memory word size) loaders library = memory_refusal loaders size library

-- the stubs of some libraries, in their order
abbrev pub AreStubs : StubValues → List Loaded → List (List ℕ) → List MadeStub → Type 0
AreStubs (Numbers first step) loaders libraries made = (made ≡ number_stubs loaders first step libraries) × AllByRecursion (IsReadStub loaders) made
AreStubs (Memory word size) loaders libraries made = AreMemoryStubs loaders word size libraries made

-- the first reason why there are none
abbrev pub refusals : StubValues → List Loaded → List (List ℕ) → Option StubFault
refusals (Numbers first step) loaders libraries = number_refusals loaders first step libraries
refusals (Memory word size) loaders libraries = memory_refusals loaders size libraries
