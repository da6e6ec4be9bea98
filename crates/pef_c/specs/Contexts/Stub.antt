-- What the call returns and writes that makes a stub of a library for the fragments of a context.
use Rattle.std.specs.Prelude.{◌≡◌, ◌==◌, ℕ, List, Option, None, Some, Result, Ok, Err, MatchBool, length, if◌then◌else◌}
use Rattle.pef_loader.specs.Loader.{Loaded}
use Rattle.cfm_prepare.specs.Contexts.{ContextState}
use Rattle.cfm_stubs.specs.Lacking.{loaders_in}
use Rattle.cfm_stubs.specs.NumberStubs.{MadeStub}
use Rattle.cfm_stubs.specs.Stubs.{FailsAs}
use Rattle.cfm_stubs.specs.Values.{IsStub, refusal}
use Rattle.cfm_stubs.specs.declared.fault.StubFault.{StubFault}
use Rattle.cfm_stubs.specs.declared.fault.StubFault.TheVariants as fault
use Rattle.cfm_stubs.specs.declared.values.StubValues.{StubValues}
use Rattle.cfm_stubs.specs.declared.values.StubValues.TheVariants.{Numbers, Memory}
use Rattle.pef_records.specs.Buffers.{Fills, IsTooLong}
use Rattle.pef_c.specs.declared.contexts.stub.PefStubOptions.{PefStubOptions}

-- the number of the reason why there is no stub
abbrev pub stub_number : StubFault → ℕ
stub_number fault.TooManySymbols = 211
stub_number fault.LongName = 212
stub_number fault.TooManyNameBytes = 213
stub_number fault.PastLastNumber = 214
stub_number fault.UnspellableName = 215
stub_number fault.TooManyBytes = 216
stub_number fault.OutOfMemory = 99

-- what the fields mean, if their struct has this library's size: 1 for numbers, and 2 for memory
abbrev pub values_of : PefStubOptions → Option StubValues
values_of o =
    if o.size == 24
    then (if o.values == 1 then Some (Numbers o.first o.step) else if o.values == 2 then Some (Memory o.word o.zeros) else None)
    else None

-- the number says why there is no stub
abbrev pub IsNoStub : StubValues → List Loaded → List ℕ → ℕ → Type 0
IsNoStub values loaders library answer = (why : StubFault) × FailsAs why (refusal values loaders library) × (answer ≡ stub_number why)

-- a stub is made, or the number says why there is none: 206 if the options aren't ones of this library
abbrev pub Makes : Option StubValues → List Loaded → List ℕ → Result MadeStub ℕ → Type 0
Makes None loaders library (Ok made) = ⊥
Makes None loaders library (Err number) = number ≡ 206
Makes (Some values) loaders library (Ok made) = IsStub values loaders library made
Makes (Some values) loaders library (Err number) = IsNoStub values loaders library number

-- 0, and the stub's container is in the buffer; or 200, if it is longer; and both times its symbols are counted. Or the number says why
-- there is none, and nothing is written
abbrev pub StubsIn : Option StubValues → List Loaded → List ℕ → List ℕ → List ℕ → ℕ → ℕ → ℕ → ℕ → ℕ → Type 0
StubsIn values loaders library old new before after here there answer =
    MatchBool (answer == 0) ((made : MadeStub) × Makes values loaders library (Ok made) × Fills made.bytes old new after × (there ≡ length made.exports))
    (MatchBool (answer == 200) ((made : MadeStub) × Makes values loaders library (Ok made) × IsTooLong made.bytes old new after × (there ≡ length made.exports))
    (Makes values loaders library (Err answer) × (new ≡ old) × (after ≡ before) × (there ≡ here)))

-- what `pef_stub` returns and writes: 202, and nothing is written, if the context isn't open
abbrev pub StubAnswers : Option ContextState → List ℕ → Option StubValues → List ℕ → List ℕ → ℕ → ℕ → ℕ → ℕ → ℕ → Type 0
StubAnswers None library values old new before after here there answer = (answer ≡ 202) × (new ≡ old) × (after ≡ before) × (there ≡ here)
StubAnswers (Some s) library values old new before after here there answer = StubsIn values (loaders_in s.pairs) library old new before after here there answer
