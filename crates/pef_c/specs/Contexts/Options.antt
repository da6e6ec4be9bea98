-- What `pef_open_with` returns and changes, and the version of the library.
use Rattle.std.specs.Prelude.{◌≡◌, ◌==◌, ℕ, [], Option, None, Some, Result, Ok, Err, MatchBool, if◌then◌else◌}
use Rattle.cfm_memory.specs.Faults.{granule_fault_number}
use Rattle.cfm_memory.specs.Granules.{granule_of}
use Rattle.cfm_memory.specs.Limits.{grain}
use Rattle.cfm_memory.specs.declared.granule.GranuleFault.{GranuleFault}
use Rattle.cfm_prepare.specs.Contexts.{ContextState, made_state}
use Rattle.cfm_prepare.specs.Options.{Choices, most_connections, usual_limit}
use Rattle.pef_c.specs.declared.contexts.options.PefOptions.{PefOptions}

-- the version: a byte for the major, the minor and the patch number
abbrev pub version : ℕ
version = 256

-- a number, or the usual one in place of 0
abbrev pub or_usual : ℕ → ℕ → ℕ
or_usual number usual = if number == 0 then usual else number

-- a bound, or none for 0
abbrev pub bound_of : ℕ → Option ℕ
bound_of number = if number == 0 then None else Some number

-- the choices that the fields mean, with a granule; or the number of the error
abbrev pub choices_with : PefOptions → Result ℕ GranuleFault → Result Choices ℕ
choices_with o (Ok granule) = Ok (record {
  limit = or_usual o.limit usual_limit;
  granule = granule;
  bounds = record { connections = or_usual o.connections most_connections; steps = bound_of o.steps; bytes = bound_of o.bytes };
})
choices_with o (Err fault) = Err (granule_fault_number fault)

abbrev pub read_options : PefOptions → Result Choices ℕ
read_options o = if o.size == 32 then choices_with o (granule_of (or_usual o.granule grain)) else Err 206

-- a context that was made with some choices is open, or none
abbrev pub OpenAnswersWith : Choices → Option ContextState → ℕ → Type 0
OpenAnswersWith choices new answer = MatchBool (answer == 0) (new ≡ Some (made_state [] choices)) ((answer ≡ 99) × (new ≡ None))

-- what `pef_open_with` returns and changes
abbrev pub OpenWithAnswers : Result Choices ℕ → Option ContextState → Option ContextState → ℕ → Type 0
OpenWithAnswers (Ok choices) old new answer = OpenAnswersWith choices new answer
OpenWithAnswers (Err number) old new answer = (answer ≡ number) × (new ≡ old)
