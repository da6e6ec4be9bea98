-- What the call returns and writes that asks which libraries a context lacks, whichever fragment is prepared.
use Rattle.std.specs.Prelude.{◌≡◌, ◌==◌, ℕ, List, Option, None, Some, MatchBool, length, slice_get}
use Rattle.cfm_prepare.specs.Contexts.{ContextState}
use Rattle.cfm_stubs.specs.Lacking.{LackingLibrary, lacking_in}
use Rattle.pef_records.specs.Buffers.{filled, fitting}
use Rattle.pef_records.specs.declared.structs.PefLacking.{PefLacking}

-- the library that a struct holds
abbrev pub lacking_shown : PefLacking → LackingLibrary
lacking_shown v = record { name = v.name.now; is_weak = v.is_weak }

-- 0, and the libraries from a number on are in the first places, and counted; or 99, if an allocation fails, and nothing is written
abbrev pub TellsLackingIn : List LackingLibrary → ℕ → List LackingLibrary → List LackingLibrary → ℕ → ℕ → ℕ → Type 0
TellsLackingIn libraries from old new before after answer =
    MatchBool (answer == 0)
    ((after ≡ fitting (length libraries) from (length old)) × (new ≡ filled (slice_get libraries) from after old))
    ((answer ≡ 99) × (new ≡ old) × (after ≡ before))

-- what `pef_lacking` returns and writes: 202, and nothing is written, if the context isn't open
abbrev pub LackingAnswers : Option ContextState → ℕ → List LackingLibrary → List LackingLibrary → ℕ → ℕ → ℕ → Type 0
LackingAnswers None from old new before after answer = (answer ≡ 202) × (new ≡ old) × (after ≡ before)
LackingAnswers (Some s) from old new before after answer = TellsLackingIn (lacking_in s.pairs) from old new before after answer
