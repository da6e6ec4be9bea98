-- What the call returns, changes and writes that prepares a fragment at addresses that are given.
use Rattle.std.specs.Prelude.{◌≡◌, ◌==◌, ℕ, List, [], Option, None, MatchBool}
use Rattle.cfm_prepare.specs.Contexts.{ContextState}
use Rattle.cfm_prepare.specs.Faults.{place_fault_number}
use Rattle.cfm_prepare.specs.Steps.{MayNotPrepareAt, PreparesAt}
use Rattle.cfm_prepare.specs.declared.place_fault.PlaceFault.{PlaceFault}
use Rattle.cfm_prepare.specs.declared.place_fault.PlaceFault.TheVariants as fault
use Rattle.pef_faults.specs.Places.{fault_place}
use Rattle.pef_faults.specs.declared.fault.Fault.TheVariants.{Prepare}
use Rattle.pef_c.specs.Contexts.Context.{Changes, Names, fault_names}
use Rattle.pef_records.specs.Places.{place_or_nowhere}
use Rattle.pef_records.specs.declared.structs.PefPlace.{PefPlace}

-- the names of the error. A wrong number of addresses has none
abbrev pub names_at : PlaceFault → Names
names_at fault.WrongAddressCount = record { fragment = []; library = []; symbol = [] }
names_at (fault.Prepare f) = fault_names f

-- its place
abbrev pub place_at : PlaceFault → PefPlace
place_at fault.WrongAddressCount = place_or_nowhere None
place_at (fault.Prepare f) = place_or_nowhere (fault_place (Prepare f))

-- the number, the names and the place say why the fragment isn't prepared at some addresses
abbrev pub IsNotPreparedAt : ContextState → List ℕ → List ℕ → Names → PefPlace → ℕ → Type 0
IsNotPreparedAt s name addresses names place answer =
    (fault : PlaceFault) × MayNotPrepareAt s name addresses fault × (answer ≡ place_fault_number fault) × (names ≡ names_at fault) × (place ≡ place_at fault)

-- the fragment with this name is prepared, its sections at these addresses, and the connection's number is written; or it is
-- refused, and the names and the place are written
abbrev pub PreparesAtIn : List ℕ → List ℕ → ContextState → ContextState → ℕ → ℕ → Names → Names → PefPlace → PefPlace → ℕ → Type 0
PreparesAtIn name addresses s t before after old new here there answer =
    MatchBool (answer == 0) (PreparesAt s name addresses after t × (new ≡ old) × (there ≡ here)) ((t ≡ s) × (after ≡ before) × IsNotPreparedAt s name addresses new there answer)

-- what `pef_prepare_at` returns, changes and writes
abbrev pub PrepareAtAnswers : List ℕ → List ℕ → Option ContextState → Option ContextState → ℕ → ℕ → Names → Names → PefPlace → PefPlace → ℕ → Type 0
PrepareAtAnswers name addresses s t before after old new here there answer =
    Changes ((answer ≡ 202) × (after ≡ before) × (new ≡ old) × (there ≡ here)) (λ s t. PreparesAtIn name addresses s t before after old new here there answer) s t
