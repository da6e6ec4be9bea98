-- What the calls return and write that change a context. 202 means that it isn't open.
use Rattle.std.specs.Prelude.{◌≡◌, ◌==◌, ℕ, List, [], Option, None, Some, MatchBool, MatchOption}
use Rattle.cfm_store.specs.Stores.{place_of}
use Rattle.cfm_memory.specs.Faults.{fault_number as memory_fault_number}
use Rattle.cfm_memory.specs.Reservation.{IsNoRange, MayNotReserve}
use Rattle.cfm_memory.specs.declared.place.MemoryFault.{MemoryFault}
use Rattle.cfm_prepare.specs.Contexts.{ContextState, fresh_state, open_of}
use Rattle.cfm_prepare.specs.Faults.{add_fault_number, fault_number, remove_fault_number}
use Rattle.cfm_prepare.specs.Removals.{MayNotRemove, Removes}
use Rattle.cfm_prepare.specs.Steps.{Adds, Closes, MayNotAdd, MayNotPrepare, Prepares, PutsBack, TakesOut}
use Rattle.cfm_prepare.specs.declared.add_fault.AddFault.{AddFault}
use Rattle.cfm_prepare.specs.declared.fault.PrepareFault.{PrepareFault}
use Rattle.cfm_prepare.specs.declared.remove_fault.RemoveFault.{RemoveFault}
use Rattle.pef_faults.specs.Names as faults
use Rattle.pef_faults.specs.Places.{fault_place}
use Rattle.pef_faults.specs.declared.fault.Fault.TheVariants.{Prepare}
use Rattle.pef_records.specs.Places.{place_or_nowhere}
use Rattle.pef_c.specs.declared.contexts.handle.PefContext.{PefContext}
use Rattle.pef_records.specs.declared.structs.PefNames.{PefNames}
use Rattle.pef_records.specs.declared.structs.PefPlace.{PefPlace}

-- the context that C holds, if it is open
abbrev pub held : PefContext → Option ContextState
held c = c.handle.value

-- if the context is open, the call changes it in this way; otherwise it isn't open afterwards either, and this holds
abbrev pub Changes : Type 0 → (ContextState → ContextState → Type 0) → Option ContextState → Option ContextState → Type 0
Changes otherwise change None now = (now ≡ None) × otherwise
Changes otherwise change (Some s) None = ⊥
Changes otherwise change (Some s) (Some t) = change s t

-- what `pef_open` returns and changes
abbrev pub OpenAnswers : ℕ → Option ContextState → ℕ → Type 0
OpenAnswers limit new answer = MatchBool (answer == 0) (new ≡ Some (fresh_state [] limit)) ((answer ≡ 99) × (new ≡ None))

-- the number says why the fragment with this name isn't added
abbrev pub IsNotAdded : ContextState → List ℕ → ℕ → Type 0
IsNotAdded s name answer = (fault : AddFault) × MayNotAdd s name fault × (answer ≡ add_fault_number fault)

-- a fragment is added, or refused
abbrev pub AddsIn : List ℕ → List ℕ → ContextState → ContextState → ℕ → Type 0
AddsIn name bytes s t answer = MatchBool (answer == 0) (Adds s name bytes t) ((t ≡ s) × IsNotAdded s name answer)

-- what `pef_add` returns and changes
abbrev pub AddAnswers : List ℕ → List ℕ → Option ContextState → Option ContextState → ℕ → Type 0
AddAnswers name bytes old new answer = Changes (answer ≡ 202) (λ s t. AddsIn name bytes s t answer) old new

-- a fragment is added if none has its name, or refused
abbrev pub NewAddsIn : List ℕ → List ℕ → ContextState → ContextState → ℕ → Type 0
NewAddsIn name bytes s t answer = MatchOption (place_of s.pairs name) (AddsIn name bytes s t answer) (λ p. (answer ≡ 209) × (t ≡ s))

-- what `pef_add_new` returns and changes
abbrev pub NewAddAnswers : List ℕ → List ℕ → Option ContextState → Option ContextState → ℕ → Type 0
NewAddAnswers name bytes old new answer = Changes (answer ≡ 202) (λ s t. NewAddsIn name bytes s t answer) old new

-- the number says why the fragment with this name isn't removed
abbrev pub IsNotRemoved : ContextState → List ℕ → ℕ → Type 0
IsNotRemoved s name answer = (fault : RemoveFault) × MayNotRemove s name fault × (answer ≡ remove_fault_number fault)

-- a fragment is removed, or refused
abbrev pub RemovesIn : List ℕ → ContextState → ContextState → ℕ → Type 0
RemovesIn name s t answer = MatchBool (answer == 0) (Removes s name t) ((t ≡ s) × IsNotRemoved s name answer)

-- what `pef_remove` returns and changes
abbrev pub RemoveAnswers : List ℕ → Option ContextState → Option ContextState → ℕ → Type 0
RemoveAnswers name old new answer = Changes (answer ≡ 202) (λ s t. RemovesIn name s t answer) old new

-- the number says why the addresses aren't reserved
abbrev pub IsNotReserved : ContextState → ℕ → ℕ → ℕ → Type 0
IsNotReserved s address size answer = (fault : MemoryFault) × MayNotReserve s.memory address size fault × (answer ≡ memory_fault_number fault)

-- some bytes from an address on are taken out of use, or not
abbrev pub ReservesIn : ℕ → ℕ → ContextState → ContextState → ℕ → Type 0
ReservesIn address size s t answer = MatchBool (answer == 0) (TakesOut s address size t) ((t ≡ s) × IsNotReserved s address size answer)

-- what `pef_reserve` returns and changes
abbrev pub ReserveAnswers : ℕ → ℕ → Option ContextState → Option ContextState → ℕ → Type 0
ReserveAnswers address size old new answer = Changes (answer ≡ 202) (λ s t. ReservesIn address size s t answer) old new

-- a range that was reserved is given back, or there is none
abbrev pub UnreservesIn : ℕ → ℕ → ContextState → ContextState → ℕ → Type 0
UnreservesIn address size s t answer = MatchBool (answer == 0) (PutsBack s address size t) ((answer ≡ 201) × IsNoRange s.memory address size × (t ≡ s))

-- what `pef_unreserve` returns and changes
abbrev pub UnreserveAnswers : ℕ → ℕ → Option ContextState → Option ContextState → ℕ → Type 0
UnreserveAnswers address size old new answer = Changes (answer ≡ 202) (λ s t. UnreservesIn address size s t answer) old new

-- the names of a fragment, of its library and of its symbol
pub record Names : Type 0 where
  pub fragment : List ℕ
  pub library : List ℕ
  pub symbol : List ℕ

abbrev pub names_shown : PefNames → Names
names_shown v = record { fragment = v.fragment.now; library = v.library.now; symbol = v.symbol.now }

-- a name, or no bytes if there is none
abbrev pub name_or_none : Option (List ℕ) → List ℕ
name_or_none (Some name) = name
name_or_none None = []

-- the names of the error of a preparation
abbrev pub fault_names : PrepareFault → Names
fault_names fault = let names = faults.fault_names (Prepare fault) in record { fragment = name_or_none names.fragment; library = name_or_none names.library; symbol = name_or_none names.symbol }

-- the number, the names and the place say why the fragment isn't prepared
abbrev pub IsNotPrepared : ContextState → List ℕ → Names → PefPlace → ℕ → Type 0
IsNotPrepared s name names place answer =
    (fault : PrepareFault) × MayNotPrepare s name fault × (answer ≡ fault_number fault) × (names ≡ fault_names fault) × (place ≡ place_or_nowhere (fault_place (Prepare fault)))

-- the fragment with this name is prepared, and the connection's number is written; or it is refused, and the names and the
-- place are written
abbrev pub PreparesIn : List ℕ → ContextState → ContextState → ℕ → ℕ → Names → Names → PefPlace → PefPlace → ℕ → Type 0
PreparesIn name s t before after old new here there answer =
    MatchBool (answer == 0) (Prepares s name after t × (new ≡ old) × (there ≡ here)) ((t ≡ s) × (after ≡ before) × IsNotPrepared s name new there answer)

-- what `pef_prepare_with_place` returns, changes and writes
abbrev pub PlacedPrepareAnswers : List ℕ → Option ContextState → Option ContextState → ℕ → ℕ → Names → Names → PefPlace → PefPlace → ℕ → Type 0
PlacedPrepareAnswers name s t before after old new here there answer =
    Changes ((answer ≡ 202) × (after ≡ before) × (new ≡ old) × (there ≡ here)) (λ s t. PreparesIn name s t before after old new here there answer) s t

-- .. and `pef_prepare`, which writes no place
abbrev pub PrepareAnswers : List ℕ → Option ContextState → Option ContextState → ℕ → ℕ → Names → Names → ℕ → Type 0
PrepareAnswers name s t before after old new answer =
    (place : PefPlace) × PlacedPrepareAnswers name s t before after old new (place_or_nowhere None) place answer

-- a connection is closed, or isn't open
abbrev pub ClosesIn : ℕ → ContextState → ContextState → ℕ → Type 0
ClosesIn number s t answer = MatchBool (answer == 0) (Closes s number t) ((answer ≡ 68) × (open_of s.connections number ≡ None) × (t ≡ s))

-- what `pef_close` returns and changes
abbrev pub CloseAnswers : ℕ → Option ContextState → Option ContextState → ℕ → Type 0
CloseAnswers number old new answer = Changes (answer ≡ 202) (λ s t. ClosesIn number s t answer) old new
