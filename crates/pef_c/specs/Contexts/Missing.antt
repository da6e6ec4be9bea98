-- What the calls return and write that ask which libraries a context lacks.
use Rattle.std.specs.Prelude.{◌≡◌, ◌==◌, ℕ, Bool, List, Option, None, Some, MatchBool, length, option_map, slice_get}
use Rattle.std.specs.Option.{is_some, option_map_or}
use Rattle.cfm_closure.specs.Missing.{Missing}
use Rattle.cfm_prepare.specs.Contexts.{ContextState}
use Rattle.cfm_prepare.specs.Faults.{fault_number}
use Rattle.cfm_prepare.specs.Lacking.{Lacks, MayNotTell}
use Rattle.cfm_prepare.specs.declared.fault.PrepareFault.{PrepareFault}
use Rattle.pef_c.specs.Contexts.Context.{Names, fault_names}
use Rattle.pef_faults.specs.Places.{fault_place}
use Rattle.pef_faults.specs.declared.fault.Fault.TheVariants.{Prepare}
use Rattle.pef_records.specs.Buffers.{filled, fitting}
use Rattle.pef_records.specs.Places.{place_or_nowhere}
use Rattle.pef_records.specs.declared.structs.PefMissing.{PefMissing}
use Rattle.pef_records.specs.declared.structs.PefPlace.{PefPlace}

-- a missing library as C sees it. Without a fragment of its name there are no versions of one
pub record MissingRow : Type 0 where
  pub name : List ℕ
  pub fragment : ℕ
  pub current_version : ℕ
  pub old_imp_version : ℕ
  pub found_version : ℕ
  pub found_old_def_version : ℕ
  pub is_weak : Bool
  pub is_found : Bool

abbrev pub missing_row : Missing → MissingRow
missing_row m = record {
  name = m.name;
  fragment = m.fragment;
  current_version = m.needed.current;
  old_imp_version = m.needed.old_imp;
  found_version = option_map_or (λ v. v.current) m.found 0;
  found_old_def_version = option_map_or (λ v. v.old_def) m.found 0;
  is_weak = m.weak;
  is_found = is_some m.found;
}

-- the row that a struct holds
abbrev pub missing_shown : PefMissing → MissingRow
missing_shown v = record {
  name = v.name.now;
  fragment = v.fragment;
  current_version = v.current_version;
  old_imp_version = v.old_imp_version;
  found_version = v.found_version;
  found_old_def_version = v.found_old_def_version;
  is_weak = v.is_weak;
  is_found = v.is_found;
}

-- row k of the missing libraries
abbrev pub missing_at : List Missing → ℕ → Option MissingRow
missing_at ms k = option_map missing_row (slice_get ms k)

-- 0, and the missing libraries from a number on are in the first places, and counted; or why they can't be told, with its
-- names and its place, and nothing else is written
abbrev pub TellsIn : List ℕ → ContextState → ℕ → List MissingRow → List MissingRow → ℕ → ℕ → Names → Names → PefPlace → PefPlace → ℕ → Type 0
TellsIn name s from old new before after here there place placed answer =
    MatchBool (answer == 0)
    ((ms : List Missing) × Lacks s name ms × (after ≡ fitting (length ms) from (length old)) × (new ≡ filled (missing_at ms) from after old) × (there ≡ here) × (placed ≡ place))
    ((new ≡ old) × (after ≡ before) × ((fault : PrepareFault) × MayNotTell s name fault × (answer ≡ fault_number fault) × (there ≡ fault_names fault) × (placed ≡ place_or_nowhere (fault_place (Prepare fault)))))

-- what `pef_missing_with_place` returns and writes: 202, and nothing is written, if the context isn't open
abbrev pub PlacedMissingAnswers : List ℕ → Option ContextState → ℕ → List MissingRow → List MissingRow → ℕ → ℕ → Names → Names → PefPlace → PefPlace → ℕ → Type 0
PlacedMissingAnswers name None from old new before after here there place placed answer = (answer ≡ 202) × (new ≡ old) × (after ≡ before) × (there ≡ here) × (placed ≡ place)
PlacedMissingAnswers name (Some s) from old new before after here there place placed answer = TellsIn name s from old new before after here there place placed answer

-- .. and `pef_missing`, which writes no place
abbrev pub MissingAnswers : List ℕ → Option ContextState → ℕ → List MissingRow → List MissingRow → ℕ → ℕ → Names → Names → ℕ → Type 0
MissingAnswers name s from old new before after here there answer =
    (placed : PefPlace) × PlacedMissingAnswers name s from old new before after here there (place_or_nowhere None) placed answer
