-- The entry points of a prepared fragment as an object of JSON.
use Rattle.std.specs.Prelude.{ℕ, List, ◌++◌, Option, None, Some, codes}
use Rattle.std.specs.Option.{option_and_then}
use Rattle.cfm_prepare.specs.Contexts.{ContextState, open_of}
use Rattle.cfm_prepare.specs.Readers.{entries_of}
use Rattle.cfm_sections.specs.declared.entries.Entries.{Entries}
use Rattle.pef_rows.specs.Tokens.{number_or_null}

-- the addresses of entry points, each `null` if there is none
unfoldable pub addresses_object : Option ℕ → Option ℕ → Option ℕ → List ℕ
addresses_object main init term =
    codes "{\"main\":" ++ number_or_null main ++ codes ",\"init\":" ++ number_or_null init ++ codes ",\"term\":"
    ++ number_or_null term ++ codes "}"

abbrev pub entries_object : Option Entries → List ℕ
entries_object None = addresses_object None None None
entries_object (Some e) = addresses_object e.main e.init e.term

-- those of a fragment of a connection
abbrev pub entries_in : ContextState → ℕ → ℕ → Option Entries
entries_in s number p = option_and_then (λ o. entries_of s.present o p) (open_of s.connections number)
