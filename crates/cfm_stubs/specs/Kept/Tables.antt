-- The symbols of a table of names and classes.
use Rattle.std.specs.Prelude.{ℕ, ◌&&◌, Bool, List, map}
use Rattle.std.specs.Map.{lookup}
use Rattle.std.specs.Option.{option_map_or}
use Rattle.std.specs.Str.{bytes_eq}
use Rattle.pef_loader.specs.Library.{Library}
use Rattle.std.specs.Borrow.{Bor}
use Rattle.pef_names.specs.declared.name_key.NameKey.{NameKey}
use Rattle.cfm_stubs.specs.Lacking.{LackingLibrary, is_weak_entry}
use Rattle.cfm_stubs.specs.Symbols.{Symbol}

abbrev pub symbol_in : NameKey × ℕ → Symbol
symbol_in e = record { name = e.0.bytes.now; class = e.1 }

abbrev pub symbols_in : List (NameKey × ℕ) → List Symbol
symbols_in entries = map symbol_in entries

-- a name and a class, without its place in memory
abbrev pub symbol_seen : Bor (List ℕ) × ℕ → Symbol
symbol_seen s = record { name = s.0.now; class = s.1 }

-- the lacking libraries of a table of names

abbrev pub lacking_entry : NameKey × Bool → LackingLibrary
lacking_entry e = record { name = e.0.bytes.now; is_weak = e.1 }

abbrev pub lacking_named : List (NameKey × Bool) → List LackingLibrary
lacking_named entries = map lacking_entry entries

-- whether all entries for a library are weak, with one more that has its name
abbrev pub weak_with : Library → List (NameKey × Bool) → Bool
weak_with l entries = option_map_or (λ others. others && is_weak_entry l) (lookup (λ (k : NameKey). bytes_eq l.name k.bytes.now) entries) (is_weak_entry l)
