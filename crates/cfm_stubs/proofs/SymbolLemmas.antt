-- The symbols of a table, import by import.
use Rattle.std.proofs.Common.{◌≡◌, ◌∙◌, ℕ, ◌+◌, ◌-◌, ◌<◌, ◌||◌, Bool, true, false, cond, List, [], ◌∷◌, Option, None, Some, is_some, refl, ap}
use Rattle.std.specs.Prelude.{fold}
use Rattle.std.specs.Map.{lookup}
use Rattle.std.specs.Str.{bytes_eq}
use Rattle.pef_loader.specs.Loader.{Loaded, import_of}
use Rattle.pef_names.specs.declared.name_key.NameKey.{NameKey}
use Rattle.cfm_stubs.specs.Kept.Tables.{symbols_in}
use Rattle.cfm_stubs.specs.Symbols.{Symbol, are_named, own_import, own_imports, with_symbol}
use Rattle.cfm_stubs.proofs.FoldLemmas.{fold-append, one_left}

-- the imports that are left are the one at a place and those after it
pub imports-next : (symbols : List Symbol) (l : Loaded) (library : List ℕ) (n j : ℕ) → j < n
    → fold with_symbol symbols (own_imports l library j (n - j)) ≡ fold with_symbol (fold with_symbol symbols (own_import l library (import_of l j))) (own_imports l library (j + 1) (n - (j + 1)))
imports-next symbols l library n j under =
    ap (λ m. fold with_symbol symbols (own_imports l library j m)) (one_left n j under)
    ∙ fold-append with_symbol symbols (own_import l library (import_of l j)) (own_imports l library (j + 1) (n - (j + 1)))

-- a table finds a name if a symbol has it
pub lookup-named : (name : List ℕ) (entries : List (NameKey × ℕ)) → is_some (lookup (λ (k : NameKey). bytes_eq name k.bytes.now) entries) ≡ are_named (symbols_in entries) name
lookup-named name [] = refl
lookup-named name (entry ∷ entries) = by (bytes_eq name entry.0.bytes.now) (lookup-named name entries)
  where
    by : (here : Bool) → is_some (lookup (λ (k : NameKey). bytes_eq name k.bytes.now) entries) ≡ are_named (symbols_in entries) name
        → is_some (cond here (Some entry.1) (lookup (λ (k : NameKey). bytes_eq name k.bytes.now) entries)) ≡ (here || are_named (symbols_in entries) name)
    by true later = refl
    by false later = later

-- an option without a value
pub none_if : {A : Type 0} (o : Option A) → is_some o ≡ false → o ≡ None
none_if None none = refl
none_if (Some x) none = absurd (cc)
