-- The target of an import (Mac OS Runtime Architectures, "Code Fragment Manager", "Resolving Imports").
use Rattle.std.specs.Prelude.{ℕ, zero, suc, List, [], length, Option, None, Some, option_map, Result, Ok, Err, if◌then◌else◌}
use Rattle.std.specs.List.{range_with_len, sum_by}
use Rattle.std.specs.Option.{option_and_then, option_map_or}
use Rattle.pef_format.specs.declared.export.ExportValue.{ExportValue}
use Rattle.pef_format.specs.declared.export.ExportValue.TheVariants.{InSection, Reexport}
use Rattle.pef_format.specs.declared.export.ExportValue.TheVariants as value
use Rattle.pef_format.specs.Exports.{Export, value_of}
use Rattle.pef_format.specs.Symbols.{Import}
use Rattle.pef_format.specs.declared.place.Place.{Place}
use Rattle.pef_loader.specs.Loader.{Loaded, export_of, named_of}
use Rattle.cfm_store.specs.Stores.{Pair, pair_of}
use Rattle.cfm_closure.specs.Faults.{BindRefusal, reexport_loop, symbol_missing}
use Rattle.cfm_closure.specs.Fragments.{export_count, import_at, import_place, loader_at}
use Rattle.cfm_closure.specs.Libraries.{library_at}
use Rattle.cfm_closure.specs.declared.targets.Target.{Target}
use Rattle.cfm_closure.specs.declared.targets.Target.TheVariants.{Absolute, At}

-- an import has a target, or none, or it leads through export e of fragment q to its import k
pub data Hop : Type 0 where
  ends : Option Target → Hop
  through : ℕ → ℕ → ℕ → Hop

-- an export in a section, an absolute one, or one that passes on an import
abbrev pub hop_by : ℕ → ℕ → ExportValue → Hop
hop_by q e (InSection section offset) = ends (Some (At q section offset))
hop_by q e (value.Absolute n) = ends (Some (Absolute n))
hop_by q e (Reexport import) = through q e import

-- the first export with a name, and its index
abbrev pub exported : List ℕ → Loaded → Option (ℕ × Export)
exported name l = option_and_then (λ e. option_map (λ x. (e, x)) (export_of l e)) (named_of l name)

-- a name that isn't exported gives no target for a weak import, and a refusal for any other
abbrev pub hop_to : List ℕ → List ℕ → Place → Import → ℕ → Option (ℕ × Export) → Result Hop BindRefusal
hop_to fragment library place i q None = if i.fields.weak then Ok (ends None) else Err (symbol_missing fragment library i.name place)
hop_to fragment library place i q (Some x) = Ok (hop_by q x.0 (value_of x.1.fields.section x.1.fields.value))

-- an import of an absent library has no target
abbrev pub hop_from : List Pair → ℕ → ℕ → Import → Option ℕ → Result Hop BindRefusal
hop_from pairs p j i None = Ok (ends None)
hop_from pairs p j i (Some q) =
    hop_to (pair_of pairs p).name (pair_of pairs q).name (import_place pairs p j) i q (option_and_then (exported i.name) (loader_at pairs q))

abbrev pub hop_of : List Pair → ℕ → ℕ → Option Import → Result Hop BindRefusal
hop_of pairs p j None = Ok (ends None)
hop_of pairs p j (Some i) = hop_from pairs p j i (library_at pairs p i.library)

-- the next step from import j of the fragment in a place
unfoldable pub hop : List Pair → ℕ → ℕ → Result Hop BindRefusal
hop pairs p j = hop_of pairs p j (import_at pairs p j)

-- the steps after a hop, if it continues
abbrev pub after_hop : (ℕ → ℕ → Option (Result (Option Target) BindRefusal)) → Hop → Option (Result (Option Target) BindRefusal)
after_hop on (ends target) = Some (Ok target)
after_hop on (through q e k) = on q k

abbrev pub followed : (ℕ → ℕ → Option (Result (Option Target) BindRefusal)) → Result Hop BindRefusal → Option (Result (Option Target) BindRefusal)
followed on (Ok h) = after_hop on h
followed on (Err refusal) = Some (Err refusal)

-- the target of an import through at most n exports; none if it continues
unfoldable pub follow : ℕ → List Pair → ℕ → ℕ → Option (Result (Option Target) BindRefusal)
follow zero pairs p j = followed (λ q k. None) (hop pairs p j)
follow (suc n) pairs p j = followed (follow n pairs) (hop pairs p j)

-- how many exports some fragments have
abbrev pub exports_among : List Pair → List ℕ → ℕ
exports_among pairs ps = sum_by (export_count pairs) ps

-- how many exports all fragments of the store have
abbrev pub exports_in : List Pair → ℕ
exports_in pairs = exports_among pairs (range_with_len 0 (length pairs))

abbrev pub symbol_of : List Pair → ℕ → ℕ → List ℕ
symbol_of pairs p j = option_map_or (λ i. i.name) (import_at pairs p j) []

-- the target of an import, or the refusal. If there are more hops than exports, one is visited again, so
-- they have no end
unfoldable pub target_of : List Pair → ℕ → ℕ → Result (Option Target) BindRefusal
target_of pairs p j =
    option_map_or (λ answer. answer) (follow (exports_in pairs) pairs p j) (Err (reexport_loop (pair_of pairs p).name (symbol_of pairs p j) (import_place pairs p j)))
