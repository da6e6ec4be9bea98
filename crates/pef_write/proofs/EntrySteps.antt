-- Steps along the entries and the names of libraries, imports and exports.
use Rattle.std.proofs.Common.{◌≡◌, ◌∙◌, ℕ, ◌+◌, ◌<◌, ◌≤◌, List, [], ◌∷◌, ◌++◌, Some, length, drop, get_or, map, slice_get, length-append, ap, arith}
use Rattle.std.specs.List.{flat_map}
use Rattle.std.proofs.lemmas.List.{drop_all, drop_more}
use Rattle.pef_format.specs.Exports.{Export}
use Rattle.pef_format.specs.Symbols.{Import}
use Rattle.pef_script.specs.Script.{DescribedLibrary}
use Rattle.pef_words.proofs.Laws.Lists.{drop-here}
use Rattle.pef_write.specs.Fields.{spelled}
use Rattle.pef_write.specs.Linked.{exports_at, libraries_from, linked_library, no_export}
use Rattle.pef_write.specs.Loaders.{export_entry, export_fields, import_entry, import_fields, library_entry, library_fields, zero_ended}
use Rattle.pef_write.proofs.Fields.{spelled-append}

-- a part of a whole stays within its bound
pub within : (done left first all : List ℕ) (limit : ℕ) → done ++ left ≡ first ++ all → length first + length all < limit → length done < limit
within done left first all limit same small =
    omega (arith, ap length same, length-append done left, length-append first all, small)

-- a name and its end make the strings longer
pub longer : (before name now : List ℕ) → now ≡ before ++ (name ++ 0 ∷ []) → length now ≡ length before + (length name + 1)
longer before name now is = omega (arith, ap length is, length-append before (name ++ 0 ∷ []), length-append name (0 ∷ []))

-- one name, and those after it
pub names-here : {A : Type 0} (name : A → List ℕ) (xs : List A) (k : ℕ) (x : A) → slice_get xs k ≡ Some x → zero_ended (map name (drop k xs)) ≡ (name x ++ 0 ∷ []) ++ zero_ended (map name (drop (k + 1) xs))
names-here name xs k x found = ap (λ rest. zero_ended (map name rest)) (drop-here xs k x found)

pub names-end : {A : Type 0} (name : A → List ℕ) (xs : List A) (k : ℕ) → length xs ≤ k → zero_ended (map name (drop k xs)) ≡ []
names-end name xs k past = ap (λ rest. zero_ended (map name rest)) (drop_all k xs past)

-- one entry, and those after it
pub library-here : (imports : List Import) (at k : ℕ) (libraries : List DescribedLibrary) (l : DescribedLibrary) → slice_get libraries k ≡ Some l
    → spelled (library_fields at (libraries_from imports k (drop k libraries)))
    ≡ spelled (library_entry at (linked_library imports k l)) ++ spelled (library_fields (at + (length l.name + 1)) (libraries_from imports (k + 1) (drop (k + 1) libraries)))
unfolding library_fields
library-here imports at k libraries l found =
    ap (λ rest. spelled (library_fields at (libraries_from imports k rest))) (drop-here libraries k l found)
    ∙ spelled-append (library_entry at (linked_library imports k l)) (library_fields (at + (length l.name + 1)) (libraries_from imports (k + 1) (drop (k + 1) libraries)))

pub libraries-end : (imports : List Import) (at k : ℕ) (libraries : List DescribedLibrary) → length libraries ≤ k → spelled (library_fields at (libraries_from imports k (drop k libraries))) ≡ []
unfolding library_fields spelled
libraries-end imports at k libraries past = ap (λ rest. spelled (library_fields at (libraries_from imports k rest))) (drop_all k libraries past)

pub import-here : (at j : ℕ) (imports : List Import) (i : Import) → slice_get imports j ≡ Some i
    → spelled (import_fields at (drop j imports)) ≡ spelled (import_entry at i) ++ spelled (import_fields (at + (length i.name + 1)) (drop (j + 1) imports))
unfolding import_fields
import-here at j imports i found =
    ap (λ rest. spelled (import_fields at rest)) (drop-here imports j i found)
    ∙ spelled-append (import_entry at i) (import_fields (at + (length i.name + 1)) (drop (j + 1) imports))

pub imports-end : (at j : ℕ) (imports : List Import) → length imports ≤ j → spelled (import_fields at (drop j imports)) ≡ []
unfolding import_fields spelled
imports-end at j imports past = ap (λ rest. spelled (import_fields at rest)) (drop_all j imports past)

-- one export at its place, and those after it
abbrev pub export_names_at : List Export → List ℕ → List ℕ
export_names_at exports order = flat_map (λ (e : Export). e.name) (exports_at exports order)

pub export_names-here : (exports : List Export) (order : List ℕ) (i : ℕ) → i < length order
    → export_names_at exports (drop i order) ≡ (get_or exports (get_or order i 0) no_export).name ++ export_names_at exports (drop (i + 1) order)
export_names-here exports order i under = ap (export_names_at exports) (drop_more order i 0 under)

pub export_names-end : (exports : List Export) (order : List ℕ) (i : ℕ) → length order ≤ i → export_names_at exports (drop i order) ≡ []
export_names-end exports order i past = ap (export_names_at exports) (drop_all i order past)

pub export-here : (at : ℕ) (exports : List Export) (order : List ℕ) (i : ℕ) → i < length order
    → let e = get_or exports (get_or order i 0) no_export in
    spelled (export_fields at (exports_at exports (drop i order))) ≡ spelled (export_entry at e) ++ spelled (export_fields (at + length e.name) (exports_at exports (drop (i + 1) order)))
unfolding export_fields
export-here at exports order i under =
    let e = get_or exports (get_or order i 0) no_export in
    ap (λ rest. spelled (export_fields at (exports_at exports rest))) (drop_more order i 0 under)
    ∙ spelled-append (export_entry at e) (export_fields (at + length e.name) (exports_at exports (drop (i + 1) order)))

pub exports-end : (at : ℕ) (exports : List Export) (order : List ℕ) (i : ℕ) → length order ≤ i → spelled (export_fields at (exports_at exports (drop i order))) ≡ []
unfolding export_fields spelled
exports-end at exports order i past = ap (λ rest. spelled (export_fields at (exports_at exports rest))) (drop_all i order past)
