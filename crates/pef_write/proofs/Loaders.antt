-- How long the parts of a loader section are.
use Rattle.std.proofs.Common.{◌≡◌, ◌∙◌, ℕ, ◌+◌, ◌*◌, List, [], ◌∷◌, ◌++◌, length, map, length-append, refl, ap, arith}
use Rattle.std.specs.Int.{next_multiple_of}
use Rattle.pef_format.specs.Exports.{Export}
use Rattle.pef_format.specs.Symbols.{Import}
use Rattle.pef_loader.specs.Library.{Library}
use Rattle.pef_write.specs.declared.field.Field.TheVariants.{Word}
use Rattle.pef_write.specs.Fields.{padded, spelled}
use Rattle.pef_write.specs.Loaders.{LoaderTables, ProgramEntry, entry_fields, export_fields, export_names_from, exports_from, front_fields, header_fields, import_fields, import_names_from, library_fields, program_bytes, program_fields, programs_from, strings_from, strings_of, table_fields, written_loader}
use Rattle.pef_write.proofs.Fields.{length-padded, spelled-append}

pub length-loader_header : (t : LoaderTables) → length (spelled (header_fields t)) ≡ 56
unfolding spelled header_fields
length-loader_header t = refl

pub length-library_fields : (at : ℕ) (libraries : List Library) → length (spelled (library_fields at libraries)) ≡ 24 * length libraries
unfolding spelled library_fields
length-library_fields at [] = refl
length-library_fields at (l ∷ libraries) =
    let later = length-library_fields (at + (length l.name + 1)) libraries in
    omega (arith, later)

pub length-import_fields : (at : ℕ) (imports : List Import) → length (spelled (import_fields at imports)) ≡ 4 * length imports
unfolding spelled import_fields
length-import_fields at [] = refl
length-import_fields at (i ∷ imports) =
    let later = length-import_fields (at + (length i.name + 1)) imports in
    omega (arith, later)

pub length-program_fields : (at : ℕ) (programs : List ProgramEntry) → length (spelled (program_fields at programs)) ≡ 12 * length programs
unfolding spelled program_fields
length-program_fields at [] = refl
length-program_fields at (p ∷ programs) =
    let later = length-program_fields (at + length p.bytes) programs in
    omega (arith, later)

-- the entries, between the header and the programs
pub length-entry_fields : (t : LoaderTables) → length (spelled (entry_fields t)) + 56 ≡ programs_from t
length-entry_fields t =
    let libraries = library_fields 0 t.libraries in
    let imports = import_fields (import_names_from t) t.imports in
    let programs = program_fields 0 t.programs in
    let a = ap length (spelled-append libraries (imports ++ programs)) ∙ length-append (spelled libraries) (spelled (imports ++ programs)) in
    let b = ap length (spelled-append imports programs) ∙ length-append (spelled imports) (spelled programs) in
    omega (arith, a, b, length-library_fields 0 t.libraries, length-import_fields (import_names_from t) t.imports, length-program_fields 0 t.programs)

-- all bytes before the programs are as many as the offset of the programs
pub length-front_fields : (t : LoaderTables) → length (spelled (front_fields t)) ≡ programs_from t
length-front_fields t =
    let all = ap length (spelled-append (header_fields t) (entry_fields t)) ∙ length-append (spelled (header_fields t)) (spelled (entry_fields t)) in
    omega (arith, all, length-loader_header t, length-entry_fields t)

-- all bytes before the export table
abbrev pub front_of : LoaderTables → List ℕ
front_of t = spelled (front_fields t) ++ (program_bytes t.programs ++ strings_of t)

pub length-unpadded : (t : LoaderTables) → length (front_of t) ≡ strings_from t + length (strings_of t)
length-unpadded t =
    let a = length-append (spelled (front_fields t)) (program_bytes t.programs ++ strings_of t) in
    let b = length-append (program_bytes t.programs) (strings_of t) in
    omega (arith, a, b, length-front_fields t)

pub length-front_of : (t : LoaderTables) → length (padded 4 (front_of t)) ≡ exports_from t
length-front_of t = length-padded 4 (front_of t) ∙ ap (λ n. next_multiple_of n 4) (length-unpadded t)

pub length-words : (words : List ℕ) → length (spelled (map Word words)) ≡ 4 * length words
unfolding spelled
length-words [] = refl
length-words (w ∷ words) =
    let later = length-words words in
    omega (arith, later)

pub length-export_fields : (at : ℕ) (exports : List Export) → length (spelled (export_fields at exports)) ≡ 10 * length exports
unfolding spelled export_fields
length-export_fields at [] = refl
length-export_fields at (e ∷ exports) =
    let later = length-export_fields (at + length e.name) exports in
    omega (arith, later)

-- the export table has words for slots and keys, and ten bytes for each export
pub length-table_fields : (t : LoaderTables) → length (spelled (table_fields t)) ≡ 4 * length t.slots + 4 * length t.keys + 10 * length t.exports
length-table_fields t =
    let at = export_names_from t in
    let a = ap length (spelled-append (map Word t.slots) (map Word t.keys ++ export_fields at t.exports)) ∙ length-append (spelled (map Word t.slots)) (spelled (map Word t.keys ++ export_fields at t.exports)) in
    let b = ap length (spelled-append (map Word t.keys) (export_fields at t.exports)) ∙ length-append (spelled (map Word t.keys)) (spelled (export_fields at t.exports)) in
    omega (arith, a, b, length-words t.slots, length-words t.keys, length-export_fields at t.exports)

-- a loader section's length
pub length-written_loader : (t : LoaderTables) → length (written_loader t) ≡ exports_from t + length (spelled (table_fields t))
unfolding written_loader
length-written_loader t = length-append (padded 4 (front_of t)) (spelled (table_fields t)) ∙ ap (λ n. n + length (spelled (table_fields t))) (length-front_of t)
