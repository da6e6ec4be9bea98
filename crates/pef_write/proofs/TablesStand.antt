-- What is at which place in a written loader section.
use Rattle.std.proofs.Common.{◌≡◌, ℕ, suc, ◌+◌, ◌*◌, ◌-◌, ◌<◌, ◌≤◌, ◌^◌, List, [], ◌∷◌, ◌++◌, Some, length, take, drop, map, replicate, length-append, append-nil, sym, subst, arith}
use Rattle.std.specs.Prelude.{Bool, true, false, ℤ, pos, negsuc, FitsSigned, slice_get}
use Rattle.std.specs.Int.{w16, cast_unsigned, next_multiple_of}
use Rattle.std.specs.List.{All, flat_map}
use Rattle.std.proofs.lemmas.List.{drop_at}
use Rattle.pef_format.specs.Exports.{Export}
use Rattle.pef_format.specs.Symbols.{Import}
use Rattle.pef_loader.specs.Library.{Library}
use Rattle.pef_write.specs.declared.field.Field.TheVariants.{Word}
use Rattle.pef_write.specs.Fields.{padded, spelled}
use Rattle.pef_write.specs.Loaders.{LoaderTables, ProgramEntry, class_byte, entry_fields, export_entry, export_fields, export_names_from, exports_from, front_fields, header_fields, import_entry, import_fields, import_names_from, library_entry, library_fields, program_bytes, program_fields, programs_from, relocation_entry, strings_from, strings_of, table_fields, written_loader, zero_ended}
use Rattle.pef_write.specs.Kept.Fits.{AllFit, ExportFits, LibraryFits, ProgramFits, Reads, TablesFit}
use Rattle.pef_write.proofs.Fields.{fit-append, outward, reads, reads-at, reads-split, widths, widths-length}
use Rattle.pef_write.proofs.Loaders.{front_of, length-front_fields, length-front_of, length-import_fields, length-library_fields, length-loader_header, length-table_fields, length-words, length-written_loader}
use Rattle.pef_write.proofs.Standing.{Stands, exports-table, flat_map-map, import_name, imports-table, libraries-table, library_name, programs-table, stands-among, stands-end, stands-front, stands-in, table-entry, words-table}

-- numbers of tables whose names lie inside fit their fields
fit-libraries : (at limit : ℕ) (libraries : List Library) → All LibraryFits libraries → at + length (zero_ended (map (λ l. l.name) libraries)) ≤ limit → limit < 2 ^ 32 → AllFit (library_fields at libraries)
unfolding library_fields
fit-libraries at limit [] each inside small = tt
fit-libraries at limit (l ∷ libraries) each inside small =
    let own = each 0 l (omega arith) in
    let old = own.old_imp in
    let current = own.current in
    let count = own.count in
    let first = own.first in
    let options = own.options in
    let named = length-append l.name (0 ∷ []) in
    let joined = length-append (l.name ++ 0 ∷ []) (zero_ended (map (λ l. l.name) libraries)) in
    let later = fit-libraries (at + (length l.name + 1)) limit libraries (λ k d under. each (suc k) d (omega arith)) (omega arith) small in
    (omega arith, (omega arith, (omega arith, (omega arith, (omega arith, (omega arith, (omega arith, (omega arith, later))))))))

class_small : (weak : Bool) (class : ℕ) → class < 16 → class_byte weak class < 2 ^ 8
class_small true class few = omega arith
class_small false class few = omega arith

fit-imports : (at limit : ℕ) (imports : List Import) → All (λ i. i.fields.class < 16) imports → at + length (zero_ended (map (λ i. i.name) imports)) ≤ limit → limit < 2 ^ 24 → AllFit (import_fields at imports)
unfolding import_fields
fit-imports at limit [] each inside small = tt
fit-imports at limit (i ∷ imports) each inside small =
    let class = class_small i.fields.weak i.fields.class (each 0 i (omega arith)) in
    let named = length-append i.name (0 ∷ []) in
    let joined = length-append (i.name ++ 0 ∷ []) (zero_ended (map (λ i. i.name) imports)) in
    let later = fit-imports (at + (length i.name + 1)) limit imports (λ k d under. each (suc k) d (omega arith)) (omega arith) small in
    (omega arith, later)

fit-programs : (at limit : ℕ) (programs : List ProgramEntry) → All ProgramFits programs → at + length (program_bytes programs) ≤ limit → limit < 2 ^ 32 → AllFit (program_fields at programs)
unfolding program_fields
fit-programs at limit [] each inside small = tt
fit-programs at limit (p ∷ programs) each inside small =
    let own = each 0 p (omega arith) in
    let section = own.section in
    let joined = length-append p.bytes (program_bytes programs) in
    let later = fit-programs (at + length p.bytes) limit programs (λ k d under. each (suc k) d (omega arith)) (omega arith) small in
    (omega arith, (omega arith, (omega arith, (omega arith, later))))

fit-words : (words : List ℕ) → All (λ w. w < 2 ^ 32) words → AllFit (map Word words)
fit-words [] each = tt
fit-words (w ∷ words) each =
    let own = each 0 w (omega arith) in
    (omega arith, fit-words words (λ k d under. each (suc k) d (omega arith)))

half_small : (section : ℤ) → FitsSigned w16 section → cast_unsigned w16 section < 2 ^ 16
half_small (pos k) half = omega (arith, half)
half_small (negsuc n) half = omega (arith, half)

fit-exports : (at limit : ℕ) (exports : List Export) → All ExportFits exports → at + length (flat_map (λ e. e.name) exports) ≤ limit → limit < 2 ^ 24 → AllFit (export_fields at exports)
unfolding export_fields
fit-exports at limit [] each inside small = tt
fit-exports at limit (e ∷ exports) each inside small =
    let own = each 0 e (omega arith) in
    let class = own.class in
    let value = own.value in
    let section = half_small e.fields.section own.section in
    let joined = length-append e.name (flat_map (λ e. e.name) exports) in
    let later = fit-exports (at + length e.name) limit exports (λ k d under. each (suc k) d (omega arith)) (omega arith) small in
    (omega arith, (omega arith, (omega arith, later)))

-- the zeros before the export table
abbrev table_zeros : LoaderTables → List ℕ
table_zeros t = replicate (next_multiple_of (length (front_of t)) 4 - length (front_of t)) 0

-- the export table is after everything else
pub table-after : (t : LoaderTables) → drop (exports_from t) (written_loader t) ≡ spelled (table_fields t)
unfolding written_loader
table-after t = drop_at (padded 4 (front_of t)) (spelled (table_fields t)) (exports_from t) (length-front_of t)

-- the programs and the strings are after the entries
after-entries : (t : LoaderTables) → Stands (written_loader t) (program_bytes t.programs ++ strings_of t) (programs_from t)
unfolding written_loader padded
after-entries t =
    let f = spelled (front_fields t) in
    let r = program_bytes t.programs ++ strings_of t in
    record {
      before = f;
      behind = table_zeros t ++ spelled (table_fields t);
      is = outward f r (table_zeros t) (spelled (table_fields t));
      far = length-front_fields t;
    }

pub strings-stand : (t : LoaderTables) → Stands (written_loader t) (strings_of t) (strings_from t)
strings-stand t = stands-in (written_loader t) (program_bytes t.programs ++ strings_of t) (strings_of t) (programs_from t) (length (program_bytes t.programs)) (after-entries t) (stands-end (program_bytes t.programs) (strings_of t))

-- where program i begins, counted from the first program
abbrev pub program_at : LoaderTables → ℕ → ℕ
program_at t i = length (program_bytes (take i t.programs))

pub program-stands : (t : LoaderTables) (i : ℕ) (p : ProgramEntry) → slice_get t.programs i ≡ Some p → Stands (written_loader t) p.bytes (programs_from t + program_at t i)
program-stands t i p there =
    let all = program_bytes t.programs in
    let front = stands-in (written_loader t) (all ++ strings_of t) all (programs_from t) 0 (after-entries t) (stands-front all (strings_of t)) in
    let own = stands-in (written_loader t) all p.bytes (programs_from t + 0) (program_at t i) front (stands-among (λ (p : ProgramEntry). p.bytes) t.programs i p there) in
    let e : programs_from t + 0 + program_at t i ≡ programs_from t + program_at t i = omega arith in
    let P : ℕ → Type 0 = λ at. Stands (written_loader t) p.bytes at in
    subst P e own

-- where the name of an entry is, counted from the first string
abbrev pub library_name_at : LoaderTables → ℕ → ℕ
library_name_at t i = length (flat_map library_name (take i t.libraries))

abbrev pub import_name_at : LoaderTables → ℕ → ℕ
import_name_at t j = import_names_from t + length (flat_map import_name (take j t.imports))

abbrev pub export_name_at : LoaderTables → ℕ → ℕ
export_name_at t k = export_names_from t + length (flat_map (λ e. e.name) (take k t.exports))

-- the names of a library, an import and an export among all
pub library-name-stands : (t : LoaderTables) (i : ℕ) (l : Library) → slice_get t.libraries i ≡ Some l → Stands (strings_of t) (library_name l) (library_name_at t i)
library-name-stands t i l there =
    let a = zero_ended (map (λ l. l.name) t.libraries) in
    let b = zero_ended (map (λ i. i.name) t.imports) in
    let c = flat_map (λ e. e.name) t.exports in
    let at : ℕ = length (flat_map library_name (take i t.libraries)) in
    let P : List ℕ → Type 0 = λ names. Stands names (library_name l) at in
    let own = subst P (sym (flat_map-map (λ name. name ++ 0 ∷ []) (λ l. l.name) t.libraries)) (stands-among library_name t.libraries i l there) in
    let all = stands-in ((a ++ b) ++ c) (a ++ b) (library_name l) 0 (0 + at) (stands-front (a ++ b) c) (stands-in (a ++ b) a (library_name l) 0 at (stands-front a b) own) in
    let e : 0 + (0 + at) ≡ at = omega arith in
    let Q : ℕ → Type 0 = λ from. Stands (strings_of t) (library_name l) from in
    subst Q e all

pub import-name-stands : (t : LoaderTables) (j : ℕ) (i : Import) → slice_get t.imports j ≡ Some i → Stands (strings_of t) (import_name i) (import_name_at t j)
import-name-stands t j i there =
    let a = zero_ended (map (λ l. l.name) t.libraries) in
    let b = zero_ended (map (λ i. i.name) t.imports) in
    let c = flat_map (λ e. e.name) t.exports in
    let at : ℕ = length (flat_map import_name (take j t.imports)) in
    let P : List ℕ → Type 0 = λ names. Stands names (import_name i) at in
    let own = subst P (sym (flat_map-map (λ name. name ++ 0 ∷ []) (λ i. i.name) t.imports)) (stands-among import_name t.imports j i there) in
    let all = stands-in ((a ++ b) ++ c) (a ++ b) (import_name i) 0 (length a + at) (stands-front (a ++ b) c) (stands-in (a ++ b) b (import_name i) (length a) at (stands-end a b) own) in
    let e : 0 + (length a + at) ≡ import_name_at t j = omega arith in
    let Q : ℕ → Type 0 = λ from. Stands (strings_of t) (import_name i) from in
    subst Q e all

pub export-name-stands : (t : LoaderTables) (k : ℕ) (e : Export) → slice_get t.exports k ≡ Some e → Stands (strings_of t) e.name (export_name_at t k)
export-name-stands t k e there =
    let a = zero_ended (map (λ l. l.name) t.libraries) in
    let b = zero_ended (map (λ i. i.name) t.imports) in
    let c = flat_map (λ (e : Export). e.name) t.exports in
    let at : ℕ = length (flat_map (λ (e : Export). e.name) (take k t.exports)) in
    let all = stands-in ((a ++ b) ++ c) c e.name (length (a ++ b)) at (stands-end (a ++ b) c) (stands-among (λ (e : Export). e.name) t.exports k e there) in
    let P : ℕ → Type 0 = λ from. Stands (strings_of t) e.name (from + at) in
    subst P (length-append a b) all

module _ (t : LoaderTables) (w : TablesFit t) where
  front_fits : AllFit (front_fields t)
  unfolding header_fields
  front_fits =
      let size = w.size in
      let whole = length-written_loader t in
      let main = w.main.0 in
      let main' = w.main.1 in
      let init = w.init.0 in
      let init' = w.init.1 in
      let term = w.term.0 in
      let term' = w.term.1 in
      let power = w.power in
      let strings = w.strings in
      let tables = length-table_fields t in
      let names = length-append (zero_ended (map (λ l. l.name) t.libraries)) (zero_ended (map (λ i. i.name) t.imports)) in
      let all = length-append (zero_ended (map (λ l. l.name) t.libraries) ++ zero_ended (map (λ i. i.name) t.imports)) (flat_map (λ e. e.name) t.exports) in
      let libraries = fit-libraries 0 (2 ^ 24 - 1) t.libraries w.libraries (omega arith) (omega arith) in
      let imports = fit-imports (import_names_from t) (2 ^ 24 - 1) t.imports w.imports (omega arith) (omega arith) in
      let programs = fit-programs 0 (2 ^ 32 - 1) t.programs w.programs (omega arith) (omega arith) in
      let others = fit-append (library_fields 0 t.libraries) _ libraries (fit-append (import_fields (import_names_from t) t.imports) (program_fields 0 t.programs) imports programs) in
      (main, (main', (init, (init', (term, (term', (omega arith, (omega arith, (omega arith, (omega arith, (omega arith, (omega arith, (power, (omega arith, others))))))))))))))

  -- all fields before the programs
  front_reads : Reads (written_loader t) 0 0 (front_fields t)
  unfolding written_loader padded
  front_reads =
      let rest = program_bytes t.programs ++ strings_of t in
      let all = outward (spelled (front_fields t)) rest (table_zeros t) (spelled (table_fields t)) in
      let P : List ℕ → Type 0 = λ bytes. Reads bytes 0 0 (front_fields t) in
      subst P (sym all) (reads [] (rest ++ (table_zeros t ++ spelled (table_fields t))) (front_fields t) front_fits)

  -- the loader header is at the front, and the entries after it
  pub loader_header_reads : Reads (written_loader t) 0 0 (header_fields t)
  loader_header_reads = (reads-split (written_loader t) 0 0 (header_fields t) (entry_fields t) front_reads).0

  entries_there : Reads (written_loader t) 0 56 (entry_fields t)
  entries_there =
      let behind = (reads-split (written_loader t) 0 0 (header_fields t) (entry_fields t) front_reads).1 in
      reads-at (written_loader t) 0 (0 + widths (header_fields t)) 0 56 (entry_fields t) (omega (arith, widths-length (header_fields t), length-loader_header t)) behind

  libraries_there : Reads (written_loader t) 0 56 (library_fields 0 t.libraries)
  libraries_there = (reads-split (written_loader t) 0 56 (library_fields 0 t.libraries) _ entries_there).0

  after_libraries : Reads (written_loader t) 0 (56 + 24 * length t.libraries) (import_fields (import_names_from t) t.imports ++ program_fields 0 t.programs)
  after_libraries =
      let libraries = library_fields 0 t.libraries in
      let others = import_fields (import_names_from t) t.imports ++ program_fields 0 t.programs in
      let behind = (reads-split (written_loader t) 0 56 libraries others entries_there).1 in
      reads-at (written_loader t) 0 (56 + widths libraries) 0 (56 + 24 * length t.libraries) others (omega (arith, widths-length libraries, length-library_fields 0 t.libraries)) behind

  imports_there : Reads (written_loader t) 0 (56 + 24 * length t.libraries) (import_fields (import_names_from t) t.imports)
  imports_there = (reads-split (written_loader t) 0 (56 + 24 * length t.libraries) (import_fields (import_names_from t) t.imports) _ after_libraries).0

  relocations_there : Reads (written_loader t) 0 (56 + 24 * length t.libraries + 4 * length t.imports) (program_fields 0 t.programs)
  relocations_there =
      let imports = import_fields (import_names_from t) t.imports in
      let behind = (reads-split (written_loader t) 0 (56 + 24 * length t.libraries) imports (program_fields 0 t.programs) after_libraries).1 in
      reads-at (written_loader t) 0 (56 + 24 * length t.libraries + widths imports) 0 (56 + 24 * length t.libraries + 4 * length t.imports) (program_fields 0 t.programs)
      (omega (arith, widths-length imports, length-import_fields (import_names_from t) t.imports)) behind

  -- library i, import j and relocation header i
  pub library_reads : (i : ℕ) (l : Library) → slice_get t.libraries i ≡ Some l → Reads (written_loader t) (56 + 24 * i) 0 (library_entry (0 + library_name_at t i) l)
  library_reads i l there = table-entry libraries-table (written_loader t) 56 0 t.libraries i l there libraries_there

  pub import_reads : (j : ℕ) (i : Import) → slice_get t.imports j ≡ Some i → Reads (written_loader t) (56 + 24 * length t.libraries + 4 * j) 0 (import_entry (import_name_at t j) i)
  import_reads j i there = table-entry imports-table (written_loader t) (56 + 24 * length t.libraries) (import_names_from t) t.imports j i there imports_there

  pub relocation_reads : (i : ℕ) (p : ProgramEntry) → slice_get t.programs i ≡ Some p → Reads (written_loader t) (56 + 24 * length t.libraries + 4 * length t.imports + 12 * i) 0 (relocation_entry (0 + program_at t i) p)
  relocation_reads i p there = table-entry programs-table (written_loader t) (56 + 24 * length t.libraries + 4 * length t.imports) 0 t.programs i p there relocations_there

  table_fits : AllFit (table_fields t)
  table_fits =
      let strings = w.strings in
      let a = zero_ended (map (λ l. l.name) t.libraries) in
      let b = zero_ended (map (λ i. i.name) t.imports) in
      let names = length-append a b in
      let all = length-append (a ++ b) (flat_map (λ (e : Export). e.name) t.exports) in
      let exports = fit-exports (export_names_from t) (2 ^ 24 - 1) t.exports w.exports (omega arith) (omega arith) in
      fit-append (map Word t.slots) (map Word t.keys ++ export_fields (export_names_from t) t.exports) (fit-words t.slots w.slots)
      (fit-append (map Word t.keys) (export_fields (export_names_from t) t.exports) (fit-words t.keys w.keys) exports)

  table_reads : Reads (spelled (table_fields t)) 0 0 (table_fields t)
  table_reads =
      let P : List ℕ → Type 0 = λ bytes. Reads bytes 0 0 (table_fields t) in
      subst P (append-nil (spelled (table_fields t))) (reads [] [] (table_fields t) table_fits)

  -- slot s, key i and export i
  pub slot_reads : (s slot : ℕ) → slice_get t.slots s ≡ Some slot → Reads (spelled (table_fields t)) (0 + 4 * s) 0 (Word slot ∷ [])
  slot_reads s slot there =
      let slots = (reads-split (spelled (table_fields t)) 0 0 (map Word t.slots) (map Word t.keys ++ export_fields (export_names_from t) t.exports) table_reads).0 in
      table-entry words-table (spelled (table_fields t)) 0 0 t.slots s slot there slots

  after_slots : Reads (spelled (table_fields t)) 0 (4 * length t.slots) (map Word t.keys ++ export_fields (export_names_from t) t.exports)
  after_slots =
      let others = map Word t.keys ++ export_fields (export_names_from t) t.exports in
      let behind = (reads-split (spelled (table_fields t)) 0 0 (map Word t.slots) others table_reads).1 in
      reads-at (spelled (table_fields t)) 0 (0 + widths (map Word t.slots)) 0 (4 * length t.slots) others (omega (arith, widths-length (map Word t.slots), length-words t.slots)) behind

  pub key_reads : (i key : ℕ) → slice_get t.keys i ≡ Some key → Reads (spelled (table_fields t)) (4 * length t.slots + 4 * i) 0 (Word key ∷ [])
  key_reads i key there =
      let keys = (reads-split (spelled (table_fields t)) 0 (4 * length t.slots) (map Word t.keys) (export_fields (export_names_from t) t.exports) after_slots).0 in
      table-entry words-table (spelled (table_fields t)) (4 * length t.slots) 0 t.keys i key there keys

  pub export_reads : (i : ℕ) (e : Export) → slice_get t.exports i ≡ Some e → Reads (spelled (table_fields t)) (4 * length t.slots + 4 * length t.keys + 10 * i) 0 (export_entry (export_name_at t i) e)
  export_reads i e there =
      let exports = export_fields (export_names_from t) t.exports in
      let behind = (reads-split (spelled (table_fields t)) 0 (4 * length t.slots) (map Word t.keys) exports after_slots).1 in
      let own = reads-at (spelled (table_fields t)) 0 (4 * length t.slots + widths (map Word t.keys)) 0 (4 * length t.slots + 4 * length t.keys) exports (omega (arith, widths-length (map Word t.keys), length-words t.keys)) behind in
      table-entry exports-table (spelled (table_fields t)) (4 * length t.slots + 4 * length t.keys) (export_names_from t) t.exports i e there own
