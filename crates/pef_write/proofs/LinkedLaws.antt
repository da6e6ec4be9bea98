-- A linked container is read back, with the script's sections and tables.
use Rattle.std.proofs.Common.{◌≡◌, ◌≢◌, ◌∙◌, ℕ, zero, suc, ◌+◌, ◌^◌, ◌<◌, ◌≤◌, List, [], ◌∷◌, None, Some, length, get_or, slice_get, option_map, inl, inr, refl, sym, ap, arith}
use Rattle.std.specs.Int.{next_multiple_of}
use Rattle.std.specs.Option.{option_and_then}
use Rattle.std.proofs.lemmas.Bool.Decides.{eqb_tells, leb_tells}
use Rattle.std.proofs.lemmas.List.{get_or-map, length-map}
use Rattle.std.proofs.lemmas.Map.Made.{AllPairs-from_IsDistinct}
use Rattle.std.proofs.lemmas.Option.{get_or_from_slice_get, slice_get-get_or, slice_get-map, slice_get_within}
use Rattle.std.proofs.lemmas.Slice.Eq.{bytes_eq-Decides}
use Rattle.pef_hash.specs.Build.{built}
use Rattle.pef_hash.specs.Regular.{AreDistinct, Spells}
use Rattle.pef_hash.proofs.Laws.{built_has_no_other, built_has_own, ordered_name}
use Rattle.pef_format.specs.Exports.{Export}
use Rattle.pef_format.specs.Symbols.{Import}
use Rattle.pef_loader.specs.Export.{export_table}
use Rattle.pef_loader.specs.Loader.{export_of, named_of}
use Rattle.pef_reloc.specs.declared.instr.Instr.{Instr}
use Rattle.pef_script.specs.Script.{DescribedLibrary, DescribedScript, DescribedSection, export_names}
use Rattle.pef_script.specs.WellFormed.{ScriptHolds}
use Rattle.pef_views.specs.Container.{Section, container_of}
use Rattle.pef_write.specs.Containers.{IsSection, data_from, laid_out, loader_header, raw_of, section_header, written_sections}
use Rattle.pef_write.specs.Linked.{AreProgramsFor, IsLinked, LinkedContainer, libraries_from, linked_bytes, linked_library, linked_loader, linked_tables, no_export, script_tables}
use Rattle.pef_write.specs.Loaders.{written_loader}
use Rattle.pef_write.specs.ReadBack.{HasSections, HasTables, IsReadBack}
use Rattle.pef_write.specs.Kept.Tables.{ReadsBack, header_read, linked_container, loaded_tables}
use Rattle.pef_write.proofs.ExportNames.{length-keys, length-order, length-slots}
use Rattle.pef_write.proofs.Fitting.{length-exports, length-libraries, sections_fit}
use Rattle.pef_write.proofs.LinkedTables.{are_sound}
use Rattle.pef_write.proofs.TablesRead.{export_named, exports_back, imports_back, init_back, key_there, libraries_back, main_back, relocs_back, slot_there, tables_loaded, term_back}
use Rattle.pef_write.proofs.Written.{reads_back}

pub read_back : (s : DescribedScript) (programs : List (List Instr)) → ScriptHolds s → AreProgramsFor (length s.sections) s.sections programs → ReadsBack s.versions s.sections (linked_loader s programs) (linked_bytes s programs)
unfolding linked_bytes
read_back s programs holds are = reads_back s.versions s.sections (linked_loader s programs) (linked_bytes s programs) refl (sections_fit s programs holds are)

-- where section k lies
record SectionAt (sections : List Section) (k : ℕ) (s : DescribedSection) : Type 0 where
  at : ℕ
  is : slice_get sections k ≡ Some (record { header = section_header s at; raw = raw_of s })

section_at : (from : ℕ) (own : List DescribedSection) (loader : List ℕ) (k : ℕ) (s : DescribedSection) → slice_get own k ≡ Some s → SectionAt (laid_out from own loader) k s
unfolding laid_out
section_at from [] loader k s is = absurd (cc)
section_at from (q ∷ own) loader zero s is =
    let same : q ≡ s = cc in
    record { at = from; is = ap (λ (q : DescribedSection). Some (record { header = section_header q from; raw = raw_of q })) same }
section_at from (q ∷ own) loader (suc k) s is =
    let later = section_at (from + next_multiple_of (length (raw_of q)) 16) own loader k s is in
    record { at = later.at; is = later.is }

pub section_is : (s : DescribedScript) (programs : List (List Instr)) (k : ℕ) (section : DescribedSection) → ScriptHolds s → AreProgramsFor (length s.sections) s.sections programs → slice_get s.sections k ≡ Some section → IsSection (linked_container s programs) k section
unfolding written_sections
section_is s programs k section holds are there =
    let found = section_at (data_from (length s.sections)) s.sections (linked_loader s programs) k section there in
    record { at = found.at; is = (read_back s programs holds are).sections k ∙ found.is }

-- the loader section lies after the others
loader_at : (from : ℕ) (own : List DescribedSection) (loader : List ℕ) → (at : ℕ) × (slice_get (laid_out from own loader) (length own) ≡ Some (record { header = loader_header (length loader) at; raw = loader }))
unfolding laid_out
loader_at from [] loader = (from, refl)
loader_at from (q ∷ own) loader = loader_at (from + next_multiple_of (length (raw_of q)) 16) own loader

has_sections : (s : DescribedScript) (programs : List (List Instr)) → ScriptHolds s → AreProgramsFor (length s.sections) s.sections programs → HasSections s (linked_container s programs)
unfolding written_sections
has_sections s programs holds are =
    let last = loader_at (data_from (length s.sections)) s.sections (linked_loader s programs) in
    record {
      current = refl;
      old_def = refl;
      old_imp = refl;
      instantiated = refl;
      count = refl;
      each = λ k section there. section_is s programs k section holds are there;
      loader = (last.0, (read_back s programs holds are).sections (length s.sections) ∙ last.1);
    }

-- library k among those that are numbered from a number on
library_at : (imports : List Import) (from : ℕ) (libraries : List DescribedLibrary) (k : ℕ) → slice_get (libraries_from imports from libraries) k ≡ option_map (linked_library imports (from + k)) (slice_get libraries k)
library_at imports from [] k = refl
library_at imports from (l ∷ libraries) zero = let e : from ≡ from + 0 = omega arith in ap (λ n. Some (linked_library imports n l)) e
library_at imports from (l ∷ libraries) (suc k) =
    let e : from + 1 + k ≡ from + suc k = omega arith in
    library_at imports (from + 1) libraries k ∙ ap (λ n. option_map (linked_library imports n) (slice_get libraries k)) e

from_0 : (k : ℕ) → 0 + k ≡ k
from_0 k = omega arith

-- no name comes twice
names_apart : (s : DescribedScript) → ScriptHolds s → AreDistinct (export_names s)
names_apart s holds i j i_under j_under same =
    let apart = AllPairs-from_IsDistinct bytes_eq-Decides (export_names s) holds.exports.apart in
    elim (eqb_tells i j) [
      | inl equal ↦ equal.1
      | inr other ↦ (
          let differ : i ≢ j = other.1 in
          elim (leb_tells i j) [
            | inl below ↦ (let le : i ≤ j = below.1 in absurd (apart i j [] (omega arith) j_under same))
            | inr above ↦ (let lt : j < i = above.1 in absurd (apart j i [] lt i_under (sym same)))
          ])
    ]

module _ (s : DescribedScript) (programs : List (List Instr)) (holds : ScriptHolds s) (are : AreProgramsFor (length s.sections) s.sections programs) where
  names_count : length (export_names s) ≡ length s.exports
  names_count = length-map s.exports (λ (symbol : Export). symbol.name)

  -- the export at a place of the order
  placed : (i : ℕ) → i < length (export_names s) → slice_get (linked_tables s programs).exports i ≡ Some (get_or s.exports (get_or (built (export_names s)).order i 0) no_export)
  unfolding script_tables
  placed i under =
      let order = (built (export_names s)).order in
      slice_get-map (λ e. get_or s.exports e no_export) order i
      ∙ ap (option_map (λ e. get_or s.exports e no_export)) (slice_get-get_or order i 0 (omega (arith, under, length-order (export_names s))))

  order_inside : (i : ℕ) → i < length (export_names s) → get_or (built (export_names s)).order i 0 < length s.exports
  order_inside i under = omega (arith, ordered_name (export_names s) i under, names_count)

  name_placed : (i : ℕ) → i < length (export_names s) → (get_or s.exports (get_or (built (export_names s)).order i 0) no_export).name ≡ get_or (export_names s) (get_or (built (export_names s)).order i 0) []
  name_placed i under = sym (get_or-map (λ (symbol : Export). symbol.name) s.exports (get_or (built (export_names s)).order i 0) no_export [] (order_inside i under))

  -- the export table is the one that is built of the names
  pub spells : Spells (export_table (written_loader (linked_tables s programs)) (header_read (linked_tables s programs))) (built (export_names s)) (export_names s)
  unfolding script_tables
  spells =
      let t = linked_tables s programs in
      let n = length s.sections in
      let sound = are_sound s programs holds are in
      let names = export_names s in
      record {
        power = refl;
        count = length-exports s ∙ sym names_count;
        slots = λ i under. slot_there n t sound i (get_or (built names).slots i 0) (slice_get-get_or (built names).slots i 0 (omega (arith, under, length-slots names)));
        keys = λ i under. key_there n t sound i _ (get_or (built names).keys i 0) (placed i under) (slice_get-get_or (built names).keys i 0 (omega (arith, under, length-keys names)));
        ordered = λ i under. export_named n t sound i _ (placed i under) ∙ ap Some (name_placed i under);
      }

  few_names : length (export_names s) < 2 ^ 14
  few_names = omega (arith, names_count, holds.exports.count)

  -- each export is found by its name, and no other name is
  named_found : (e : ℕ) (x : Export) → slice_get s.exports e ≡ Some x → option_and_then (export_of (loaded_tables (length s.sections) (linked_tables s programs))) (named_of (loaded_tables (length s.sections) (linked_tables s programs)) x.name) ≡ Some x
  unfolding named_of
  named_found e x there =
      let t = linked_tables s programs in
      let n = length s.sections in
      let l = loaded_tables n t in
      let names = export_names s in
      let under : e < length names = omega (arith, slice_get_within s.exports e x there, names_count) in
      let own = built_has_own names _ e few_names spells (names_apart s holds) under in
      let name : get_or names e [] ≡ x.name = get_or-map (λ (symbol : Export). symbol.name) s.exports e no_export [] (slice_get_within s.exports e x there) ∙ ap (λ (symbol : Export). symbol.name) (get_or_from_slice_get s.exports e x no_export there) in
      let found : named_of l x.name ≡ Some own.0 = ap (named_of l) (sym name) ∙ own.1 in
      let export = exports_back n t (are_sound s programs holds are) own.0 ∙ placed own.0 own.2 in
      ap (option_and_then (export_of l)) found ∙ export
      ∙ ap (λ k. Some (get_or s.exports k no_export)) own.3
      ∙ ap Some (get_or_from_slice_get s.exports e x no_export there)

  unnamed_missing : (name : List ℕ) → ((e : ℕ) (x : Export) → slice_get s.exports e ≡ Some x → x.name ≢ name) → named_of (loaded_tables (length s.sections) (linked_tables s programs)) name ≡ None
  unfolding named_of
  unnamed_missing name none =
      let names = export_names s in
      built_has_no_other names _ name few_names spells (λ e under same. (
      let inside : e < length s.exports = omega (arith, under, names_count) in
      none e (get_or s.exports e no_export) (slice_get-get_or s.exports e no_export inside) (sym (get_or-map (λ (symbol : Export). symbol.name) s.exports e no_export [] inside) ∙ same)))

  has_tables : HasTables s programs (loaded_tables (length s.sections) (linked_tables s programs))
  unfolding script_tables
  has_tables =
      let t = linked_tables s programs in
      let n = length s.sections in
      let sound = are_sound s programs holds are in
      record {
        sections = refl;
        main = main_back n t;
        init = init_back n t;
        term = term_back n t;
        library_count = length-libraries s.imports 0 s.libraries;
        libraries = λ k. libraries_back n t sound k ∙ library_at s.imports 0 s.libraries k ∙ ap (λ m. option_map (linked_library s.imports m) (slice_get s.libraries k)) (from_0 k);
        import_count = refl;
        imports = imports_back n t sound;
        reloc_count = refl;
        relocs = relocs_back n t sound;
        export_count = length-exports s;
        exports = λ k. exports_back n t sound k ∙ slice_get-map (λ e. get_or s.exports e no_export) (built (export_names s)).order k;
        named = named_found;
        unnamed = unnamed_missing;
      }

-- a linked container is read back
pub is_read_back : (s : DescribedScript) (l : LinkedContainer) (linked : IsLinked s l) → IsReadBack s l linked
unfolding linked_loader
is_read_back s l linked =
    let programs = linked.programs in
    record {
      container = linked_container s programs;
      loader = loaded_tables (length s.sections) (linked_tables s programs);
      read = ap container_of linked.bytes ∙ (read_back s programs linked.holds linked.are).container;
      loaded = tables_loaded (length s.sections) (linked_tables s programs) (are_sound s programs linked.holds linked.are);
      sections = has_sections s programs linked.holds linked.are;
      tables = has_tables s programs linked.holds linked.are;
    }
