-- The first of all faults of a loader section is the one that is reported alone.
use Rattle.std.proofs.Common.{◌≡◌, ◌∙◌, ℕ, ◌+◌, ◌*◌, ◌^◌, ◌<◌, ◌≤◌, Bool, true, false, not, cond, List, [], ◌∷◌, ◌++◌, drop, Option, None, Some, refl, sym, inl, inr, arith, length}
use Rattle.std.specs.Prelude.{Result, Ok, Err, nat_lt, nat_le, ◌&&◌}
use Rattle.std.specs.Option.{is_some, option_map, option_or, option_map_or}
use Rattle.std.specs.Result.{result_err}
use Rattle.std.proofs.lemmas.Bool.Decides.{eqb_tells}
use Rattle.std.proofs.lemmas.Bool.{ltb-false, le-leb, lt-ltb, leb-true}
use Rattle.pef_words.specs.Bytes.{number_at}
use Rattle.pef_words.specs.Findings.{all_met, first_fault, found_in}
use Rattle.pef_words.specs.Refusals.{◌>>=◌, first_among, first_met, unless}
use Rattle.pef_words.proofs.Laws.Findings.{first_fault-append, first_fault-met, first_fault-among, result_err-unless}
use Rattle.pef_words.proofs.Laws.Refusals.{neither}
use Rattle.pef_hash.specs.Exports.{Entry, entry_at, entry_of, export_place, has_table, slot_place}
use Rattle.pef_hash.specs.Limits.{most_power}
use Rattle.pef_loader.specs.declared.header.LoaderHeader.{LoaderHeader}
use Rattle.pef_loader.specs.declared.reloc.RelocEntry.{RelocEntry}
use Rattle.pef_loader.specs.declared.fault.LoaderFault.{LoaderFault}
use Rattle.pef_loader.specs.declared.fault.LoaderFault.TheVariants.{LoaderShort, BadTableOffset, BadExportTable}
use Rattle.pef_loader.specs.Header.{header_of, import_place, imports_from, library_place, reloc_place, relocs_from, tables_end}
use Rattle.pef_loader.specs.Library.{LibraryEntry, library_at, library_refusal, library_tests}
use Rattle.pef_loader.specs.Import.{ImportEntry, import_at, import_refusal, import_tests}
use Rattle.pef_loader.specs.Reloc.{instructions_of, reloc_at, reloc_in, reloc_refusal, reloc_tests}
use Rattle.pef_loader.specs.Export.{export_refusal, export_table, export_tests, has_exports}
use Rattle.pef_loader.specs.Loader.{IsLoader, Loaded, entry_tests, fault_if, judged, loaded_of, reloc_of}
use Rattle.pef_loader.specs.Partial.{RelocationRow, export_findings, export_table_tests, exports_findings, findings_in, findings_of, if_whole, import_findings, imports_findings, libraries_findings, library_findings, partial_of, relocation_findings, relocation_row, relocations_findings, table_tests}
use Rattle.pef_loader.proofs.Loaders.{accepted}

-- what is there
is_there : {A : Type 0} (o : Option A) → is_some o ≡ true → (x : A) × (o ≡ Some x)
is_there None is = absurd (cc)
is_there (Some x) is = (x, refl)

-- a row of a table that is whole is there
pub library_there : (bytes : List ℕ) (h : LoaderHeader) (i : ℕ) → imports_from h ≤ length bytes → i < h.library_count → (e : LibraryEntry) × (library_at bytes i ≡ Some e)
unfolding library_at number_at
library_there bytes h i room under = is_there (library_at bytes i) (rw (
  le-leb (library_place i + 4) (length bytes) (omega arith),
  le-leb (library_place i + 4 + 4) (length bytes) (omega arith),
  le-leb (library_place i + 8 + 4) (length bytes) (omega arith),
  le-leb (library_place i + 12 + 4) (length bytes) (omega arith),
  le-leb (library_place i + 16 + 4) (length bytes) (omega arith),
  le-leb (library_place i + 20 + 1) (length bytes) (omega arith),
) refl)

pub import_there : (bytes : List ℕ) (h : LoaderHeader) (j : ℕ) → relocs_from h ≤ length bytes → j < h.import_count → (e : ImportEntry) × (import_at bytes h j ≡ Some e)
unfolding import_at number_at
import_there bytes h j room under = is_there (import_at bytes h j) (rw (le-leb (import_place h j + 4) (length bytes) (omega arith)) refl)

pub reloc_there : (bytes : List ℕ) (h : LoaderHeader) (k : ℕ) → tables_end h ≤ length bytes → k < h.reloc_count → (e : RelocEntry) × (reloc_at bytes h k ≡ Some e)
unfolding reloc_at number_at
reloc_there bytes h k room under = is_there (reloc_at bytes h k) (rw (
  le-leb (reloc_place h k + 2) (length bytes) (omega arith),
  le-leb (reloc_place h k + 4 + 4) (length bytes) (omega arith),
  le-leb (reloc_place h k + 8 + 4) (length bytes) (omega arith),
) refl)

-- a table that isn't empty has a size
table_size : (power count : ℕ) (bytes : List ℕ) → has_table power count bytes ≡ true → 0 < count → slot_place (2 ^ power) + 14 * count ≤ length bytes
table_size power count bytes has some =
    elim (eqb_tells count 0) [
      | inl none ↦ absurd (omega (arith, none.1))
      | inr other ↦ by (nat_le power most_power) (rw other.0 at has)
    ]
  where
    by : (small : Bool) → (small && nat_le (slot_place (2 ^ power) + 14 * count) (length bytes)) ≡ true → slot_place (2 ^ power) + 14 * count ≤ length bytes
    by true has = leb-true _ _ has
    by false has = absurd (cc has)

pub export_there : (bytes : List ℕ) (h : LoaderHeader) (i : ℕ) → has_exports bytes h ≡ true → i < h.export_count → (e : Entry) × (entry_of (export_table bytes h) i ≡ Some e)
unfolding entry_of entry_at number_at
export_there bytes h i has under =
    let t = drop h.export_hash_offset bytes in
    let size = table_size h.export_power h.export_count t has (omega arith) in
    is_there (entry_of (export_table bytes h) i) (rw (
      lt-ltb i h.export_count under,
      le-leb (export_place h.export_power h.export_count i + 4) (length t) (omega (arith, size)),
      le-leb (export_place h.export_power h.export_count i + 4 + 4) (length t) (omega (arith, size)),
      le-leb (export_place h.export_power h.export_count i + 8 + 2) (length t) (omega (arith, size)),
    ) refl)

-- a row that is there is refused with the first of its faults
library_first : (l : Loaded) (i : ℕ) (e : LibraryEntry) → library_at l.bytes i ≡ Some e → first_fault (library_findings l i) ≡ library_refusal l.bytes l.header i
library_first l i e there = rw there (first_fault-met (library_tests l.bytes l.header i e))

import_first : (l : Loaded) (j : ℕ) (e : ImportEntry) → import_at l.bytes l.header j ≡ Some e → first_fault (import_findings l j) ≡ import_refusal l.bytes l.header j
import_first l j e there = rw there (first_fault-met (import_tests l.bytes l.header j e))

reloc_first : (l : Loaded) (k : ℕ) (e : RelocEntry) → reloc_at l.bytes l.header k ≡ Some e → first_fault (relocation_findings l k) ≡ reloc_refusal l.bytes l.header l.sections k
reloc_first l k e there = rw there (first_fault-met (reloc_tests l.bytes l.header l.sections k e))

export_first : (l : Loaded) (i : ℕ) (e : Entry) → entry_of (export_table l.bytes l.header) i ≡ Some e → first_fault (export_findings l i) ≡ export_refusal l.bytes l.header l.sections i
export_first l i e there = rw there (first_fault-met (export_tests l.bytes l.header l.sections i e))

whole_first : {F : Type 0} (whole : Bool) (findings : List F) (first : Option F) → whole ≡ true → first_fault findings ≡ first → first_fault (if_whole whole findings) ≡ first
whole_first whole findings first is same = rw is same

-- .. and so is a table that is whole
libraries_first : (l : Loaded) → tables_end l.header ≤ length l.bytes → first_fault (libraries_findings l) ≡ first_among (library_refusal l.bytes l.header) 0 l.header.library_count
libraries_first l room =
    whole_first _ _ _ (le-leb (imports_from l.header) (length l.bytes) (omega arith))
    (first_fault-among (library_findings l) (library_refusal l.bytes l.header) 0 l.header.library_count (λ k low high. (let here = library_there l.bytes l.header k (omega arith) (omega arith) in library_first l k here.0 here.1)))

imports_first : (l : Loaded) → tables_end l.header ≤ length l.bytes → first_fault (imports_findings l) ≡ first_among (import_refusal l.bytes l.header) 0 l.header.import_count
imports_first l room =
    whole_first _ _ _ (le-leb (relocs_from l.header) (length l.bytes) (omega arith))
    (first_fault-among (import_findings l) (import_refusal l.bytes l.header) 0 l.header.import_count (λ k low high. (let here = import_there l.bytes l.header k (omega arith) (omega arith) in import_first l k here.0 here.1)))

relocations_first : (l : Loaded) → tables_end l.header ≤ length l.bytes → first_fault (relocations_findings l) ≡ first_among (reloc_refusal l.bytes l.header l.sections) 0 l.header.reloc_count
relocations_first l room =
    whole_first _ _ _ (le-leb (tables_end l.header) (length l.bytes) room)
    (first_fault-among (relocation_findings l) (reloc_refusal l.bytes l.header l.sections) 0 l.header.reloc_count (λ k low high. (let here = reloc_there l.bytes l.header k room (omega arith) in reloc_first l k here.0 here.1)))

exports_first : (l : Loaded) → has_exports l.bytes l.header ≡ true → first_fault (exports_findings l) ≡ first_among (export_refusal l.bytes l.header l.sections) 0 l.header.export_count
exports_first l has =
    whole_first _ _ _ has
    (first_fault-among (export_findings l) (export_refusal l.bytes l.header l.sections) 0 l.header.export_count (λ k low high. (let here = export_there l.bytes l.header k has (omega arith) in export_first l k here.0 here.1)))

-- a fault that isn't there
unmet : (test : Bool) (fault : LoaderFault) → fault_if test fault ≡ None → test ≡ false
unmet true fault none = absurd (cc)
unmet false fault none = refl

met_one : (test : Bool) (fault : LoaderFault) → first_fault (all_met ((test, fault) ∷ [])) ≡ fault_if test fault
met_one true fault = refl
met_one false fault = refl

-- what only matters if there is no first fault
or_then : {F : Type 0} (a b c : Option F) → (a ≡ None → b ≡ c) → option_or a b ≡ option_or a c
or_then None b c same = same refl
or_then (Some x) b c same = refl

not_true : (b : Bool) → not b ≡ false → b ≡ true
not_true true is = refl
not_true false is = absurd (cc is)

-- two parts, the second of which only matters if there is no fault in the first
two_first : {F : Type 0} (xs ys : List F) (a b : Option F) → first_fault xs ≡ a → (a ≡ None → first_fault ys ≡ b) → first_fault (xs ++ ys) ≡ option_or a b
two_first xs ys a b here later = first_fault-append xs ys ∙ rw here (or_then a (first_fault ys) b later)

-- a result that is read unless there is a refusal, if it is refused as something
unless_as : {A F : Type 0} (fault : Option F) (r : Result A F) (b : Option F) → result_err r ≡ b → result_err (unless fault r) ≡ option_or fault b
unless_as fault r b same = result_err-unless fault r ∙ rw same refl

-- what is reported of a loader section with a header
judged_reports : (l : Loaded) → result_err (judged l.sections l.bytes l.header) ≡
    option_or (fault_if (nat_lt (length l.bytes) (tables_end l.header)) BadTableOffset)
    (option_or (first_among (library_refusal l.bytes l.header) 0 l.header.library_count)
    (option_or (first_among (import_refusal l.bytes l.header) 0 l.header.import_count)
    (option_or (first_met (entry_tests l.sections l.header))
    (option_or (first_among (reloc_refusal l.bytes l.header l.sections) 0 l.header.reloc_count)
    (option_or (fault_if (not (has_exports l.bytes l.header)) BadExportTable)
    (option_or (first_among (export_refusal l.bytes l.header l.sections) 0 l.header.export_count) None))))))
judged_reports l =
    let h = l.header in
    let tables = fault_if (nat_lt (length l.bytes) (tables_end h)) BadTableOffset in
    let libraries = first_among (library_refusal l.bytes h) 0 h.library_count in
    let imports = first_among (import_refusal l.bytes h) 0 h.import_count in
    let entries = first_met (entry_tests l.sections h) in
    let relocs = first_among (reloc_refusal l.bytes h l.sections) 0 h.reloc_count in
    let table = fault_if (not (has_exports l.bytes h)) BadExportTable in
    let exports = first_among (export_refusal l.bytes h l.sections) 0 h.export_count in
    let done : Result Loaded LoaderFault = Ok (record { sections = l.sections; bytes = l.bytes; header = h }) in
    let last : result_err (unless exports done) ≡ option_or exports None = unless_as exports done None refl in
    unless_as tables _ _ (unless_as libraries _ _ (unless_as imports _ _ (unless_as entries _ _ (unless_as relocs _ _ (unless_as table _ _ last)))))

-- the faults of a loader section with a header, and what is reported of it
header_first : (l : Loaded) → first_fault (findings_in l) ≡ result_err (judged l.sections l.bytes l.header)
header_first l =
    let h = l.header in
    let tables = fault_if (nat_lt (length l.bytes) (tables_end h)) BadTableOffset in
    let libraries = first_among (library_refusal l.bytes h) 0 h.library_count in
    let imports = first_among (import_refusal l.bytes h) 0 h.import_count in
    let entries = first_met (entry_tests l.sections h) in
    let relocs = first_among (reloc_refusal l.bytes h l.sections) 0 h.reloc_count in
    let table = fault_if (not (has_exports l.bytes h)) BadExportTable in
    let exports = first_among (export_refusal l.bytes h l.sections) 0 h.export_count in
    let found : first_fault (findings_in l) ≡ option_or tables (option_or libraries (option_or imports (option_or entries (option_or relocs (option_or table exports))))) =
    two_first (all_met (table_tests l)) _ tables _ (met_one _ BadTableOffset) (λ none.
    (let room : tables_end h ≤ length l.bytes = ltb-false (length l.bytes) (tables_end h) (unmet _ BadTableOffset none) in
    two_first (libraries_findings l) _ libraries _ (libraries_first l room) (λ none1.
    two_first (imports_findings l) _ imports _ (imports_first l room) (λ none2.
    two_first (all_met (entry_tests l.sections h)) _ entries _ (first_fault-met (entry_tests l.sections h)) (λ none3.
    two_first (relocations_findings l) _ relocs _ (relocations_first l room) (λ none4.
    two_first (all_met (export_table_tests l)) (exports_findings l) table _ (met_one _ BadExportTable) (λ none5.
    exports_first l (not_true _ (unmet _ BadExportTable none5)))))))))
    in found ∙ sym (judged_reports l ∙ rw (or_none exports) refl)
  where
    or_none : (o : Option LoaderFault) → option_or o None ≡ o
    or_none None = refl
    or_none (Some x) = refl

-- the first of all faults is the one that is reported alone, and there is none exactly for a loader section
pub first_is_reported : (sections : ℕ) (bytes : List ℕ) → first_fault (findings_of sections bytes) ≡ result_err (loaded_of sections bytes)
unfolding findings_of partial_of loaded_of
first_is_reported sections bytes = by (header_of bytes)
  where
    by : (h : Option LoaderHeader) → first_fault (found_in findings_in (option_map_or (λ h. Ok (record { sections = sections; bytes = bytes; header = h })) h (Err LoaderShort))) ≡ result_err (option_map_or (judged sections bytes) h (Err LoaderShort))
    by None = refl
    by (Some h) = header_first (record { sections = sections; bytes = bytes; header = h })

-- what can be read of a loader section is the loader section
pub whole_loader : (l : Loaded) → IsLoader l → partial_of l.sections l.bytes ≡ Ok l
unfolding partial_of
whole_loader l ok = rw (accepted l ok).header refl

-- bytes with a header that aren't refused are a loader section
unrefused_judged : (l : Loaded) → result_err (judged l.sections l.bytes l.header) ≡ None → judged l.sections l.bytes l.header ≡ Ok l
unrefused_judged l none =
    let h = l.header in
    let tables = neither (fault_if (nat_lt (length l.bytes) (tables_end h)) BadTableOffset) _ (sym (judged_reports l) ∙ none) in
    let libraries = neither (first_among (library_refusal l.bytes h) 0 h.library_count) _ tables.1 in
    let imports = neither (first_among (import_refusal l.bytes h) 0 h.import_count) _ libraries.1 in
    let entries = neither (first_met (entry_tests l.sections h)) _ imports.1 in
    let relocs = neither (first_among (reloc_refusal l.bytes h l.sections) 0 h.reloc_count) _ entries.1 in
    let table = neither (fault_if (not (has_exports l.bytes h)) BadExportTable) _ relocs.1 in
    let exports = neither (first_among (export_refusal l.bytes h l.sections) 0 h.export_count) None table.1 in
    rw (tables.0, libraries.0, imports.0, entries.0, relocs.0, table.0, exports.0) refl

-- .. namely what can be read of them
pub unrefused_loader : (sections : ℕ) (bytes : List ℕ) (l : Loaded) → partial_of sections bytes ≡ Ok l → result_err (loaded_of sections bytes) ≡ None → loaded_of sections bytes ≡ Ok l
unfolding partial_of loaded_of
unrefused_loader sections bytes l opens none = by (header_of bytes) opens none
  where
    by : (h : Option LoaderHeader) → option_map_or (λ h. Ok (record { sections = sections; bytes = bytes; header = h })) h (Err LoaderShort) ≡ Ok l → result_err (option_map_or (judged sections bytes) h (Err LoaderShort)) ≡ None → option_map_or (judged sections bytes) h (Err LoaderShort) ≡ Ok l
    by None opens none = absurd (cc none)
    by (Some h) opens none = unrefused_judged (record { sections = sections; bytes = bytes; header = h }) none ∙ opens

-- a relocation header is the same, whether it is read of a whole loader section or of one that may be damaged
abbrev with_section : ℕ → List ℕ → ℕ × List ℕ
with_section section program = (section, program)

program_of : (section : ℕ) (o : Option (List ℕ)) → (o >>= (λ instructions. Some (with_section section instructions))) ≡ option_map (with_section section) o
program_of section None = refl
program_of section (Some bytes) = refl

pub reloc_row : (l : Loaded) (k : ℕ) → reloc_of l k ≡ (relocation_row l k >>= (λ (r : RelocationRow). option_map (with_section r.section) r.program))
unfolding reloc_of reloc_in
reloc_row l k = by (nat_lt k l.header.reloc_count) (reloc_at l.bytes l.header k)
  where
    by : (b : Bool) (o : Option RelocEntry) → cond b (o >>= (λ e. instructions_of l.bytes l.header e >>= (λ instructions. Some (with_section e.section instructions)))) None
        ≡ (cond b (option_map (λ (e : RelocEntry). record { section = e.section; count = e.count; first = e.first; program = instructions_of l.bytes l.header e }) o) None >>= (λ (r : RelocationRow). option_map (with_section r.section) r.program))
    by false o = refl
    by true None = refl
    by true (Some e) = program_of e.section (instructions_of l.bytes l.header e)
