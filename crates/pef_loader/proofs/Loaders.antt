-- What the acceptance of a loader section says, and what it takes.
use Rattle.std.proofs.Common.{◌≡◌, ℕ, ◌+◌, ◌*◌, ◌<◌, ◌≤◌, Bool, true, false, cond, not, List, Option, None, Some, length, drop, take, refl, sym, ◌∙◌, ap, subst, arith}
use Rattle.std.specs.Prelude.{◌||◌, Ok, Err, IsTrue, IfSome, nat_lt, nat_le}
use Rattle.std.specs.Option.{is_none, option_map_or}
use Rattle.std.proofs.lemmas.Option.{cond_some, same_Some}
use Rattle.std.proofs.lemmas.Bool.{not-false, le-leb, leb-false, ltb-false, ltb-true}
use Rattle.pef_words.specs.Bytes.{name_at, part_of}
use Rattle.pef_words.specs.Refusals.{◌>>=◌, first_among, first_met}
use Rattle.pef_words.proofs.Laws.Refusals.{first_unmet, none_among, some_among, unless_ok}
use Rattle.pef_hash.specs.Exports.{Entry, entry_of, name_of}
use Rattle.pef_hash.proofs.Laws.{IsFirstNamed, export_named-some}
use Rattle.std.specs.Result.{result_unwrap_or}
use Rattle.pef_loader.specs.declared.header.LoaderHeader.{LoaderHeader}
use Rattle.pef_loader.specs.declared.reloc.RelocEntry.{RelocEntry}
use Rattle.pef_loader.specs.declared.fault.LoaderFault.{LoaderFault}
use Rattle.pef_loader.specs.declared.fault.LoaderFault.TheVariants.{LoaderShort, BadTableOffset, BadExportTable}
use Rattle.pef_loader.specs.Header.{header_of, is_entry, tables_end}
use Rattle.pef_loader.specs.Library.{LibraryEntry, library_at, library_refusal, library_tests, owns}
use Rattle.pef_loader.specs.Import.{ImportEntry, import_at, import_refusal, import_tests, owner_at, owner_of}
use Rattle.pef_loader.specs.Reloc.{instructions_of, reloc_at, reloc_in, reloc_refusal, reloc_tests}
use Rattle.pef_format.specs.Exports.{Export}
use Rattle.pef_loader.specs.Export.{export_in, export_refusal, export_table, export_tests, has_exports, has_section}
use Rattle.pef_loader.specs.Kept.Accepted.{IsAccepted}
use Rattle.pef_loader.specs.Loader.{IsLoader, Loaded, entry_tests, export_of, fault_if, judged, loaded_of, named_of, reloc_of}

judged_ok : (l : Loaded) (h : LoaderHeader) → header_of l.bytes ≡ Some h → judged l.sections l.bytes h ≡ Ok l → IsAccepted l
judged_ok l h there ok =
    let a = unless_ok (fault_if (nat_lt (length l.bytes) (tables_end h)) BadTableOffset) _ l ok in
    let b = unless_ok (first_among (library_refusal l.bytes h) 0 h.library_count) _ l a.1 in
    let d = unless_ok (first_among (import_refusal l.bytes h) 0 h.import_count) _ l b.1 in
    let e = unless_ok (first_met (entry_tests l.sections h)) _ l d.1 in
    let f = unless_ok (first_among (reloc_refusal l.bytes h l.sections) 0 h.reloc_count) _ l e.1 in
    let g = unless_ok (fault_if (not (has_exports l.bytes h)) BadExportTable) _ l f.1 in
    let i = unless_ok (first_among (export_refusal l.bytes h l.sections) 0 h.export_count) _ l g.1 in
    let same : h ≡ l.header = ap (λ r. (result_unwrap_or r l).header) i.1 in
    let P : LoaderHeader → Type 0 = λ h. IsAccepted (record l { header = h }) in
    subst P same (record { header = there; tables = a.0; libraries = b.0; imports = d.0; entries = e.0; relocs = f.0; table = g.0; exports = i.0 })

header_ok : (l : Loaded) (h : Option LoaderHeader) → header_of l.bytes ≡ h → option_map_or (judged l.sections l.bytes) h (Err LoaderShort) ≡ Ok l → IsAccepted l
header_ok l None there ok = absurd (cc)
header_ok l (Some h) there ok = judged_ok l h there ok

-- a loader section's header is there, and no test is met
pub accepted : (l : Loaded) → IsLoader l → IsAccepted l
unfolding loaded_of
accepted l ok = header_ok l (header_of l.bytes) refl ok

-- if there is a header and no test is met, the bytes are that loader section
pub accepts : (l : Loaded) → IsAccepted l → IsLoader l
unfolding loaded_of
accepts l a = rw (a.header, a.tables, a.libraries, a.imports, a.entries, a.relocs, a.table, a.exports) refl

-- each entry is in an instantiated section or isn't there
pub record HasEntries (l : Loaded) : Type 0 where
  pub main : IsTrue (is_entry l.sections l.header.main_section)
  pub init : IsTrue (is_entry l.sections l.header.init_section)
  pub term : IsTrue (is_entry l.sections l.header.term_section)

pub entries_are : (l : Loaded) → IsLoader l → HasEntries l
unfolding entry_tests
entries_are l ok =
    let main = first_unmet (not (is_entry l.sections l.header.main_section)) _ _ (accepted l ok).entries in
    let init = first_unmet (not (is_entry l.sections l.header.init_section)) _ _ main.1 in
    let term = first_unmet (not (is_entry l.sections l.header.term_section)) _ _ init.1 in
    record { main = not-false _ main.0; init = not-false _ init.0; term = not-false _ term.0 }

-- a part that isn't refused is there, and none of its tests is met
refused_not : {E : Type 0} (part : Option E) (tests : E → List (Bool × LoaderFault)) (fault : LoaderFault) → option_map_or (λ e. first_met (tests e)) part (Some fault) ≡ None → (e : E) × (part ≡ Some e) × (first_met (tests e) ≡ None)
refused_not None tests fault none = absurd (cc)
refused_not (Some e) tests fault none = (e, refl, none)

-- what isn't missing is there
some_if : {A : Type 0} (o : Option A) → is_none o ≡ false → (x : A) × (o ≡ Some x)
some_if None some = absurd (cc)
some_if (Some x) some = (x, refl)

-- each library is there, with a name, and its imports are among all
pub record IsLibrary (l : Loaded) (entry : LibraryEntry) : Type 0 where
  pub name : List ℕ
  pub named : name_at l.bytes (l.header.strings_offset + entry.name) ≡ Some name
  pub range : entry.fields.first + entry.fields.count ≤ l.header.import_count

pub library_is : (l : Loaded) (i : ℕ) → IsLoader l → i < l.header.library_count → (entry : LibraryEntry) × (library_at l.bytes i ≡ Some entry) × IsLibrary l entry
unfolding library_tests
library_is l i ok under =
    let part = refused_not (library_at l.bytes i) (λ e. library_tests l.bytes l.header i e) BadTableOffset (none_among (library_refusal l.bytes l.header) 0 l.header.library_count i (accepted l ok).libraries (omega arith) (omega arith)) in
    let name = first_unmet (is_none (name_at l.bytes (l.header.strings_offset + part.0.name))) _ _ part.2 in
    let range = first_unmet (nat_lt l.header.import_count (part.0.fields.first + part.0.fields.count)) _ _ name.1 in
    let there = some_if _ name.0 in
    (part.0, part.1, record { name = there.0; named = there.1; range = ltb-false l.header.import_count _ range.0 })

-- each import is there, with a name
pub record IsImport (l : Loaded) (entry : ImportEntry) : Type 0 where
  pub name : List ℕ
  pub named : name_at l.bytes (l.header.strings_offset + entry.name) ≡ Some name

-- the owner of an import is one of the libraries
pub owner-below : (bytes : List ℕ) (h : LoaderHeader) (j x : ℕ) → owner_of bytes h j ≡ Some x → x < h.library_count
owner-below bytes h j x is =
    let r = some_among (owner_at bytes j) 0 h.library_count x is in
    let same = (cond_some (owns bytes j r.at) r.at x r.is).1 in
    let high = r.high in
    omega arith

pub import_is : (l : Loaded) (j : ℕ) → IsLoader l → j < l.header.import_count → (entry : ImportEntry) × (import_at l.bytes l.header j ≡ Some entry) × IsImport l entry
unfolding import_tests
import_is l j ok under =
    let part = refused_not (import_at l.bytes l.header j) (λ e. import_tests l.bytes l.header j e) BadTableOffset (none_among (import_refusal l.bytes l.header) 0 l.header.import_count j (accepted l ok).imports (omega arith) (omega arith)) in
    let name = first_unmet (is_none (name_at l.bytes (l.header.strings_offset + part.0.name))) _ _ part.2 in
    let there = some_if _ name.0 in
    (part.0, part.1, record { name = there.0; named = there.1 })

-- .. and a library
pub import_owned : (l : Loaded) (j : ℕ) → IsLoader l → j < l.header.import_count → (owner : ℕ) × (owner_of l.bytes l.header j ≡ Some owner)
unfolding import_tests
import_owned l j ok under =
    let part = refused_not (import_at l.bytes l.header j) (λ e. import_tests l.bytes l.header j e) BadTableOffset (none_among (import_refusal l.bytes l.header) 0 l.header.import_count j (accepted l ok).imports (omega arith) (omega arith)) in
    let name = first_unmet (is_none (name_at l.bytes (l.header.strings_offset + part.0.name))) _ _ part.2 in
    some_if _ (first_unmet (is_none (owner_of l.bytes l.header j)) _ _ name.1).0

-- each relocation header is there, of an instantiated section, and its instructions lie inside
pub record IsReloc (l : Loaded) (entry : RelocEntry) : Type 0 where
  pub section : entry.section < l.sections
  pub inside : l.header.reloc_instr_offset + entry.first + 2 * entry.count ≤ length l.bytes
  pub instructions : List ℕ
  pub are : instructions_of l.bytes l.header entry ≡ Some instructions

pub reloc_is : (l : Loaded) (k : ℕ) → IsLoader l → k < l.header.reloc_count → (entry : RelocEntry) × (reloc_at l.bytes l.header k ≡ Some entry) × IsReloc l entry
unfolding reloc_tests instructions_of part_of
reloc_is l k ok under =
    let part = refused_not (reloc_at l.bytes l.header k) (λ e. reloc_tests l.bytes l.header l.sections k e) BadTableOffset (none_among (reloc_refusal l.bytes l.header l.sections) 0 l.header.reloc_count k (accepted l ok).relocs (omega arith) (omega arith)) in
    let section = first_unmet (nat_le l.sections part.0.section) _ _ part.2 in
    let outside = first_unmet (nat_lt (length l.bytes) (l.header.reloc_instr_offset + part.0.first + 2 * part.0.count)) _ _ section.1 in
    let inside = ltb-false (length l.bytes) _ outside.0 in (
      part.0,
      part.1,
      record {
        section = leb-false l.sections part.0.section section.0;
        inside = inside;
        instructions = take (2 * part.0.count) (drop (l.header.reloc_instr_offset + part.0.first) l.bytes);
        are = rw (le-leb (l.header.reloc_instr_offset + part.0.first + 2 * part.0.count) (length l.bytes) inside) refl;
      },
    )

-- each export is there, with a name, in a section that it may be in
pub record IsExport (l : Loaded) (entry : Entry) (i : ℕ) : Type 0 where
  pub name : List ℕ
  pub named : name_of (export_table l.bytes l.header) i ≡ Some name
  pub section : IsTrue (has_section l.header l.sections entry.fields.value entry.fields.section)

-- of two tests neither of which is met, the second isn't
second_unmet : (a b : Bool) → (a || b) ≡ false → b ≡ false
second_unmet true b none = absurd (cc)
second_unmet false b none = none

pub export_is : (l : Loaded) (i : ℕ) → IsLoader l → i < l.header.export_count → (entry : Entry) × (entry_of (export_table l.bytes l.header) i ≡ Some entry) × IsExport l entry i
unfolding export_tests
export_is l i ok under =
    let part = refused_not (entry_of (export_table l.bytes l.header) i) (λ e. export_tests l.bytes l.header l.sections i e) BadExportTable (none_among (export_refusal l.bytes l.header l.sections) 0 l.header.export_count i (accepted l ok).exports (omega arith) (omega arith)) in
    let name = first_unmet (nat_lt (length l.bytes) l.header.strings_offset || is_none (name_of (export_table l.bytes l.header) i)) _ _ part.2 in
    let section = first_unmet (not (has_section l.header l.sections part.0.fields.value part.0.fields.section)) _ _ name.1 in
    let there = some_if _ (second_unmet _ _ name.0) in
    (part.0, part.1, record { name = there.0; named = there.1; section = not-false _ section.0 })

-- the same of an entry that was read
pub library_with : (l : Loaded) (i : ℕ) (e : LibraryEntry) → IsLoader l → i < l.header.library_count → library_at l.bytes i ≡ Some e → IsLibrary l e
library_with l i e ok under at =
    let is = library_is l i ok under in
    let P : LibraryEntry → Type 0 = λ e. IsLibrary l e in
    subst P (same_Some is.0 e (sym is.1 ∙ at)) is.2

pub import_with : (l : Loaded) (j : ℕ) (e : ImportEntry) → IsLoader l → j < l.header.import_count → import_at l.bytes l.header j ≡ Some e → IsImport l e
import_with l j e ok under at =
    let is = import_is l j ok under in
    let P : ImportEntry → Type 0 = λ e. IsImport l e in
    subst P (same_Some is.0 e (sym is.1 ∙ at)) is.2

pub reloc_with : (l : Loaded) (k : ℕ) (e : RelocEntry) → IsLoader l → k < l.header.reloc_count → reloc_at l.bytes l.header k ≡ Some e → IsReloc l e
reloc_with l k e ok under at =
    let is = reloc_is l k ok under in
    let P : RelocEntry → Type 0 = λ e. IsReloc l e in
    subst P (same_Some is.0 e (sym is.1 ∙ at)) is.2

pub export_with : (l : Loaded) (i : ℕ) (e : Entry) → IsLoader l → i < l.header.export_count → entry_of (export_table l.bytes l.header) i ≡ Some e → IsExport l e i
export_with l i e ok under at =
    let is = export_is l i ok under in
    let P : Entry → Type 0 = λ e. IsExport l e i in
    subst P (same_Some is.0 e (sym is.1 ∙ at)) is.2

parts_of : (sections : ℕ) (bytes : List ℕ) (l : Loaded) (h : Option LoaderHeader) → option_map_or (judged sections bytes) h (Err LoaderShort) ≡ Ok l → (sections ≡ l.sections) × (bytes ≡ l.bytes)
parts_of sections bytes l None ok = absurd (cc)
parts_of sections bytes l (Some h) ok =
    let a = unless_ok (fault_if (nat_lt (length bytes) (tables_end h)) BadTableOffset) _ l ok in
    let b = unless_ok (first_among (library_refusal bytes h) 0 h.library_count) _ l a.1 in
    let d = unless_ok (first_among (import_refusal bytes h) 0 h.import_count) _ l b.1 in
    let e = unless_ok (first_met (entry_tests sections h)) _ l d.1 in
    let f = unless_ok (first_among (reloc_refusal bytes h sections) 0 h.reloc_count) _ l e.1 in
    let g = unless_ok (fault_if (not (has_exports bytes h)) BadExportTable) _ l f.1 in
    let i = unless_ok (first_among (export_refusal bytes h sections) 0 h.export_count) _ l g.1 in
    (ap (λ r. (result_unwrap_or r l).sections) i.1, ap (λ r. (result_unwrap_or r l).bytes) i.1)

-- what bytes are read as has those bytes, and so many instantiated sections
pub loaded_of-parts : (sections : ℕ) (bytes : List ℕ) (l : Loaded) → loaded_of sections bytes ≡ Ok l → (sections ≡ l.sections) × (bytes ≡ l.bytes)
unfolding loaded_of
loaded_of-parts sections bytes l ok = parts_of sections bytes l (header_of bytes) ok

-- and is a loader section
pub loaded_of-ok : (sections : ℕ) (bytes : List ℕ) (l : Loaded) → loaded_of sections bytes ≡ Ok l → IsLoader l × (sections ≡ l.sections) × (bytes ≡ l.bytes)
loaded_of-ok sections bytes l ok =
    let same = loaded_of-parts sections bytes l ok in
    let P : ℕ → Type 0 = λ n. loaded_of n l.bytes ≡ Ok l in
    let Q : List ℕ → Type 0 = λ xs. loaded_of sections xs ≡ Ok l in
    (subst P same.0 (subst Q same.1 ok), same.0, same.1)

-- what is found by a name is one of the exports
pub named-below : (l : Loaded) (name : List ℕ) (o : Option ℕ) → named_of l name ≡ o → IfSome o (λ i. i < l.header.export_count)
unfolding named_of
named-below l name None is = tt
named-below l name (Some i) is = (export_named-some (export_table l.bytes l.header) name i is).below

-- what is found by its name is one of the exports, the first that has the name
pub named_is : (l : Loaded) (name : List ℕ) (i : ℕ) → named_of l name ≡ Some i → IsFirstNamed (export_table l.bytes l.header) name i
unfolding named_of
named_is l name i is = export_named-some (export_table l.bytes l.header) name i is

-- .. so it is there, and has the name
pub named_there : (l : Loaded) (name : List ℕ) (i : ℕ) → IsLoader l → named_of l name ≡ Some i
    → (x : Export) × (export_of l i ≡ Some x) × (x.name ≡ name) × IsTrue (has_section l.header l.sections x.fields.value x.fields.section)
unfolding named_of export_of export_in
named_there l name i ok found =
    let named = export_named-some (export_table l.bytes l.header) name i found in
    let is = export_is l i ok named.below in (
      record { fields = is.0.fields; name = name },
      rw (is.1, named.named) refl,
      refl,
      is.2.section,
    )

-- each relocation header is one of an instantiated section
abbrev pair : ℕ → List ℕ → ℕ × List ℕ
pair section program = (section, program)

abbrev header_and : Loaded → RelocEntry → Option (ℕ × List ℕ)
header_and l e = instructions_of l.bytes l.header e >>= (λ instructions. Some (pair e.section instructions))

pub reloc_section : (l : Loaded) (k section : ℕ) (program : List ℕ) → IsLoader l → reloc_of l k ≡ Some (section, program) → section < l.sections
unfolding reloc_of reloc_in
reloc_section l k section program ok is = by (nat_lt k l.header.reloc_count) refl is
  where
    there : (o : Option RelocEntry) (e : RelocEntry) (instructions : List ℕ) → o ≡ Some e → instructions_of l.bytes l.header e ≡ Some instructions → (o >>= header_and l) ≡ Some (pair e.section instructions)
    there o e instructions is are = rw (is, are) refl

    by : (b : Bool) → nat_lt k l.header.reloc_count ≡ b → cond b (reloc_at l.bytes l.header k >>= header_and l) None ≡ Some (pair section program) → section < l.sections
    by true was is =
        let r = reloc_is l k ok (ltb-true k l.header.reloc_count was) in
        let same = same_Some (pair r.0.section r.2.instructions) (pair section program) (sym (there (reloc_at l.bytes l.header k) r.0 r.2.instructions r.1 r.2.are) ∙ is) in
        let sections = ap (λ (h : ℕ × List ℕ). h.0) same in
        let under = r.2.section in
        omega (arith, sections, under)
    by false was is = absurd (cc is)
