-- Facts of the tables of a script: names end before a zero byte, each import is of its own library, and
-- the export table has its keys.
use Rattle.std.proofs.Common.{◌≡◌, ◌≢◌, ◌∙◌, ℕ, suc, zero, ◌+◌, ◌/◌, ◌^◌, ◌<◌, ◌≤◌, true, List, [], ◌∷◌, ◌++◌, Option, None, Some, length, map, get_or, slice_get, refl, ap, arith}
use Rattle.std.specs.Prelude.{FitsSigned, IfSome, nat_lt}
use Rattle.std.specs.Int.{w16}
use Rattle.std.specs.List.{All, AllByRecursion, AllZip, list_all, position_from}
use Rattle.std.proofs.lemmas.Bool.{and_parts, le-leb, le-ltb, lt-ltb}
use Rattle.std.proofs.lemmas.Iterator.Adapters.{position_from-zero}
use Rattle.std.proofs.lemmas.List.{get_or-map, length-map}
use Rattle.std.proofs.lemmas.List.Elements.{All-cons, All-map}
use Rattle.std.proofs.lemmas.List.Sums.{count_by-le-length}
use Rattle.pef_hash.specs.Build.{built, keys_at}
use Rattle.pef_hash.specs.Word.{hash_word}
use Rattle.pef_format.specs.declared.export.ExportValue.{ExportValue}
use Rattle.pef_format.specs.declared.export.ExportValue.TheVariants.{Absolute, InSection, Reexport}
use Rattle.pef_format.specs.Exports.{Export, value_of}
use Rattle.pef_format.specs.Symbols.{Import}
use Rattle.pef_loader.specs.declared.header.LoaderHeader.{LoaderHeader}
use Rattle.pef_loader.specs.Export.{has_section, is_there}
use Rattle.pef_loader.specs.Library.{Library}
use Rattle.pef_reloc.specs.declared.fixup.Fixup.{Fixup}
use Rattle.pef_reloc.specs.declared.instr.Instr.{Instr}
use Rattle.pef_reloc.specs.Instrs.{spelled}
use Rattle.pef_script.specs.Script.{DescribedLibrary, DescribedScript, DescribedSection, export_names}
use Rattle.pef_lines.specs.Words.{is_printing}
use Rattle.pef_script.specs.WellFormed.{EntryHolds, ExportHolds, ImportHolds, LibraryHolds, Rises, ScriptHolds, ValueHolds, totals_of}
use Rattle.pef_words.proofs.Laws.Lists.{all-at, all-get}
use Rattle.pef_write.specs.Linked.{AreProgramsFor, exports_at, libraries_from, linked_library, linked_tables, no_export, program_of, programs_from, script_tables}
use Rattle.pef_write.specs.Loaders.{ProgramEntry}
use Rattle.pef_write.specs.Kept.Tables.{AreTables, first_owner, has_import, header_read}
use Rattle.pef_write.proofs.Counts.{before-next, counted-found, past-found}
use Rattle.pef_write.proofs.ExportNames.{length-slots, order_below, power_small}
use Rattle.pef_write.proofs.Fitting.{section_fits, tables_fit}

-- a name has no zero byte
no_zero : (name : List ℕ) → list_all is_printing name ≡ true → All (λ b. b ≢ 0) name
no_zero [] printing = λ k d under. absurd (omega arith)
no_zero (b ∷ name) printing =
    let parts = and_parts (is_printing b) (list_all is_printing name) printing in
    All-cons (λ b. b ≢ 0) b name (printing_some b parts.0) (no_zero name parts.1)
  where
    printing_some : (b : ℕ) → is_printing b ≡ true → b ≢ 0
    printing_some zero printing = absurd (cc)
    printing_some (suc b) printing = λ is. absurd (omega arith)

library_names-end : (imports : List Import) (k : ℕ) (libraries : List DescribedLibrary) → AllByRecursion LibraryHolds libraries → All (λ (l : Library). All (λ b. b ≢ 0) l.name) (libraries_from imports k libraries)
library_names-end imports k [] each = λ i d under. absurd (omega arith)
library_names-end imports k (l ∷ libraries) each =
    All-cons (λ (l : Library). All (λ b. b ≢ 0) l.name) (linked_library imports k l) (libraries_from imports (k + 1) libraries) (no_zero l.name each.0.name.bytes) (library_names-end imports (k + 1) libraries each.1)

import_names-end : (n : ℕ) (imports : List Import) → AllByRecursion (ImportHolds n) imports → All (λ (i : Import). All (λ b. b ≢ 0) i.name) imports
import_names-end n [] each = λ i d under. absurd (omega arith)
import_names-end n (i ∷ imports) each =
    All-cons (λ (i : Import). All (λ b. b ≢ 0) i.name) i imports (no_zero i.name each.0.name.bytes) (import_names-end n imports each.1)

-- a library's imports are there
ranges_inside : (imports : List Import) (k : ℕ) (libraries : List DescribedLibrary) → All (λ (l : Library). l.fields.first + l.fields.count ≤ length imports) (libraries_from imports k libraries)
ranges_inside imports k [] = λ i d under. absurd (omega arith)
ranges_inside imports k (l ∷ libraries) =
    All-cons (λ (l : Library). l.fields.first + l.fields.count ≤ length imports) (linked_library imports k l) (libraries_from imports (k + 1) libraries)
    (omega (arith, before-next k imports, count_by-le-length (λ (i : Import). nat_lt i.library (k + 1)) imports)) (ranges_inside imports (k + 1) libraries)

-- imports are in the order of their libraries, so the first library that has an import is its own
owner-from : (imports : List Import) (k at : ℕ) (libraries : List DescribedLibrary) (i j : ℕ) (x : Import) → Rises (map (λ symbol. symbol.library) imports) → slice_get imports j ≡ Some x → x.library ≡ k + i → i < length libraries
    → position_from (has_import j) at (libraries_from imports k libraries) ≡ Some (at + i)
owner-from imports k at [] i j x rises there own under = absurd (omega arith)
owner-from imports k at (l ∷ libraries) zero j x rises there own under =
    let low = past-found k imports j x rises there (omega (arith, own)) in
    let high = counted-found (k + 1) imports j x rises there (omega (arith, own)) in
    let e : at ≡ at + 0 = omega arith in
    let own_library = linked_library imports k l in
    rw (le-leb own_library.fields.first j low, lt-ltb j (own_library.fields.first + own_library.fields.count) (omega (arith, high, before-next k imports))) (ap Some e)
owner-from imports k at (l ∷ libraries) (suc i) j x rises there own under =
    let low = past-found k imports j x rises there (omega (arith, own)) in
    let past = past-found (k + 1) imports j x rises there (omega (arith, own)) in
    let other = linked_library imports k l in
    let e : at + 1 + i ≡ at + suc i = omega arith in
    rw (le-leb other.fields.first j low, le-ltb j (other.fields.first + other.fields.count) (omega (arith, past, before-next k imports)))
    (owner-from imports (k + 1) (at + 1) libraries i j x rises there (omega (arith, own)) (omega (arith, under)) ∙ ap Some e)

own_library : (s : DescribedScript) (j : ℕ) (i : Import) → ScriptHolds s → slice_get s.imports j ≡ Some i → first_owner (libraries_from s.imports 0 s.libraries) j ≡ Some i.library
own_library s j i holds there =
    let inside = (all-get (ImportHolds (length s.libraries)) s.imports j i holds.imports.each there).library in
    let e : 0 + i.library ≡ i.library = omega arith in
    position_from-zero (has_import j) (libraries_from s.imports 0 s.libraries)
    ∙ owner-from s.imports 0 0 s.libraries i.library j i holds.imports.grouped there (omega arith) inside
    ∙ ap Some e

-- entries and programs are of sections that exist, and so are the sections and imports of exports

entry_there : (sections : List DescribedSection) (entry : Option (ℕ × ℕ)) → EntryHolds (totals_of sections) entry → IfSome entry (λ e. e.0 < length sections)
entry_there sections None holds = tt
entry_there sections (Some entry) holds = omega (arith, holds.there, length-map sections (λ (section : DescribedSection). section.header.total))

one_there : (n k : ℕ) (s : DescribedSection) (instrs : List Instr) (others : List ProgramEntry) → k < n → All (λ (p : ProgramEntry). p.section < n) others → All (λ (p : ProgramEntry). p.section < n) (program_of k s.fixups instrs ++ others)
one_there n k s instrs others low fit = by s.fixups
  where
    by : (fixups : List Fixup) → All (λ (p : ProgramEntry). p.section < n) (program_of k fixups instrs ++ others)
    by [] = fit
    by (f ∷ fixups) = All-cons (λ (p : ProgramEntry). p.section < n) (record { section = k; bytes = spelled instrs }) others low fit

programs_there : (m n k : ℕ) (sections : List DescribedSection) (programs : List (List Instr)) → k + length sections ≤ n → AreProgramsFor m sections programs → All (λ (p : ProgramEntry). p.section < n) (programs_from k sections programs)
programs_there m n k [] [] few are = λ i d under. absurd (omega arith)
programs_there m n k [] (instrs ∷ programs) few are = absurd are
programs_there m n k (s ∷ sections) [] few are = absurd are
programs_there m n k (s ∷ sections) (instrs ∷ programs) few are =
    one_there n k s instrs (programs_from (k + 1) sections programs) (omega arith) (programs_there m n (k + 1) sections programs (omega arith) are.1)

-- the section of an export has 16 bits
pub export_fits : (s : DescribedScript) (e : ℕ) (x : Export) → ScriptHolds s → slice_get s.exports e ≡ Some x → FitsSigned w16 x.fields.section
export_fits s e x holds found =
    let own = all-get (ExportHolds (totals_of s.sections) (length s.imports)) s.exports e x holds.exports.each found in
    section_fits (totals_of s.sections) (length s.imports) x.fields.section x.fields.value (omega (arith, length-map s.sections (λ (section : DescribedSection). section.header.total), holds.sections.count)) own.section own.value

value_there : (h : LoaderHeader) (totals : List ℕ) (sections : ℕ) (value : ExportValue) → length totals ≡ sections → ValueHolds totals h.import_count value → is_there h sections value ≡ true
value_there h totals sections (InSection section offset) same holds = lt-ltb section sections (omega (arith, same, holds.there))
value_there h totals sections (Absolute value) same holds = refl
value_there h totals sections (Reexport import) same holds = lt-ltb import h.import_count holds

exports_there : (h : LoaderHeader) (totals : List ℕ) (sections : ℕ) (exports : List Export) (order : List ℕ) → length totals ≡ sections → AllByRecursion (ExportHolds totals h.import_count) exports → All (λ e. e < length exports) order
    → All (λ (e : Export). has_section h sections e.fields.value e.fields.section ≡ true) (exports_at exports order)
exports_there h totals sections exports order same each below =
    All-map (λ (e : Export). has_section h sections e.fields.value e.fields.section ≡ true) (λ e. get_or exports e no_export) order
    (λ k d under. let e = get_or exports (get_or order k d) no_export in
    let holds = all-at (ExportHolds totals h.import_count) exports (get_or order k d) no_export each (below k d under) in
    rw (holds.section, value_there h totals sections (value_of e.fields.section e.fields.value) same holds.value) refl)

-- a key has the length of its export's name

hash_length : (name : List ℕ) → hash_word name / 2 ^ 16 ≡ length name
unfolding hash_word
hash_length name = omega arith

key_here : (exports : List Export) (i : ℕ) → i < length exports → get_or (map hash_word (map (λ symbol. symbol.name) exports)) i 0 / 2 ^ 16 ≡ length (get_or exports i no_export).name
key_here exports i under =
    let names = map (λ symbol. symbol.name) exports in
    let inside : i < length names = omega (arith, under, length-map exports (λ (symbol : Export). symbol.name)) in
    let word = get_or-map hash_word names i [] 0 inside in
    let name = get_or-map (λ (symbol : Export). symbol.name) exports i no_export [] under in
    ap (λ w. w / 2 ^ 16) word ∙ hash_length (get_or names i []) ∙ ap length name

keys_at_places : (exports : List Export) (order : List ℕ) → All (λ e. e < length exports) order
    → AllZip (λ key (e : Export). key / 2 ^ 16 ≡ length e.name) (map (λ i. get_or (map hash_word (map (λ symbol. symbol.name) exports)) i 0) order) (exports_at exports order)
keys_at_places exports [] below = tt
keys_at_places exports (i ∷ order) below =
    (key_here exports i (below 0 0 (omega arith)), keys_at_places exports order (λ k d under. below (suc k) d (omega arith)))

keys_match : (s : DescribedScript) → AllZip (λ key (e : Export). key / 2 ^ 16 ≡ length e.name) (built (export_names s)).keys (exports_at s.exports (built (export_names s)).order)
unfolding built keys_at
keys_match s =
    keys_at_places s.exports (built (export_names s)).order (order_below s)

-- the tables of a script are those of a loader section
pub are_sound : (s : DescribedScript) (programs : List (List Instr)) → ScriptHolds s → AreProgramsFor (length s.sections) s.sections programs → AreTables (length s.sections) (linked_tables s programs)
unfolding script_tables
are_sound s programs holds are =
    let names = export_names s in
    let totals : length (totals_of s.sections) ≡ length s.sections = length-map s.sections (λ (section : DescribedSection). section.header.total) in
    record {
      fit = tables_fit s programs holds are;
      few = omega (arith, holds.sections.count);
      main = entry_there s.sections s.main holds.main;
      init = entry_there s.sections s.init holds.init;
      term = entry_there s.sections s.term holds.term;
      library_names = library_names-end s.imports 0 s.libraries holds.libraries.each;
      import_names = import_names-end (length s.libraries) s.imports holds.imports.each;
      ranges = ranges_inside s.imports 0 s.libraries;
      owned = λ j i there. own_library s j i holds there;
      programs = programs_there (length s.sections) (length s.sections) 0 s.sections programs (omega arith) are;
      power = omega (arith, power_small names);
      slots = length-slots names;
      keys = keys_match s;
      exports = exports_there (header_read (linked_tables s programs)) (totals_of s.sections) (length s.sections) s.exports (built names).order totals holds.exports.each (order_below s);
    }
