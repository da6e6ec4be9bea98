-- The tables and the sections of a script fit: their numbers fit their fields, and the container is small.
-- The bounds come from the limits of scripts.
use Rattle.std.proofs.Common.{◌≡◌, ◌∙◌, ℕ, suc, zero, ◌+◌, ◌*◌, ◌==◌, ◌^◌, ◌<◌, ◌≤◌, true, List, [], ◌∷◌, ◌++◌, Option, None, Some, ℤ, pos, negsuc, length, map, get_or, length-append, append-nil, refl, ap, arith}
use Rattle.std.specs.Int.{w16}
use Rattle.std.specs.Prelude.{Bool, FitsSigned, false, if◌then◌else◌, nat_lt}
use Rattle.std.specs.List.{All, AllByRecursion, flat_map}
use Rattle.std.proofs.Math.Nat.{pow-le-pow_right}
use Rattle.std.proofs.lemmas.Grind.{flat_map-append}
use Rattle.std.proofs.lemmas.List.{length-map}
use Rattle.std.proofs.lemmas.List.Concat.{length-flat_map}
use Rattle.std.proofs.lemmas.List.Elements.{All-cons, All-map}
use Rattle.std.proofs.lemmas.List.Sums.{count_by-le-length, sum_by-cons, sum_by-le}
use Rattle.pef_hash.specs.Build.{built}
use Rattle.pef_format.specs.declared.export.ExportValue.TheVariants.{Absolute, Reexport}
use Rattle.pef_format.specs.declared.symbol.LibraryOptions.{LibraryOptions}
use Rattle.pef_format.specs.Exports.{Export, is_export_section, value_of}
use Rattle.pef_format.specs.Symbols.{Import, options_code}
use Rattle.pef_format.proofs.Laws.{class-small, share-small, special-small}
use Rattle.pef_reloc.specs.declared.fixup.Fixup.{Fixup}
use Rattle.pef_reloc.specs.declared.instr.Instr.{Instr}
use Rattle.pef_reloc.specs.Instrs.{spelled}
use Rattle.pef_reloc.specs.Limits.{most_fixups, offset_limit}
use Rattle.pef_script.specs.Script.{DescribedLibrary, DescribedScript, DescribedSection, bytes_of_names, export_names}
use Rattle.pef_script.specs.WellFormed.{EntryHolds, ExportHolds, ImportHolds, LibraryHolds, ScriptHolds, SectionHolds, ValueHolds, totals_of}
use Rattle.pef_words.proofs.Laws.Lists.{all-at}
use Rattle.pef_reloc.proofs.Laws.{length-spelled}
use Rattle.pef_write.specs.Linked.{AreProgramsFor, IsProgramFor, exports_at, libraries_from, linked_library, linked_loader, linked_tables, no_export, program_of, programs_from, script_tables}
use Rattle.pef_write.specs.Loaders.{LoaderTables, ProgramEntry, program_bytes, strings_of, written_loader, zero_ended}
use Rattle.pef_write.specs.Kept.Fits.{AreWritable, EntryFits, ExportFits, IsWritable, LibraryFits, ProgramFits, TablesFit}
use Rattle.pef_write.proofs.Containers.{container_size}
use Rattle.pef_write.proofs.ExportNames.{keys_small, length-keys, length-order, length-slots, order_below, power_small, slots_small}
use Rattle.pef_write.proofs.Loaders.{length-table_fields, length-written_loader}
use Rattle.pef_write.proofs.Programs.{short_program}
use Rattle.pef_script.specs.Limits.{longest_name}

-- how many bytes each section has
totals_small : (n j : ℕ) (sections : List DescribedSection) (k : ℕ) → AllByRecursion (SectionHolds n j) sections → get_or (totals_of sections) k 0 < 2 ^ 32
totals_small n j [] k each = omega arith
totals_small n j (s ∷ sections) zero each = omega (arith, each.0.total)
totals_small n j (s ∷ sections) (suc k) each = totals_small n j sections k each.1

-- an entry is in one of few sections
entry_fits : (sections : List DescribedSection) (n j : ℕ) (entry : Option (ℕ × ℕ)) → AllByRecursion (SectionHolds n j) sections → length sections < 2 ^ 15 → EntryHolds (totals_of sections) entry → EntryFits entry
entry_fits sections n j None each few holds = (omega arith, omega arith)
entry_fits sections n j (Some entry) each few holds =
    (omega (arith, holds.there, length-map sections (λ (section : DescribedSection). section.header.total)), omega (arith, holds.inside, totals_small n j sections entry.0 each))

options_small : (options : LibraryOptions) → options_code options < 2 ^ 8
options_small o = by o.init_before o.weak
  where
    by : (before weak : Bool) → (if before then 0x80 else 0) + (if weak then 0x40 else 0) < 2 ^ 8
    by true true = omega arith
    by true false = omega arith
    by false true = omega arith
    by false false = omega arith

libraries_fit : (imports : List Import) (k : ℕ) (libraries : List DescribedLibrary) → length imports < 2 ^ 32 → AllByRecursion LibraryHolds libraries → All LibraryFits (libraries_from imports k libraries)
libraries_fit imports k [] few each = λ i d under. absurd (omega arith)
libraries_fit imports k (l ∷ libraries) few each =
    let holds = each.0 in
    All-cons LibraryFits (linked_library imports k l) (libraries_from imports (k + 1) libraries) (record {
      old_imp = omega (arith, holds.old_imp);
      current = omega (arith, holds.current);
      count = omega (arith, count_by-le-length (λ (i : Import). i.library == k) imports);
      first = omega (arith, count_by-le-length (λ (i : Import). nat_lt i.library k) imports);
      options = options_small l.options;
    }) (libraries_fit imports (k + 1) libraries few each.1)

imports_fit : (n : ℕ) (imports : List Import) → AllByRecursion (ImportHolds n) imports → All (λ (i : Import). i.fields.class < 16) imports
imports_fit n [] each = λ i d under. absurd (omega arith)
imports_fit n (i ∷ imports) each =
    All-cons (λ (i : Import). i.fields.class < 16) i imports (class-small i.fields.class each.0.class) (imports_fit n imports each.1)

-- the programs of at most 2^16 sections
one_fits : (k : ℕ) (s : DescribedSection) (instrs : List Instr) (others : List ProgramEntry) → k < 2 ^ 16 → All ProgramFits others → All ProgramFits (program_of k s.fixups instrs ++ others)
one_fits k s instrs others low fit = by s.fixups
  where
    by : (fixups : List Fixup) → All ProgramFits (program_of k fixups instrs ++ others)
    by [] = fit
    by (f ∷ fixups) = All-cons ProgramFits (record { section = k; bytes = spelled instrs }) others (record { section = low; even = omega (arith, length-spelled instrs) }) fit

programs_fit : (n k : ℕ) (sections : List DescribedSection) (programs : List (List Instr)) → k + length sections ≤ 2 ^ 16 → AreProgramsFor n sections programs → All ProgramFits (programs_from k sections programs)
programs_fit n k [] [] few are = λ i d under. absurd (omega arith)
programs_fit n k [] (instrs ∷ programs) few are = absurd are
programs_fit n k (s ∷ sections) [] few are = absurd are
programs_fit n k (s ∷ sections) (instrs ∷ programs) few are =
    one_fits k s instrs (programs_from (k + 1) sections programs) (omega arith) (programs_fit n (k + 1) sections programs (omega arith) are.1)

-- the lengths of programs, and their number: at most eight bytes for each fixup
program_size : (n m j k : ℕ) (s : DescribedSection) (instrs : List Instr) → SectionHolds m j s → IsProgramFor n s.fixups instrs
    → (length (program_of k s.fixups instrs) ≤ 1) × (length (program_bytes (program_of k s.fixups instrs)) ≤ 8 * most_fixups)
program_size n m j k s instrs holds is = by s.fixups
  where
    by : (fixups : List Fixup) → (length (program_of k fixups instrs) ≤ 1) × (length (program_bytes (program_of k fixups instrs)) ≤ 8 * most_fixups)
    by [] = (omega arith, omega arith)
    by (f ∷ fixups) = (omega arith, omega (arith, ap length (append-nil (spelled instrs)), short_program n m j s instrs holds is))

program_bytes-append : (xs ys : List ProgramEntry) → program_bytes (xs ++ ys) ≡ program_bytes xs ++ program_bytes ys
program_bytes-append xs ys = flat_map-append (λ (p : ProgramEntry). p.bytes) xs ys

programs_size : (n m j k : ℕ) (sections : List DescribedSection) (programs : List (List Instr)) → AllByRecursion (SectionHolds m j) sections → AreProgramsFor n sections programs
    → (length (programs_from k sections programs) ≤ length sections) × (length (program_bytes (programs_from k sections programs)) ≤ 8 * most_fixups * length sections)
programs_size n m j k [] [] each are = (omega arith, omega arith)
programs_size n m j k [] (instrs ∷ programs) each are = absurd are
programs_size n m j k (s ∷ sections) [] each are = absurd are
programs_size n m j k (s ∷ sections) (instrs ∷ programs) each are =
    let here = program_size n m j k s instrs each.0 are.0 in
    let later = programs_size n m j (k + 1) sections programs each.1 are.1 in
    let first = program_of k s.fixups instrs in
    let others = programs_from (k + 1) sections programs in (
      omega (arith, here.0, later.0, length-append first others),
      omega (arith, here.1, later.1, ap length (program_bytes-append first others), length-append (program_bytes first) (program_bytes others)),
    )

-- exports at places fit their fields, and have short names
value_small : (totals : List ℕ) (imports : ℕ) (section : ℤ) (value : ℕ) → ((k : ℕ) → get_or totals k 0 < 2 ^ 32) → imports < 2 ^ 32 → ValueHolds totals imports (value_of section value) → value < 2 ^ 32
value_small totals imports (pos k) value small few holds = omega (arith, holds.inside, small k)
value_small totals imports (negsuc n) value small few holds = by (n == 1) holds
  where
    by : (absolute : Bool) → ValueHolds totals imports (if absolute then Absolute value else Reexport value) → value < 2 ^ 32
    by true holds = omega (arith, holds)
    by false holds = omega (arith, holds)

-- its section has 16 bits
pub section_fits : (totals : List ℕ) (imports : ℕ) (section : ℤ) (value : ℕ) → length totals < 2 ^ 15 → is_export_section section ≡ true → ValueHolds totals imports (value_of section value) → FitsSigned w16 section
section_fits totals imports (pos k) value few named holds = omega (arith, holds.there)
section_fits totals imports (negsuc n) value few named holds = (let small = special-small n named in omega (arith, small))

exports_fit : (totals : List ℕ) (imports : ℕ) (exports : List Export) (order : List ℕ) → length totals < 2 ^ 15 → imports < 2 ^ 32 → ((k : ℕ) → get_or totals k 0 < 2 ^ 32) → AllByRecursion (ExportHolds totals imports) exports → All (λ e. e < length exports) order → All ExportFits (exports_at exports order)
exports_fit totals imports exports order few less small each below =
    All-map ExportFits (λ e. get_or exports e no_export) order
    (λ k d under. let e = get_or exports (get_or order k d) no_export in
    let holds = all-at (ExportHolds totals imports) exports (get_or order k d) no_export each (below k d under) in
    record { class = class-small e.fields.class holds.class; value = value_small totals imports e.fields.section e.fields.value small less holds.value; section = section_fits totals imports e.fields.section e.fields.value few holds.section holds.value })

names_short : (totals : List ℕ) (imports : ℕ) (exports : List Export) → AllByRecursion (ExportHolds totals imports) exports → All (λ name. length name ≤ longest_name) (map (λ symbol. symbol.name) exports)
names_short totals imports [] each = λ k d under. absurd (omega arith)
names_short totals imports (e ∷ exports) each =
    All-cons (λ (name : List ℕ). length name ≤ longest_name) e.name (map (λ symbol. symbol.name) exports) each.0.name.most (names_short totals imports exports each.1)

export_names-size : (totals : List ℕ) (imports : ℕ) (exports : List Export) (order : List ℕ) → AllByRecursion (ExportHolds totals imports) exports → All (λ e. e < length exports) order
    → length (flat_map (λ e. e.name) (exports_at exports order)) ≤ length order * longest_name
export_names-size totals imports exports order each below =
    let short = All-map (λ (e : Export). length e.name ≤ longest_name) (λ e. get_or exports e no_export) order
    (λ k d under. (all-at (ExportHolds totals imports) exports (get_or order k d) no_export each (below k d under)).name.most) in
    omega (arith, length-flat_map (λ (e : Export). e.name) (exports_at exports order), sum_by-le (λ (e : Export). length e.name) longest_name (exports_at exports order) short, length-map order (λ e. get_or exports e no_export))

-- the names in the string table are those of the script

pub library_names-are : (imports : List Import) (k : ℕ) (libraries : List DescribedLibrary) → map (λ l. l.name) (libraries_from imports k libraries) ≡ map (λ library. library.name) libraries
library_names-are imports k [] = refl
library_names-are imports k (l ∷ libraries) = ap (λ names. l.name ∷ names) (library_names-are imports (k + 1) libraries)

length-zero_ended : (names : List (List ℕ)) → length (zero_ended names) ≡ bytes_of_names names
length-zero_ended [] = refl
length-zero_ended (name ∷ names) =
    omega (arith, length-append (name ++ 0 ∷ []) (zero_ended names), length-append name (0 ∷ []), sum_by-cons (λ (n : List ℕ). length n + 1) name names, length-zero_ended names)

-- as many libraries as in the script
pub length-libraries : (imports : List Import) (k : ℕ) (libraries : List DescribedLibrary) → length (libraries_from imports k libraries) ≡ length libraries
length-libraries imports k [] = refl
length-libraries imports k (l ∷ libraries) = ap suc (length-libraries imports (k + 1) libraries)

-- .. and as many exports
pub length-exports : (s : DescribedScript) → length (exports_at s.exports (built (export_names s)).order) ≡ length s.exports
length-exports s =
    let order = (built (export_names s)).order in
    length-map order (λ e. get_or s.exports e no_export) ∙ length-order (export_names s) ∙ length-map s.exports (λ (symbol : Export). symbol.name)

power_at_most : (power : ℕ) → power ≤ 16 → 2 ^ power ≤ 2 ^ 16
power_at_most power small = pow-le-pow_right {n = 2} (omega arith) small

three_lists : (a b c : List ℕ) → length ((a ++ b) ++ c) ≡ length a + length b + length c
three_lists a b c = omega (arith, length-append (a ++ b) c, length-append a b)

-- the lengths of the strings and of the loader section
pub record SizesOf (t : LoaderTables) : Type 0 where
  pub strings : length (strings_of t) < 2 ^ 24
  pub loader : length (written_loader t) < 2 ^ 31

table_sizes : (s : DescribedScript) (programs : List ProgramEntry) → ScriptHolds s → length programs ≤ length s.sections → length (program_bytes programs) ≤ 8 * most_fixups * length s.sections → SizesOf (script_tables s programs)
unfolding script_tables
table_sizes s programs holds few short =
    let t = script_tables s programs in
    let names = export_names s in
    let count : length names ≡ length s.exports = length-map s.exports (λ (symbol : Export). symbol.name) in
    let order = (built names).order in
    let libraries = ap (λ names. length (zero_ended names)) (library_names-are s.imports 0 s.libraries) ∙ length-zero_ended (map (λ library. library.name) s.libraries) in
    let imports = length-zero_ended (map (λ symbol. symbol.name) s.imports) in
    let exports = export_names-size (totals_of s.sections) (length s.imports) s.exports order holds.exports.each (order_below s) in
    let all = three_lists (zero_ended (map (λ l. l.name) t.libraries)) (zero_ended (map (λ i. i.name) t.imports)) (flat_map (λ (e : Export). e.name) t.exports) in
    let strings : length (strings_of t) < 2 ^ 24 = omega (arith, all, libraries, imports, exports, holds.names, holds.exports.count, length-order names, count) in
    record {
      strings = strings;
      loader = omega (
        arith,
        strings,
        few,
        short,
        holds.sections.count,
        holds.libraries.count,
        holds.imports.count,
        holds.exports.count,
        count,
        length-written_loader t,
        length-table_fields t,
        length-libraries s.imports 0 s.libraries,
        length-slots names,
        power_at_most (built names).power (power_small names),
        length-keys names,
        length-exports s,
      );
    }

-- .. with programs for the sections
pub sizes_of : (s : DescribedScript) (programs : List (List Instr)) → ScriptHolds s → AreProgramsFor (length s.sections) s.sections programs → SizesOf (linked_tables s programs)
sizes_of s programs holds are =
    let sizes = programs_size (length s.sections) (length s.sections) (length s.imports) 0 s.sections programs holds.sections.each are in
    table_sizes s (programs_from 0 s.sections programs) holds sizes.0 sizes.1

pub tables_fit : (s : DescribedScript) (programs : List (List Instr)) → ScriptHolds s → AreProgramsFor (length s.sections) s.sections programs → TablesFit (linked_tables s programs)
unfolding script_tables
tables_fit s programs holds are =
    let sections = holds.sections in
    let names = export_names s in
    let count : length names ≡ length s.exports = length-map s.exports (λ (symbol : Export). symbol.name) in
    let few : length s.sections < 2 ^ 15 = omega (arith, sections.count) in
    let sizes = sizes_of s programs holds are in
    record {
      main = entry_fits s.sections (length s.sections) (length s.imports) s.main sections.each few holds.main;
      init = entry_fits s.sections (length s.sections) (length s.imports) s.init sections.each few holds.init;
      term = entry_fits s.sections (length s.sections) (length s.imports) s.term sections.each few holds.term;
      libraries = libraries_fit s.imports 0 s.libraries (omega (arith, holds.imports.count)) holds.libraries.each;
      imports = imports_fit (length s.libraries) s.imports holds.imports.each;
      programs = programs_fit (length s.sections) 0 s.sections programs (omega (arith, few)) are;
      power = omega (arith, power_small names);
      slots = slots_small names (omega (arith, count, holds.exports.count));
      keys = keys_small names (names_short (totals_of s.sections) (length s.imports) s.exports holds.exports.each);
      exports = exports_fit (totals_of s.sections) (length s.imports) s.exports (built names).order (omega (arith, few, length-map s.sections (λ (section : DescribedSection). section.header.total))) (omega (arith, holds.imports.count)) (λ k. totals_small (length s.sections) (length s.imports) s.sections k sections.each) holds.exports.each (order_below s);
      strings = sizes.strings;
      size = omega (arith, sizes.loader);
    }

-- the sections of a script

section_writable : (n j : ℕ) (s : DescribedSection) → SectionHolds n j s → IsWritable s
section_writable n j s holds = record {
  kind = holds.kind;
  share = share-small s.header.share holds.share;
  align = omega (arith, holds.align);
  total = omega (arith, holds.total);
  image = holds.image;
}

sections_writable : (n j : ℕ) (sections : List DescribedSection) → AllByRecursion (SectionHolds n j) sections → All IsWritable sections
sections_writable n j [] each = λ k d under. absurd (omega arith)
sections_writable n j (s ∷ sections) each = All-cons IsWritable s sections (section_writable n j s each.0) (sections_writable n j sections each.1)

-- an image is no longer than fixups reach
pub images_small : (n j : ℕ) (sections : List DescribedSection) → AllByRecursion (SectionHolds n j) sections → All (λ (s : DescribedSection). length s.image ≤ offset_limit) sections
images_small n j [] each = λ k d under. absurd (omega arith)
images_small n j (s ∷ sections) each =
    All-cons (λ (s : DescribedSection). length s.image ≤ offset_limit) s sections (omega (arith, each.0.image, each.0.total)) (images_small n j sections each.1)

pub sections_fit : (s : DescribedScript) (programs : List (List Instr)) → ScriptHolds s → AreProgramsFor (length s.sections) s.sections programs → AreWritable s.versions s.sections (linked_loader s programs)
unfolding linked_loader
sections_fit s programs holds are =
    let n = length s.sections in
    let j = length s.imports in
    record {
      current = omega (arith, holds.versions.current);
      old_def = omega (arith, holds.versions.old_def);
      old_imp = omega (arith, holds.versions.old_imp);
      count = omega (arith, holds.sections.count);
      each = sections_writable n j s.sections holds.sections.each;
      size = container_size s.versions s.sections (linked_loader s programs) holds.sections.count (images_small n j s.sections holds.sections.each) (sizes_of s programs holds are).loader;
    }
