-- Every line preserves what is true of the script so far.
use Rattle.std.proofs.Common.{◌≡◌, ℕ, Bool, ◌+◌, ◌≤◌, true, List, [], ◌∷◌, ◌++◌, Option, None, Some, Result, Ok, Err, length, map, refl, ap, subst, ◌∙◌, arith, length-append, append-nil}
use Rattle.std.specs.Prelude.{nat_lt}
use Rattle.std.specs.List.{AllByRecursion}
use Rattle.std.proofs.lemmas.Bool.{ltb-false}
use Rattle.std.proofs.lemmas.List.{length-map, map-append}
use Rattle.pef_format.specs.Exports.{Export, is_export_section, value_of}
use Rattle.pef_format.specs.Sections.{is_instantiable, is_named_share}
use Rattle.pef_format.specs.Symbols.{Import, is_class}
use Rattle.pef_words.specs.Refusals.{first_met}
use Rattle.pef_words.proofs.Laws.Refusals.{first_unmet}
use Rattle.pef_reloc.specs.declared.fixup.Base.TheVariants as base
use Rattle.pef_reloc.specs.declared.fixup.Fixup.{Fixup}
use Rattle.pef_reloc.proofs.Laws.{no_fixups_fit}
use Rattle.pef_script.specs.declared.text.fault.LineFault.{LineFault}
use Rattle.pef_script.specs.declared.text.fault.LineFault.TheVariants.{OutsideSection}
use Rattle.pef_reloc.specs.Limits.{most_imports, most_sections}
use Rattle.pef_script.specs.Limits.{greatest_align, greatest_number, greatest_total, most_exports, most_libraries}
use Rattle.pef_script.specs.Script.{DescribedHeader, DescribedLibrary, DescribedSection, DescribedScript, bytes_of_names, export_names, import_names, library_names, section_names}
use Rattle.pef_script.specs.declared.text.form.Form.{Form}
use Rattle.pef_script.specs.declared.text.form.Form.TheVariants as form
use Rattle.pef_script.specs.Text.Forms.{form_of}
use Rattle.pef_script.specs.Text.Words.{image_of, last_name, last_name_and_word, last_two_words, last_word, next_name, next_name_and_word, next_word, number_up_to}
use Rattle.pef_script.specs.Text.SoFar.{ScriptSoFar, content_group, counted_name_tests, entered, entered_once, export_group, init_group, library_group, main_group, name_tests, section_group, section_named, section_so_far, term_group, versions_group}
use Rattle.pef_script.specs.Text.Declarations.{entered_import, import_in, import_line, is_weak_word, kind_of, library_in, library_line, options_of, section_in, section_line, share_of, symbol_class_of, versions_in, versions_line}
use Rattle.pef_script.specs.Text.Contents.{base_named, bytes_in, bytes_line, bytes_tests, fix_line, fixup_in, fixup_of, fixup_tests, import_named, is_section_word, tvector_line, vector_in, with_fixups, with_image, placed}
use Rattle.pef_script.specs.Text.Exports.{absolute_in, absolute_line, entry_in, export_in, export_line, init_line, main_line, place_tests, reexport_in, reexport_line, term_line, with_export}
use Rattle.pef_lines.specs.Lines.{lines_of}
use Rattle.pef_script.specs.Text.Grammar.{NumberedFault, after_line, first_word, is_skipped, line_by, line_by_word, line_of, located, no_lines, read_lines, script_of}
use Rattle.pef_script.specs.WellFormed.{ExportHolds, ExportsHold, ImportHolds, IsName, LibraryHolds, PlaceHolds, ScriptHolds, SectionHolds, ValueHolds, VersionsHold, totals_of}
use Rattle.pef_script.proofs.TextProofs.Leads.{Leads, leads_if, leads_on, leads_then, leads_unless, led}
use Rattle.pef_words.proofs.Laws.Lists.{all-append, all-map, all-weaker}
use Rattle.pef_script.proofs.TextProofs.Placing.{apart_two, length-placed}
use Rattle.pef_script.proofs.TextProofs.ListLemmas.{distinct-more, no_names_apart, rises-more}
use Rattle.pef_script.proofs.TextProofs.WordLemmas.{base_named-is, class_of-is, import_named-is, kind_of-is, next_name_and_word-is, number_up_to-is, section_named-is, share_of-is}
use Rattle.pef_script.proofs.TextProofs.Growing.{StateHolds, name_tests-unmet, counted_tests-unmet, bytes_tests-unmet, fixup_tests-unmet, entry-more, exports-more, section-more, sections-more, imports-more, entered_import-is, place_at, names-more, changed, at_section, fixup-more}

-- the facts of a header that a line declares
record HeaderHolds (header : DescribedHeader) : Type 0 where
  name : IsName header.name
  kind : is_instantiable header.kind ≡ true
  share : is_named_share header.share ≡ true
  align : header.align ≤ greatest_align
  total : header.total ≤ greatest_total

module _ (s : ScriptSoFar) (holds : StateHolds s) (line : List ℕ) where
  versions_in-holds : Leads VersionsHold (versions_in s line)
  unfolding versions_in
  versions_in-holds =
      leads_then VersionsHold (next_word 1 line) _ (λ current_word current_word_is.
      leads_then VersionsHold (last_two_words 2 current_word.1) _ (λ old old_is.
      leads_then VersionsHold (entered_once s versions_group) _ (λ group group_is.
      leads_then VersionsHold (number_up_to greatest_number 1 current_word.0) _ (λ current current_is.
      leads_then VersionsHold (number_up_to greatest_number 2 old.0) _ (λ old_def old_def_is.
      leads_then VersionsHold (number_up_to greatest_number 3 old.1) _ (λ old_imp old_imp_is.
      record {
        current = number_up_to-is greatest_number 1 current_word.0 current current_is;
        old_def = number_up_to-is greatest_number 2 old.0 old_def old_def_is;
        old_imp = number_up_to-is greatest_number 3 old.1 old_imp old_imp_is;
      }))))))

  versions_line-holds : Leads StateHolds (versions_line s line)
  versions_line-holds = leads_on VersionsHold StateHolds (versions_in s line) _ versions_in-holds (λ versions fits. record {
    versions = fits;
    libraries = holds.libraries;
    imports = holds.imports;
    sections = holds.sections;
    exports = holds.exports;
    main = holds.main;
    init = holds.init;
    term = holds.term;
    names = holds.names;
  })

  library_in-holds : Leads LibraryHolds (library_in s line)
  unfolding library_in
  library_in-holds =
      leads_then LibraryHolds (next_name_and_word 1 line) _ (λ library library_is.
      leads_then LibraryHolds (last_two_words 3 library.2) _ (λ last last_is.
      leads_then LibraryHolds (entered s library_group) _ (λ group group_is.
      leads_then LibraryHolds (options_of 4 last.1) _ (λ options options_is.
      leads_then LibraryHolds (number_up_to greatest_number 2 library.1) _ (λ current current_is.
      leads_then LibraryHolds (number_up_to greatest_number 3 last.0) _ (λ old_imp old_imp_is.
      record {
        name = next_name_and_word-is 1 line library library_is;
        current = number_up_to-is greatest_number 2 library.1 current current_is;
        old_imp = number_up_to-is greatest_number 3 last.0 old_imp old_imp_is;
      }))))))

  library_line-holds : Leads StateHolds (library_line s line)
  library_line-holds =
      leads_on LibraryHolds StateHolds (library_in s line) _ library_in-holds (λ library fits.
      leads_unless StateHolds (first_met (counted_name_tests s (library_names s.script) most_libraries library.name)) _ (λ unmet.
      let room = (counted_tests-unmet s (library_names s.script) most_libraries library.name [] unmet).0 in
      let libraries = s.script.libraries in
      let count : length (libraries ++ library ∷ []) ≡ length libraries + 1 = length-append libraries (library ∷ []) in
      let names : map (λ (l : DescribedLibrary). l.name) (libraries ++ library ∷ []) ≡ library_names s.script ++ library.name ∷ [] = map-append (λ (l : DescribedLibrary). l.name) libraries (library ∷ []) in
      let bytes = ap bytes_of_names names ∙ names-more (library_names s.script) library.name in
      record {
        versions = holds.versions;
        libraries = record {
          count = omega (arith, count, room.room, length-map libraries (λ (l : DescribedLibrary). l.name));
          each = all-append LibraryHolds libraries (library ∷ []) holds.libraries.each (fits, tt);
          apart = rw names (distinct-more (library_names s.script) library.name holds.libraries.apart room.new);
        };
        imports = rw count (imports-more (length libraries) s.script.imports holds.imports);
        sections = holds.sections;
        exports = holds.exports;
        main = holds.main;
        init = holds.init;
        term = holds.term;
        names = omega (arith, bytes, room.bytes);
      }))

  -- an import is of the last library
  abbrev IsOfLast : Import → Type 0
  IsOfLast symbol = ImportHolds (length s.script.libraries) symbol × (symbol.library + 1 ≡ length s.script.libraries)

  import_in-holds : Leads IsOfLast (import_in s line)
  unfolding import_in
  import_in-holds =
      leads_then IsOfLast (next_name_and_word 1 line) _ (λ symbol symbol_is.
      leads_then IsOfLast (last_word 3 symbol.2) _ (λ strength strength_is.
      leads_then IsOfLast (entered_import s) _ (λ library library_is.
      leads_then IsOfLast (symbol_class_of 2 symbol.1) _ (λ class class_is.
      leads_then IsOfLast (is_weak_word 3 strength) _ (λ weak weak_is.
      let last = entered_import-is s library library_is in
      (record { name = next_name_and_word-is 1 line symbol symbol_is; class = class_of-is 2 symbol.1 class class_is; library = omega (arith, last) }, last))))))

  import_line-holds : Leads StateHolds (import_line s line)
  import_line-holds =
      leads_on IsOfLast StateHolds (import_in s line) _ import_in-holds (λ symbol fits.
      leads_unless StateHolds (first_met (counted_name_tests s (import_names s.script) most_imports symbol.name)) _ (λ unmet.
      let room = (counted_tests-unmet s (import_names s.script) most_imports symbol.name [] unmet).0 in
      let imports = s.script.imports in
      let totals = totals_of s.script.sections in
      let n = length s.script.libraries in
      let count : length (imports ++ symbol ∷ []) ≡ length imports + 1 = length-append imports (symbol ∷ []) in
      let names : map (λ (i : Import). i.name) (imports ++ symbol ∷ []) ≡ import_names s.script ++ symbol.name ∷ [] = map-append (λ (i : Import). i.name) imports (symbol ∷ []) in
      let libraries : map (λ (i : Import). i.library) (imports ++ symbol ∷ []) ≡ map (λ (i : Import). i.library) imports ++ symbol.library ∷ [] = map-append (λ (i : Import). i.library) imports (symbol ∷ []) in
      let bytes = ap bytes_of_names names ∙ names-more (import_names s.script) symbol.name in
      record {
        versions = holds.versions;
        libraries = holds.libraries;
        imports = record {
          count = omega (arith, count, room.room, length-map imports (λ (i : Import). i.name));
          each = all-append (ImportHolds n) imports (symbol ∷ []) holds.imports.each (fits.0, tt);
          apart = rw names (distinct-more (import_names s.script) symbol.name holds.imports.apart room.new);
          grouped = rw libraries (rises-more (map (λ (i : Import). i.library) imports) symbol.library holds.imports.grouped
              (all-map (λ (i : Import). i.library) (ImportHolds n) (λ x. x ≤ symbol.library) imports (λ i before. omega (arith, before.library, fits.1)) holds.imports.each));
        };
        sections = rw count (sections-more (length imports) 1 s.script.sections holds.sections);
        exports = rw (count, ← append-nil totals) (exports-more totals [] (length imports) 1 s.script.exports holds.exports);
        main = holds.main;
        init = holds.init;
        term = holds.term;
        names = omega (arith, bytes, room.bytes);
      }))

  section_in-holds : Leads HeaderHolds (section_in s line)
  unfolding section_in
  section_in-holds =
      leads_then HeaderHolds (next_name_and_word 1 line) _ (λ section section_is.
      leads_then HeaderHolds (next_word 3 section.2) _ (λ share_word share_word_is.
      leads_then HeaderHolds (last_two_words 4 share_word.1) _ (λ size size_is.
      leads_then HeaderHolds (entered s section_group) _ (λ group group_is.
      leads_then HeaderHolds (kind_of 2 section.1) _ (λ kind kind_is.
      leads_then HeaderHolds (share_of 3 share_word.0) _ (λ share share_is.
      leads_then HeaderHolds (number_up_to greatest_align 4 size.0) _ (λ align align_is.
      leads_then HeaderHolds (number_up_to greatest_total 5 size.1) _ (λ total total_is.
      record {
        name = next_name_and_word-is 1 line section section_is;
        kind = kind_of-is 2 section.1 kind kind_is;
        share = share_of-is 3 share_word.0 share share_is;
        align = number_up_to-is greatest_align 4 size.0 align align_is;
        total = number_up_to-is greatest_total 5 size.1 total total_is;
      }))))))))

  section_line-holds : Leads StateHolds (section_line s line)
  section_line-holds =
      leads_on HeaderHolds StateHolds (section_in s line) _ section_in-holds (λ header fits.
      leads_unless StateHolds (first_met (name_tests (section_names s.script) most_sections header.name)) _ (λ unmet.
      let room = (name_tests-unmet (section_names s.script) most_sections header.name [] unmet).0 in
      let sections = s.script.sections in
      let n = length sections in
      let i = length s.script.imports in
      let section : DescribedSection = record { header = header; image = []; fixups = [] } in
      let count : length (sections ++ section ∷ []) ≡ n + 1 = length-append sections (section ∷ []) in
      let same : i + 0 ≡ i = omega arith in
      let names : map (λ (x : DescribedSection). x.header.name) (sections ++ section ∷ []) ≡ section_names s.script ++ header.name ∷ [] = map-append (λ (x : DescribedSection). x.header.name) sections (section ∷ []) in
      let totals : totals_of (sections ++ section ∷ []) ≡ totals_of sections ++ header.total ∷ [] = map-append (λ (x : DescribedSection). x.header.total) sections (section ∷ []) in
      let others : AllByRecursion (SectionHolds (n + 1) i) sections = subst (λ j. AllByRecursion (SectionHolds (n + 1) j) sections) same (all-weaker (SectionHolds n i) (SectionHolds (n + 1) (i + 0)) sections (section-more n i 1 0) holds.sections.each) in
      record {
        versions = holds.versions;
        libraries = holds.libraries;
        imports = holds.imports;
        sections = record {
          count = omega (arith, count, room.room, length-map sections (λ (x : DescribedSection). x.header.name));
          each = rw count (all-append (SectionHolds (n + 1) i) sections (section ∷ []) others (
            record {
              name = fits.name;
              kind = fits.kind;
              share = fits.share;
              align = fits.align;
              total = fits.total;
              image = omega arith;
              fixups = no_fixups_fit;
              inside = omega arith;
              bases = tt;
            },
            tt,
          ));
          apart = rw names (distinct-more (section_names s.script) header.name holds.sections.apart room.new);
        };
        exports = rw totals (subst (λ j. ExportsHold (totals_of sections ++ header.total ∷ []) j s.script.exports) same (exports-more (totals_of sections) (header.total ∷ []) i 0 s.script.exports holds.exports));
        main = rw totals (entry-more (totals_of sections) (header.total ∷ []) s.script.main holds.main);
        init = rw totals (entry-more (totals_of sections) (header.total ∷ []) s.script.init holds.init);
        term = rw totals (entry-more (totals_of sections) (header.total ∷ []) s.script.term holds.term);
        names = holds.names;
      }))

  -- a section after a line
  abbrev IsRight : DescribedSection → Type 0
  IsRight section = SectionHolds (length s.script.sections) (length s.script.imports) section

  bytes_in-holds : Leads (λ b. IsRight (with_image (section_so_far s b.0) b.1)) (bytes_in s line)
  unfolding bytes_in
  bytes_in-holds =
      let P : ℕ × List ℕ → Type 0 = λ b. IsRight (with_image (section_so_far s b.0) b.1) in
      leads_then P (last_name_and_word 1 line) _ (λ words words_is.
      leads_then P (image_of 2 words.1) _ (λ bytes bytes_is.
      leads_then P (entered s content_group) _ (λ group group_is.
      leads_then P (section_named s 1 words.0) _ (λ k k_is.
      leads_unless P (first_met (bytes_tests s k (length bytes))) _ (λ unmet.
      let section = at_section s k holds (section_named-is s 1 words.0 k k_is) in
      let room = bytes_tests-unmet s k (length bytes) unmet in
      record {
        name = section.name;
        kind = section.kind;
        share = section.share;
        align = section.align;
        total = section.total;
        image = omega (arith, room, length-append (section_so_far s k).image bytes);
        fixups = section.fixups;
        inside = section.inside;
        bases = section.bases;
      })))))

  bytes_line-holds : Leads StateHolds (bytes_line s line)
  bytes_line-holds = leads_on _ StateHolds (bytes_in s line) _ bytes_in-holds (λ b right. changed s b.0 (with_image (section_so_far s b.0) b.1) holds refl right)

  fixup_in-holds : Leads (λ f. IsRight (with_fixups (section_so_far s f.0) (f.1 ∷ []))) (fixup_in s line)
  unfolding fixup_in
  fixup_in-holds =
      let P : ℕ × Fixup → Type 0 = λ f. IsRight (with_fixups (section_so_far s f.0) (f.1 ∷ [])) in
      leads_then P (next_name_and_word 1 line) _ (λ place place_is.
      leads_then P (next_word 3 place.2) _ (λ kind_word kind_word_is.
      leads_then P (last_name 4 kind_word.1) _ (λ target_name target_name_is.
      leads_then P (entered s content_group) _ (λ group group_is.
      leads_then P (is_section_word 3 kind_word.0) _ (λ is_section is_section_is.
      leads_then P (number_up_to greatest_number 2 place.1) _ (λ offset offset_is.
      leads_then P (section_named s 1 place.0) _ (λ k k_is.
      leads_then P (base_named s is_section 4 target_name) _ (λ target target_is.
      leads_unless P (first_met (fixup_tests s k offset 1)) _ (λ unmet.
      let section = at_section s k holds (section_named-is s 1 place.0 k k_is) in
      let room = fixup_tests-unmet s k offset 1 unmet in
      fixup-more (length s.script.sections) (length s.script.imports) (section_so_far s k) offset target (omega (arith, holds.sections.count)) (omega (arith, holds.imports.count)) section
      (omega (arith, room.room)) (omega (arith, room.inside)) room.free (base_named-is s is_section 4 target_name target target_is))))))))))

  fix_line-holds : Leads StateHolds (fix_line s line)
  fix_line-holds = leads_on _ StateHolds (fixup_in s line) _ fixup_in-holds (λ f right. changed s f.0 (with_fixups (section_so_far s f.0) (f.1 ∷ [])) holds refl right)

  vector_in-holds : Leads (λ v. IsRight (with_fixups (section_so_far s v.0) v.1)) (vector_in s line)
  unfolding vector_in
  vector_in-holds =
      let P : ℕ × List Fixup → Type 0 = λ v. IsRight (with_fixups (section_so_far s v.0) v.1) in
      leads_then P (next_name_and_word 1 line) _ (λ place place_is.
      leads_then P (next_name 3 place.2) _ (λ code_name code_name_is.
      leads_then P (last_name 4 code_name.1) _ (λ data_name data_name_is.
      leads_then P (entered s content_group) _ (λ group group_is.
      leads_then P (number_up_to greatest_number 2 place.1) _ (λ offset offset_is.
      leads_then P (section_named s 1 place.0) _ (λ k k_is.
      leads_then P (section_named s 3 code_name.0) _ (λ code code_is.
      leads_then P (section_named s 4 data_name) _ (λ data_section data_section_is.
      leads_unless P (first_met (fixup_tests s k offset 2)) _ (λ unmet.
      let under = section_named-is s 1 place.0 k k_is in
      let room = fixup_tests-unmet s k offset 2 unmet in
      let m = length s.script.sections in
      let n = length s.script.imports in
      let few : m ≤ most_sections = omega (arith, holds.sections.count) in
      let some : n ≤ most_imports = omega (arith, holds.imports.count) in
      let section = section_so_far s k in
      let a = fixup_of offset (base.Section code) in
      let free = apart_two section.fixups offset (base.Section code) (base.Section data_section) room.free in
      let first = fixup-more m n section offset (base.Section code) few some (at_section s k holds under) (omega (arith, room.room)) (omega (arith, room.inside)) free.0 (section_named-is s 3 code_name.0 code code_is) in
      let count : length (placed section.fixups a) ≡ length section.fixups + 1 = length-placed section.fixups a in
      fixup-more m n (with_fixups section (a ∷ [])) (offset + 4) (base.Section data_section) few some first (omega (arith, count, room.room)) (omega (arith, room.inside)) free.1.0 (section_named-is s 4 data_name data_section data_section_is))))))))))

  tvector_line-holds : Leads StateHolds (tvector_line s line)
  tvector_line-holds = leads_on _ StateHolds (vector_in s line) _ vector_in-holds (λ v right. changed s v.0 (with_fixups (section_so_far s v.0) v.1) holds refl right)

  -- an export that a line declares, if other tests of it don't hold
  record IsExport (tests : List (Bool × LineFault)) (e : Export) : Type 0 where
    name : IsName e.name
    class : is_class e.fields.class ≡ true
    section : is_export_section e.fields.section ≡ true
    value : first_met tests ≡ None → ValueHolds (totals_of s.script.sections) (length s.script.imports) (value_of e.fields.section e.fields.value)

  with_export-holds : (tests : List (Bool × LineFault)) (symbol : Export) → IsExport tests symbol → Leads StateHolds (with_export s tests symbol)
  with_export-holds tests symbol fits =
      leads_unless StateHolds (first_met (counted_name_tests s (export_names s.script) most_exports symbol.name ++ tests)) _ (λ unmet.
      let both = counted_tests-unmet s (export_names s.script) most_exports symbol.name tests unmet in
      let room = both.0 in
      let exports = s.script.exports in
      let count : length (exports ++ symbol ∷ []) ≡ length exports + 1 = length-append exports (symbol ∷ []) in
      let names : map (λ (e : Export). e.name) (exports ++ symbol ∷ []) ≡ export_names s.script ++ symbol.name ∷ [] = map-append (λ (e : Export). e.name) exports (symbol ∷ []) in
      let bytes = ap bytes_of_names names ∙ names-more (export_names s.script) symbol.name in
      record {
        versions = holds.versions;
        libraries = holds.libraries;
        imports = holds.imports;
        sections = holds.sections;
        exports = record {
          count = omega (arith, count, room.room, length-map exports (λ (e : Export). e.name));
          each = all-append (ExportHolds (totals_of s.script.sections) (length s.script.imports)) exports (symbol ∷ []) holds.exports.each (
            record { name = fits.name; class = fits.class; section = fits.section; value = fits.value both.1 },
            tt,
          );
          apart = rw names (distinct-more (export_names s.script) symbol.name holds.exports.apart room.new);
        };
        main = holds.main;
        init = holds.init;
        term = holds.term;
        names = omega (arith, bytes, room.bytes);
      })

  -- an export of section e.0, whose place in it is still to be tested
  abbrev IsPlaced : ℕ × Export → Type 0
  IsPlaced e = IsExport (place_tests s e.0 4 e.1.fields.value) e.1

  export_in-holds : Leads IsPlaced (export_in s line)
  unfolding export_in
  export_in-holds =
      leads_then IsPlaced (next_name_and_word 1 line) _ (λ symbol symbol_is.
      leads_then IsPlaced (last_name_and_word 3 symbol.2) _ (λ place place_is.
      leads_then IsPlaced (entered s export_group) _ (λ group group_is.
      leads_then IsPlaced (symbol_class_of 2 symbol.1) _ (λ class class_is.
      leads_then IsPlaced (number_up_to greatest_number 4 place.1) _ (λ offset offset_is.
      leads_then IsPlaced (section_named s 3 place.0) _ (λ k k_is.
      record {
        name = next_name_and_word-is 1 line symbol symbol_is;
        class = class_of-is 2 symbol.1 class class_is;
        section = refl;
        value = λ unmet. place_at s k offset (section_named-is s 3 place.0 k k_is) (ltb-false _ _ (first_unmet (nat_lt (section_so_far s k).header.total offset) (OutsideSection 4) None unmet).0);
      }))))))

  export_line-holds : Leads StateHolds (export_line s line)
  export_line-holds = leads_on IsPlaced StateHolds (export_in s line) _ export_in-holds (λ e fits. with_export-holds (place_tests s e.0 4 e.1.fields.value) e.1 fits)

  reexport_in-holds : Leads (IsExport []) (reexport_in s line)
  unfolding reexport_in
  reexport_in-holds =
      leads_then (IsExport []) (next_name_and_word 1 line) _ (λ symbol symbol_is.
      leads_then (IsExport []) (last_name 3 symbol.2) _ (λ import_name import_name_is.
      leads_then (IsExport []) (entered s export_group) _ (λ group group_is.
      leads_then (IsExport []) (symbol_class_of 2 symbol.1) _ (λ class class_is.
      leads_then (IsExport []) (import_named s 3 import_name) _ (λ j j_is.
      record {
        name = next_name_and_word-is 1 line symbol symbol_is;
        class = class_of-is 2 symbol.1 class class_is;
        section = refl;
        value = λ unmet. import_named-is s 3 import_name j j_is;
      })))))

  reexport_line-holds : Leads StateHolds (reexport_line s line)
  reexport_line-holds = leads_on (IsExport []) StateHolds (reexport_in s line) _ reexport_in-holds (with_export-holds [])

  absolute_in-holds : Leads (IsExport []) (absolute_in s line)
  unfolding absolute_in
  absolute_in-holds =
      leads_then (IsExport []) (next_name_and_word 1 line) _ (λ symbol symbol_is.
      leads_then (IsExport []) (last_word 3 symbol.2) _ (λ number number_is.
      leads_then (IsExport []) (entered s export_group) _ (λ group group_is.
      leads_then (IsExport []) (symbol_class_of 2 symbol.1) _ (λ class class_is.
      leads_then (IsExport []) (number_up_to greatest_number 3 number) _ (λ value value_is.
      record {
        name = next_name_and_word-is 1 line symbol symbol_is;
        class = class_of-is 2 symbol.1 class class_is;
        section = refl;
        value = λ unmet. number_up_to-is greatest_number 3 number value value_is;
      })))))

  absolute_line-holds : Leads StateHolds (absolute_line s line)
  absolute_line-holds = leads_on (IsExport []) StateHolds (absolute_in s line) _ absolute_in-holds (with_export-holds [])

  entry_in-holds : (group : ℕ) → Leads (λ (entry : ℕ × ℕ). PlaceHolds (totals_of s.script.sections) entry.0 entry.1) (entry_in s group line)
  unfolding entry_in
  entry_in-holds group =
      let P : ℕ × ℕ → Type 0 = λ entry. PlaceHolds (totals_of s.script.sections) entry.0 entry.1 in
      leads_then P (last_name_and_word 1 line) _ (λ place place_is.
      leads_then P (entered_once s group) _ (λ reached reached_is.
      leads_then P (number_up_to greatest_number 2 place.1) _ (λ offset offset_is.
      leads_then P (section_named s 1 place.0) _ (λ k k_is.
      leads_unless P (first_met (place_tests s k 2 offset)) _ (λ unmet.
      place_at s k offset (section_named-is s 1 place.0 k k_is) (ltb-false _ _ (first_unmet (nat_lt (section_so_far s k).header.total offset) (OutsideSection 2) None unmet).0))))))

  main_line-holds : Leads StateHolds (main_line s line)
  main_line-holds = leads_then StateHolds (entry_in s main_group line) _ (λ entry entry_is. record {
    versions = holds.versions;
    libraries = holds.libraries;
    imports = holds.imports;
    sections = holds.sections;
    exports = holds.exports;
    init = holds.init;
    term = holds.term;
    names = holds.names;
    main = led (λ (e : ℕ × ℕ). PlaceHolds (totals_of s.script.sections) e.0 e.1) (entry_in s main_group line) entry entry_is (entry_in-holds main_group);
  })

  init_line-holds : Leads StateHolds (init_line s line)
  init_line-holds = leads_then StateHolds (entry_in s init_group line) _ (λ entry entry_is. record {
    versions = holds.versions;
    libraries = holds.libraries;
    imports = holds.imports;
    sections = holds.sections;
    exports = holds.exports;
    main = holds.main;
    term = holds.term;
    names = holds.names;
    init = led (λ (e : ℕ × ℕ). PlaceHolds (totals_of s.script.sections) e.0 e.1) (entry_in s init_group line) entry entry_is (entry_in-holds init_group);
  })

  term_line-holds : Leads StateHolds (term_line s line)
  term_line-holds = leads_then StateHolds (entry_in s term_group line) _ (λ entry entry_is. record {
    versions = holds.versions;
    libraries = holds.libraries;
    imports = holds.imports;
    sections = holds.sections;
    exports = holds.exports;
    main = holds.main;
    init = holds.init;
    names = holds.names;
    term = led (λ (e : ℕ × ℕ). PlaceHolds (totals_of s.script.sections) e.0 e.1) (entry_in s term_group line) entry entry_is (entry_in-holds term_group);
  })

line_by-holds : (s : ScriptSoFar) (found : Option Form) (rest : List ℕ) → StateHolds s → Leads StateHolds (line_by s found rest)
line_by-holds s None rest holds = tt
line_by-holds s (Some form.Versions) rest holds = versions_line-holds s holds rest
line_by-holds s (Some form.Library) rest holds = library_line-holds s holds rest
line_by-holds s (Some form.Import) rest holds = import_line-holds s holds rest
line_by-holds s (Some form.Section) rest holds = section_line-holds s holds rest
line_by-holds s (Some form.Bytes) rest holds = bytes_line-holds s holds rest
line_by-holds s (Some form.Fix) rest holds = fix_line-holds s holds rest
line_by-holds s (Some form.Tvector) rest holds = tvector_line-holds s holds rest
line_by-holds s (Some form.Export) rest holds = export_line-holds s holds rest
line_by-holds s (Some form.Reexport) rest holds = reexport_line-holds s holds rest
line_by-holds s (Some form.Absolute) rest holds = absolute_line-holds s holds rest
line_by-holds s (Some form.Main) rest holds = main_line-holds s holds rest
line_by-holds s (Some form.Init) rest holds = init_line-holds s holds rest
line_by-holds s (Some form.Term) rest holds = term_line-holds s holds rest

line_by_word-holds : (s : ScriptSoFar) (p : List ℕ × List ℕ) → StateHolds s → Leads StateHolds (line_by_word s p)
unfolding line_by_word
line_by_word-holds s p holds = line_by-holds s (form_of p.0) p.1 holds

line_of-holds : (s : ScriptSoFar) (line : List ℕ) → StateHolds s → Leads StateHolds (line_of s line)
unfolding line_of
line_of-holds s line holds =
    leads_if StateHolds (is_skipped line) (Ok s) _ (λ skipped. holds) (λ not_skipped.
    leads_then StateHolds (first_word line) (line_by_word s) (λ p p_is. line_by_word-holds s p holds))

-- the script that a text was read as
abbrev OkHolds : {E : Type 0} → Result DescribedScript E → Type 0
OkHolds (Ok script) = ScriptHolds script
OkHolds (Err refusal) = Unit {0}

read_lines-holds : (lines : List (List ℕ)) (s : ScriptSoFar) (number : ℕ) → StateHolds s → OkHolds (read_lines s number lines)
read_lines-holds [] s number holds = holds
read_lines-holds (line ∷ lines) s number holds = by (line_of s line) (line_of-holds s line holds) (λ next fits. read_lines-holds lines next (number + 1) fits)
  where
    by : (r : Result ScriptSoFar LineFault) → Leads StateHolds r → ((next : ScriptSoFar) → StateHolds next → OkHolds (read_lines next (number + 1) lines)) → OkHolds (after_line r number (λ next. read_lines next (number + 1) lines))
    by (Ok next) fits others = others next fits
    by (Err fault) fits others = tt

located-holds : (text : List ℕ) (r : Result DescribedScript NumberedFault) → OkHolds r → OkHolds (located text r)
located-holds text (Ok script) holds = holds
located-holds text (Err f) holds = tt

nothing-holds : StateHolds no_lines
nothing-holds = record {
  versions = record { current = omega arith; old_def = omega arith; old_imp = omega arith };
  libraries = record { count = omega arith; each = tt; apart = no_names_apart };
  imports = record { count = omega arith; each = tt; apart = no_names_apart; grouped = tt };
  sections = record { count = omega arith; each = tt; apart = no_names_apart };
  exports = record { count = omega arith; each = tt; apart = no_names_apart };
  main = tt;
  init = tt;
  term = tt;
  names = omega arith;
}

-- every script that is read holds
pub script_of-holds : (text : List ℕ) (script : DescribedScript) → script_of text ≡ Ok script → ScriptHolds script
unfolding script_of
script_of-holds text script is = subst OkHolds is (located-holds text (read_lines no_lines 1 (lines_of text)) (read_lines-holds (lines_of text) no_lines 1 nothing-holds))
