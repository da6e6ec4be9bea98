-- A container of absolute exports: its pieces make it, it fits, and it is read back.
use Rattle.std.proofs.Common.{◌≡◌, ◌≢◌, ◌∙◌, ℕ, suc, zero, ◌+◌, ◌*◌, ◌/◌, ◌^◌, ◌<◌, ◌≤◌, Bool, true, false, List, [], ◌∷◌, ◌++◌, Option, None, Some, negsuc, drop, length, map, get_or, slice_get, append-nil, inl, inr, refl, sym, ap, subst, arith}
use Rattle.std.specs.Int.{w16}
use Rattle.std.specs.Prelude.{FitsSigned, if◌then◌else◌, slice_index_or}
use Rattle.std.specs.List.{All, AllByRecursion, AllZip, flat_map, sum_by}
use Rattle.std.specs.Option.{option_map_or}
use Rattle.std.specs.Str.{bytes_eq}
use Rattle.std.proofs.lemmas.List.{drop_all, drop_more, length-map}
use Rattle.std.proofs.lemmas.List.Concat.{length-flat_map}
use Rattle.std.proofs.lemmas.List.Elements.{All-cons}
use Rattle.std.proofs.lemmas.Option.{slice_get-get_or, slice_get_within}
use Rattle.std.proofs.lemmas.Slice.Eq.{bytes_eq-Decides}
use Rattle.pef_format.specs.Exports.{Export, ExportView, absolute_export, export_seen, is_export_section, value_of}
use Rattle.pef_hash.specs.Exports.{ExportTable, export_named, is_named, name_of, named_at, slot_word}
use Rattle.pef_hash.specs.Word.{hash_word}
use Rattle.pef_loader.specs.Export.{export_table, has_section, is_there}
use Rattle.pef_loader.specs.Loader.{Loaded, loaded_of, named_of}
use Rattle.pef_script.specs.Script.{DescribedSection}
use Rattle.pef_script.specs.WellFormed.{VersionsHold}
use Rattle.pef_script.specs.declared.parts.Versions.{Versions}
use Rattle.pef_words.specs.Refusals.{first_among}
use Rattle.pef_words.proofs.Laws.Lists.{all-at}
use Rattle.pef_words.proofs.Laws.Refusals.{first_among-at}
use Rattle.pef_write.specs.Containers.{written_container}
use Rattle.pef_write.specs.declared.field.Field.{Field}
use Rattle.pef_write.specs.declared.field.Field.TheVariants.{Word}
use Rattle.pef_write.specs.ExportContainers.{HasExports, NumberFits, NumbersFit, export_tables, exports_container, exports_loader}
use Rattle.pef_write.specs.Fields.{padded, spelled}
use Rattle.pef_write.specs.Loaders.{LoaderTables, export_entry, export_fields, exports_from, front_fields, header_fields, import_fields, library_fields, program_fields, strings_of, table_fields, written_loader}
use Rattle.pef_write.specs.Kept.Fits.{AreWritable, ExportFits, TablesFit}
use Rattle.pef_write.specs.Kept.Tables.{AreTables, contained_in, header_read, loaded_tables}
use Rattle.pef_write.proofs.Containers.{container_size}
use Rattle.pef_write.proofs.Fields.{in_three, spelled-append}
use Rattle.pef_write.proofs.Loaders.{length-table_fields, length-written_loader}
use Rattle.pef_write.proofs.TablesRead.{export_named as name_read, exports_back, tables_loaded}
use Rattle.pef_write.proofs.Written.{reads_back}

-- the names, one after the other
abbrev pub names_of : List Export → List ℕ
names_of exports = flat_map (λ e. e.name) exports

abbrev pub keys_of : List Export → List ℕ
keys_of exports = map (λ e. hash_word e.name) exports

-- one export, and those after it

seen-here : (es : List ExportView) (i : ℕ) (d : ExportView) → i < length es → map export_seen (drop i es) ≡ export_seen (get_or es i d) ∷ map export_seen (drop (i + 1) es)
seen-here es i d under = ap (map export_seen) (drop_more es i d under)

pub seen-fits : (es : List ExportView) (i : ℕ) (d : ExportView) → i < length es → AllByRecursion NumberFits (map export_seen es) → NumberFits (export_seen (get_or es i d))
seen-fits [] i d under each = absurd (omega arith)
seen-fits (x ∷ es) zero d under each = each.0
seen-fits (x ∷ es) (suc i) d under each = seen-fits es i d (omega (arith, under)) each.1

pub key-here : (es : List ExportView) (i : ℕ) (d : ExportView) → i < length es
    → spelled (map Word (keys_of (map export_seen (drop i es)))) ≡ spelled (Word (hash_word (get_or es i d).name.now) ∷ []) ++ spelled (map Word (keys_of (map export_seen (drop (i + 1) es))))
key-here es i d under =
    ap (λ rest. spelled (map Word (keys_of rest))) (seen-here es i d under)
    ∙ spelled-append (Word (hash_word (get_or es i d).name.now) ∷ []) (map Word (keys_of (map export_seen (drop (i + 1) es))))

pub keys-end : (es : List ExportView) (i : ℕ) → length es ≤ i → spelled (map Word (keys_of (map export_seen (drop i es)))) ≡ []
unfolding spelled
keys-end es i past = ap (λ rest. spelled (map Word (keys_of (map export_seen rest)))) (drop_all i es past)

pub numbered-here : (at : ℕ) (es : List ExportView) (i : ℕ) (d : ExportView) → i < length es
    → spelled (export_fields at (map export_seen (drop i es))) ≡ spelled (export_entry at (export_seen (get_or es i d))) ++ spelled (export_fields (at + length (get_or es i d).name.now) (map export_seen (drop (i + 1) es)))
unfolding export_fields
numbered-here at es i d under =
    ap (λ rest. spelled (export_fields at rest)) (seen-here es i d under)
    ∙ spelled-append (export_entry at (export_seen (get_or es i d))) (export_fields (at + length (get_or es i d).name.now) (map export_seen (drop (i + 1) es)))

pub numbered-end : (at : ℕ) (es : List ExportView) (i : ℕ) → length es ≤ i → spelled (export_fields at (map export_seen (drop i es))) ≡ []
unfolding export_fields spelled
numbered-end at es i past = ap (λ rest. spelled (export_fields at (map export_seen rest))) (drop_all i es past)

pub name-here : (es : List ExportView) (i : ℕ) (d : ExportView) → i < length es → names_of (map export_seen (drop i es)) ≡ (get_or es i d).name.now ++ names_of (map export_seen (drop (i + 1) es))
name-here es i d under = ap names_of (seen-here es i d under)

pub names-end : (es : List ExportView) (i : ℕ) → length es ≤ i → names_of (map export_seen (drop i es)) ≡ []
names-end es i past = ap (λ rest. names_of (map export_seen rest)) (drop_all i es past)

-- the slots, the keys and the exports
pub table_whole : (exports : List Export) (slots keys all : List ℕ) → slots ≡ spelled (Word (slot_word (length exports) 0) ∷ []) → keys ≡ slots ++ spelled (map Word (keys_of exports)) → all ≡ keys ++ spelled (export_fields 0 exports) → all ≡ spelled (table_fields (export_tables exports))
unfolding export_tables
table_whole exports slots keys all first second third =
    in_three [] (Word (slot_word (length exports) 0) ∷ []) (map Word (keys_of exports)) (export_fields 0 exports) slots keys all first second third

-- nothing but the header is before the names
front_whole : (exports : List Export) → spelled (front_fields (export_tables exports)) ≡ spelled (header_fields (export_tables exports))
unfolding export_tables library_fields import_fields program_fields
front_whole exports = ap spelled (append-nil (header_fields (export_tables exports)))

pub loader_whole : (exports : List Export) (all : List ℕ) → all ≡ padded 4 (spelled (header_fields (export_tables exports)) ++ names_of exports) ++ spelled (table_fields (export_tables exports)) → all ≡ exports_loader exports
unfolding exports_loader written_loader export_tables
loader_whole exports all is = is ∙ ap (λ front. padded 4 (front ++ names_of exports) ++ spelled (table_fields (export_tables exports))) (sym (front_whole exports))

-- the numbers fit

hash_small : (name : List ℕ) → length name < 2 ^ 16 → hash_word name < 2 ^ 32
unfolding hash_word
hash_small name short = omega arith

hash_length : (name : List ℕ) → hash_word name / 2 ^ 16 ≡ length name
unfolding hash_word
hash_length name = omega arith

keys_small : (exports : List Export) → AllByRecursion NumberFits exports → All (λ w. w < 2 ^ 32) (keys_of exports)
keys_small [] each = λ k d under. absurd (omega arith)
keys_small (e ∷ exports) each = All-cons (λ w. w < 2 ^ 32) (hash_word e.name) (keys_of exports) (hash_small e.name each.0.name) (keys_small exports each.1)

keys_match : (exports : List Export) → AllZip (λ key (e : Export). key / 2 ^ 16 ≡ length e.name) (keys_of exports) exports
keys_match [] = tt
keys_match (e ∷ exports) = (hash_length e.name, keys_match exports)

pub section_16 : (e : Export) → NumberFits e → FitsSigned w16 e.fields.section
section_16 e fits = rw fits.section (omega arith)

export_fits : (e : Export) → NumberFits e → ExportFits e
export_fits e fits = record { class = fits.class; value = fits.value; section = section_16 e fits }

pub names_length : (exports : List Export) → length (names_of exports) ≡ sum_by (λ (e : Export). length e.name) exports
names_length exports = length-flat_map (λ (e : Export). e.name) exports

module _ (exports : List Export) (fits : NumbersFit exports) where
  strings_small : length (strings_of (export_tables exports)) < 2 ^ 24
  unfolding export_tables
  strings_small = omega (arith, names_length exports, fits.names)

  loader_small : length (exports_loader exports) < 2 ^ 31
  unfolding exports_loader export_tables
  loader_small = omega (arith, strings_small, length-written_loader (export_tables exports), length-table_fields (export_tables exports), length-map exports (λ (e : Export). hash_word e.name), fits.count)

  tables_fit : TablesFit (export_tables exports)
  unfolding export_tables exports_loader
  tables_fit = record {
    main = (omega arith, omega arith);
    init = (omega arith, omega arith);
    term = (omega arith, omega arith);
    libraries = λ k d under. absurd (omega arith);
    imports = λ k d under. absurd (omega arith);
    programs = λ k d under. absurd (omega arith);
    power = omega arith;
    slots = All-cons (λ w. w < 2 ^ 32) (slot_word (length exports) 0) [] (omega (arith, fits.count)) (λ k d under. absurd (omega arith));
    keys = keys_small exports fits.each;
    exports = λ k d under. export_fits (get_or exports k d) (all-at NumberFits exports k d fits.each under);
    strings = strings_small;
    size = omega (arith, loader_small);
  }

  there : (h : LoaderTables) (e : Export) → NumberFits e → has_section (header_read h) 0 e.fields.value e.fields.section ≡ true
  there h e own = rw own.section refl

  are_tables : AreTables 0 (export_tables exports)
  unfolding export_tables
  are_tables = record {
    fit = tables_fit;
    few = omega arith;
    main = tt;
    init = tt;
    term = tt;
    library_names = λ k d under. absurd (omega arith);
    import_names = λ k d under. absurd (omega arith);
    ranges = λ k d under. absurd (omega arith);
    owned = λ j i found. absurd (cc);
    programs = λ k d under. absurd (omega arith);
    power = omega arith;
    slots = refl;
    keys = keys_match exports;
    exports = λ k d under. there (export_tables exports) (get_or exports k d) (all-at NumberFits exports k d fits.each under);
  }

  pub container_small : (v : Versions) → length (written_container v [] (exports_loader exports)) < 2 ^ 32
  container_small v = container_size v [] (exports_loader exports) (omega arith) (λ k d under. absurd (omega arith)) loader_small

  writable : (v : Versions) → VersionsHold v → AreWritable v [] (exports_loader exports)
  writable v holds = record {
    current = omega (arith, holds.current);
    old_def = omega (arith, holds.old_def);
    old_imp = omega (arith, holds.old_imp);
    count = omega arith;
    each = λ k d under. absurd (omega arith);
    size = container_small v;
  }

  -- the export table and the names in it
  abbrev table : ExportTable
  table = export_table (written_loader (export_tables exports)) (header_read (export_tables exports))

  exports_are : (export_tables exports).exports ≡ exports
  unfolding export_tables
  exports_are = refl

  name_there : (k : ℕ) (e : Export) → slice_get exports k ≡ Some e → name_of table k ≡ Some e.name
  name_there k e found = name_read 0 (export_tables exports) are_tables k e (ap (λ es. slice_get es k) exports_are ∙ found)

  -- an export with another name isn't the one
  passed_by : (name : List ℕ) (j : ℕ) (x : Export) → slice_get exports j ≡ Some x → x.name ≢ name → named_at table name j ≡ None
  passed_by name j x found other = by (bytes_eq x.name name) refl
    where
      by : (b : Bool) → bytes_eq x.name name ≡ b → named_at table name j ≡ None
      by true same = absurd (other ((bytes_eq-Decides x.name name).0 same))
      by false differs = ap (λ o. if option_map_or (λ found. bytes_eq found name) o false then Some j else None) (name_there j x found) ∙ ap (λ b. if b then Some j else None) differs

  own_name : (k : ℕ) (e : Export) → slice_get exports k ≡ Some e → named_at table e.name k ≡ Some k
  own_name k e found =
      ap (λ o. if option_map_or (λ found. bytes_eq found e.name) o false then Some k else None) (name_there k e found)
      ∙ ap (λ b. if b then Some k else None) ((bytes_eq-Decides e.name e.name).1 refl)

  -- the first export with a name is found by it
  first_named : (k : ℕ) (e : Export) → slice_get exports k ≡ Some e → ((j : ℕ) (x : Export) → j < k → slice_get exports j ≡ Some x → x.name ≢ e.name) → named_of (loaded_tables 0 (export_tables exports)) e.name ≡ Some k
  unfolding named_of export_named
  first_named k e found others =
      first_among-at (named_at table e.name) 0 (length (export_tables exports).exports) k k (omega (arith, slice_get_within exports k e found, ap length exports_are))
      (λ j low high. (
      let under : j < length exports = omega (arith, high, slice_get_within exports k e found) in
      let x = get_or exports j e in
      let at : slice_get exports j ≡ Some x = slice_get-get_or exports j e under in
      passed_by e.name j x at (others j x (omega (arith, high)) at)))
      (subst (λ n. named_at table e.name n ≡ Some k) (sym from) (own_name k e found))
    where
      from : 0 + k ≡ k
      from = omega arith

  no_libraries : (header_read (export_tables exports)).library_count ≡ 0
  unfolding export_tables
  no_libraries = refl

  no_imports : (header_read (export_tables exports)).import_count ≡ 0
  unfolding export_tables
  no_imports = refl

  no_programs : (header_read (export_tables exports)).reloc_count ≡ 0
  unfolding export_tables
  no_programs = refl

  -- the bytes are read back
  pub exported : (v : Versions) (bytes : List ℕ) → VersionsHold v → bytes ≡ exports_container v exports → HasExports v exports bytes
  unfolding exports_container exports_loader
  exported v bytes holds is =
      let back = reads_back v [] (exports_loader exports) bytes is (writable v holds) in
      record {
        container = contained_in v [] (exports_loader exports);
        loader = loaded_tables 0 (export_tables exports);
        read = back.container;
        loaded = tables_loaded 0 (export_tables exports) are_tables;
        header = refl;
        library_count = no_libraries;
        import_count = no_imports;
        reloc_count = no_programs;
        rows = λ k. exports_back 0 (export_tables exports) are_tables k ∙ ap (λ es. slice_get es k) exports_are;
        named = first_named;
      }
