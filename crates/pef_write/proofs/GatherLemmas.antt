-- The parts of a script's loader section: the entries, the strings and the export table.
use Rattle.std.proofs.Common.{◌≡◌, ◌∙◌, ℕ, ◌+◌, ◌<◌, ◌^◌, List, [], ◌++◌, length, map, length-append, refl, sym, ap, ap₂, arith}
use Rattle.pef_hash.specs.Build.{built}
use Rattle.pef_script.specs.Script.{DescribedScript, export_names, import_names, library_names}
use Rattle.pef_write.specs.declared.field.Field.TheVariants.{Word}
use Rattle.pef_write.specs.Fields.{spelled}
use Rattle.pef_write.specs.Linked.{exports_at, libraries_from, script_tables}
use Rattle.pef_write.specs.Loaders.{ProgramEntry, entry_fields, export_fields, export_names_from, import_fields, import_names_from, library_fields, program_bytes, program_fields, strings_of, table_fields, written_loader, zero_ended}
use Rattle.pef_write.specs.Kept.Pieces.{names_before, names_in_order}
use Rattle.pef_write.proofs.Fields.{in_three}
use Rattle.pef_write.proofs.Fitting.{library_names-are}
use Rattle.pef_write.proofs.Loaders.{length-written_loader}

module _ (s : DescribedScript) (programs : List ProgramEntry) where
  -- the names of each kind are the script's
  own_libraries : length (zero_ended (library_names s)) ≡ import_names_from (script_tables s programs)
  unfolding script_tables
  own_libraries = ap (λ names. length (zero_ended names)) (sym (library_names-are s.imports 0 s.libraries))

  own_imports : zero_ended (import_names s) ≡ zero_ended (map (λ i. i.name) (script_tables s programs).imports)
  unfolding script_tables
  own_imports = refl

  -- the three kinds of names, one after the other, are the strings
  pub strings_are : names_before s ++ names_in_order s ≡ strings_of (script_tables s programs)
  unfolding script_tables
  strings_are = ap (λ z. z ++ names_in_order s) (ap₂ (λ x y. x ++ y) (ap zero_ended (sym (library_names-are s.imports 0 s.libraries))) own_imports)

  -- .. so there is room for them
  pub strings_room : length (strings_of (script_tables s programs)) < 2 ^ 24 → length (names_before s) + length (names_in_order s) < 2 ^ 24
  strings_room small = omega (arith, small, ap length strings_are, length-append (names_before s) (names_in_order s))

  pub programs_room : length (written_loader (script_tables s programs)) < 2 ^ 32 → length (program_bytes programs) < 2 ^ 32
  unfolding script_tables
  programs_room fits = omega (arith, fits, length-written_loader (script_tables s programs))

  -- the entries, if the names of imports are after those of libraries
  pub entries_are : (strings first second third : List ℕ) → strings ≡ [] ++ zero_ended (library_names s) → first ≡ [] ++ spelled (library_fields 0 (libraries_from s.imports 0 s.libraries)) → second ≡ first ++ spelled (import_fields (length strings) s.imports)
      → third ≡ second ++ spelled (program_fields 0 programs) → third ≡ spelled (entry_fields (script_tables s programs))
  unfolding script_tables
  entries_are strings first second third names a b c =
      let from = ap length names ∙ own_libraries in
      in_three [] (library_fields 0 (libraries_from s.imports 0 s.libraries)) (import_fields (import_names_from (script_tables s programs)) s.imports) (program_fields 0 programs) first second third
      a (b ∙ ap (λ n. first ++ spelled (import_fields n s.imports)) from) c

  -- the export table, if the names of exports are after those of libraries and imports
  pub table_is : (strings first second third : List ℕ) → strings ≡ names_before s → first ≡ [] ++ spelled (map Word (built (export_names s)).slots)
      → second ≡ first ++ spelled (map Word (built (export_names s)).keys) → third ≡ second ++ spelled (export_fields (length strings) (exports_at s.exports (built (export_names s)).order)) → third ≡ spelled (table_fields (script_tables s programs))
  unfolding script_tables
  table_is strings first second third names a b c =
      let exports = exports_at s.exports (built (export_names s)).order in
      let from : length strings ≡ export_names_from (script_tables s programs) =
      ap length names ∙ length-append (zero_ended (library_names s)) (zero_ended (import_names s)) ∙ ap₂ (λ n m. n + m) own_libraries (ap length own_imports) in
      in_three [] (map Word (built (export_names s)).slots) (map Word (built (export_names s)).keys) (export_fields (export_names_from (script_tables s programs)) exports) first second third
      a b (c ∙ ap (λ n. second ++ spelled (export_fields n exports)) from)
