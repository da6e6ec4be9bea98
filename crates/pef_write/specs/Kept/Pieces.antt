-- The pieces of a loader section, as the code has them, and the places where they begin.
use Rattle.std.specs.Prelude.{◌≡◌, ℕ, ◌++◌, List, map}
use Rattle.std.specs.List.{flat_map}
use Rattle.pef_hash.specs.Build.{built}
use Rattle.pef_script.specs.Script.{DescribedScript, export_names, import_names, library_names}
use Rattle.pef_write.specs.declared.loader.Pieces.{Pieces}
use Rattle.pef_write.specs.declared.loader.Places.{Places}
use Rattle.pef_write.specs.Fields.{spelled}
use Rattle.pef_write.specs.Linked.{exports_at}
use Rattle.pef_write.specs.Loaders.{LoaderTables, entry_fields, exports_from, programs_from, strings_from, strings_of, table_fields, zero_ended}
use Rattle.pef_write.specs.Kept.Views.{program_entry}

-- the pieces of some tables' loader section
pub record ArePieces (t : LoaderTables) (p : Pieces) : Type 0 where
  pub entries : p.entries.now ≡ spelled (entry_fields t)
  pub programs : map program_entry p.programs.now ≡ t.programs
  pub strings : p.strings.now ≡ strings_of t
  pub power : p.power ≡ t.power
  pub table : p.table.now ≡ spelled (table_fields t)

-- the places where they begin
pub record ArePlaces (t : LoaderTables) (p : Places) : Type 0 where
  pub programs : p.programs ≡ programs_from t
  pub strings : p.strings ≡ strings_from t
  pub exports : p.exports ≡ exports_from t

-- the names of libraries and imports, in their order

abbrev pub names_before : DescribedScript → List ℕ
names_before s = zero_ended (library_names s) ++ zero_ended (import_names s)

-- the names of exports, in the order of the export table
abbrev pub names_in_order : DescribedScript → List ℕ
names_in_order s = flat_map (λ e. e.name) (exports_at s.exports (built (export_names s)).order)
