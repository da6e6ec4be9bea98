-- What the first export with each name means.
use Rattle.std.specs.Prelude.{◌≡◌, ℕ, ◌-◌, ◌<◌, List, length, Option, None, option_map}
use Rattle.std.specs.Option.{option_and_then}
use Rattle.pef_words.specs.Refusals.{first_among}
use Rattle.pef_format.specs.Exports.{value_of}
use Rattle.pef_format.specs.declared.export.ExportValue.{ExportValue}
use Rattle.pef_hash.specs.Exports.{named_at}
use Rattle.pef_names.specs.declared.name_key.NameKey.{NameKey}
use Rattle.pef_loader.specs.Export.{export_table}
use Rattle.pef_loader.specs.Loader.{Loaded, export_of}
use Rattle.cfm_store.specs.Places.{place_in}
use Rattle.cfm_store.specs.declared.name_index.NameIndex.{NameIndex}

-- what export k means
abbrev pub value_at : Loaded → ℕ → Option ExportValue
value_at l k = option_map (λ e. value_of e.fields.section e.fields.value) (export_of l k)

-- the entries have what the first of the exports from i on with each name means, and no name is longer than the longest
pub record IsIndexFrom (l : Loaded) (i : ℕ) (entries : List (NameKey × ExportValue)) (longest : ℕ) : Type 0 where
  pub first : (name : List ℕ) → place_in entries name ≡ option_and_then (value_at l) (first_among (named_at (export_table l.bytes l.header) name) i (l.header.export_count - i))
  pub long : (name : List ℕ) → longest < length name → place_in entries name ≡ None

abbrev pub IsIndex : Loaded → NameIndex → Type 0
IsIndex l index = IsIndexFrom l 0 index.values.entries index.longest
