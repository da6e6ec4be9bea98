-- The first export with a name, and the exports of a loader section by their names.
use Rattle.std.specs.Prelude.{◌≡◌, ℕ, Bool, List, IsTrue, Option, None, Some}
use Rattle.pef_format.specs.Exports.{Export, value_of}
use Rattle.pef_format.specs.declared.export.ExportValue.{ExportValue}
use Rattle.pef_loader.specs.Export.{is_there}
use Rattle.pef_loader.specs.Loader.{Loaded, export_of, named_of}

-- a value is what it means, and exists
pub record Means (l : Loaded) (name : List ℕ) (value : ExportValue) : Type 0 where
  pub index : ℕ
  pub named : named_of l name ≡ Some index
  pub export : Export
  pub row : export_of l index ≡ Some export
  pub is : value ≡ value_of export.fields.section export.fields.value
  pub inside : IsTrue (is_there l.header l.sections value)

-- .. if there is one
abbrev pub MeansFirst : Loaded → List ℕ → Option ExportValue → Type 0
MeansFirst l name None = named_of l name ≡ None
MeansFirst l name (Some value) = Means l name value

-- the exports of a loader section, and whether so many were searched that an index of all is due
pub record NamedTable : Type 0 where
  pub loader : Loaded
  pub is_due : Bool
