-- Exports of fragments.
use Rattle.std.proofs.Common.{◌≡◌, ℕ, List, refl}
use Rattle.pef_format.specs.declared.export.ExportValue.{ExportValue}
use Rattle.pef_format.specs.declared.export.ExportValue.TheVariants.{Absolute, InSection, Reexport}
use Rattle.cfm_store.specs.Stores.{Pair}
use Rattle.cfm_prepare.specs.Addresses.{target_address}
use Rattle.cfm_prepare.specs.FragmentExports.{export_target}
use Rattle.cfm_prepare.specs.Fragments.{Present}
use Rattle.cfm_prepare.specs.Readers.{export_address}

-- the address of an export is that of where it ends
pub ends_there : (pairs : List Pair) (all : List Present) (p : ℕ) (value : ExportValue) → target_address all (export_target pairs p value) ≡ export_address pairs all p value
ends_there pairs all p (InSection section offset) = refl
ends_there pairs all p (Absolute number) = refl
ends_there pairs all p (Reexport import) = refl
