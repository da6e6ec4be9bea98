-- The next row of a resource fork.
use Rattle.std.proofs.Common.{◌≡◌, ◌∷◌, ◌++◌, Bool, List, Result, ap, ℕ}
use Rattle.mac_resources.specs.Resources.{ResourceIs}
use Rattle.mac_resources.specs.declared.fault.ResourceFault.{ResourceFault}
use Rattle.mac_rows.specs.ResourceRows.{resources_text, row_text, still_first}
use Rattle.mac_rows.specs.declared.output_format.OutputFormat.{OutputFormat}

pub next_resource : (form : OutputFormat) (is_first : Bool) (base : ℕ) (rows others : List (Result ResourceIs ResourceFault)) (row : Result ResourceIs ResourceFault)
    → rows ≡ row ∷ others → resources_text form is_first base rows ≡ row_text form is_first base row ++ resources_text form (still_first is_first row) base others
next_resource form is_first base rows others row is = ap (resources_text form is_first base) is
