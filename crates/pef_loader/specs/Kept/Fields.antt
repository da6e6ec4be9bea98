-- A field of a row as the code has it.
use Rattle.pef_loader.specs.Faults as faults
use Rattle.pef_loader.specs.declared.fault.RowField.{RowField}

abbrev pub field_seen : RowField → faults.RowField
field_seen f = record { part = f.part; row = f.row; field = f.field }
