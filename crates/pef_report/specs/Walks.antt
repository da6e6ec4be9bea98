-- The state of a walk over the rows of a container.
use Rattle.std.specs.Prelude.{◌≡◌, ℕ, List}
use Rattle.pef_report.specs.Inspection.{Row, merged_left}
use Rattle.pef_report.specs.Order.{after}
use Rattle.pef_report.specs.Views.{readable}
use Rattle.pef_report.specs.declared.walk.Walk.{Walk}

-- the rows and instructions were passed: the errors and notes that are left are those after the last one
pub record Passes (old new : Walk) (rows : List Row) : Type 0 where
  pub base : new.base ≡ old.base
  pub reading : readable new.reading ≡ readable old.reading
  pub left : new.left.now ≡ merged_left rows old.left.now

-- the errors and notes that are left are those from the place with a rank on
pub record PassesBefore (old new : Walk) (rank : ℕ) : Type 0 where
  pub base : new.base ≡ old.base
  pub reading : readable new.reading ≡ readable old.reading
  pub left : new.left.now ≡ after rank old.left.now
