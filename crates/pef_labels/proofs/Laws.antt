-- Facts of rows, as `specs/` defines them, for the proofs of other crates.

-- each row has the width of the rows
pub use Rattle.pef_labels.proofs.RowLemmas.{rows-wide}
-- the end of the last kept row is how many rows there are
pub use Rattle.pef_labels.proofs.RowLemmas.{rows-some}
-- the row at an index is the kept row that ends first after it
pub use Rattle.pef_labels.proofs.RowLemmas.{row-at}
-- Kept rows that are read in order.
-- the next one ends after the rows that were passed
pub use Rattle.pef_labels.proofs.RowLemmas.{run-rises}
-- the facts of the others hold after it
pub use Rattle.pef_labels.proofs.RowLemmas.{runs-next}
-- the rows after it begin with another one
pub use Rattle.pef_labels.proofs.RowLemmas.{runs-whole}
