-- The tables of a plan. They are filled from the last fixup to the first.
use Rattle.std.specs.Prelude.{◌≡◌, ◌≤◌, ◌<◌, ℕ, ◌+◌, ◌*◌, List, length, slice_index, take}
use Rattle.std.specs.List.{AllByRecursion}
use Rattle.pef_reloc.specs.declared.fixup.Fixup.{Fixup}
use Rattle.pef_reloc.specs.Deliveries.{index_after}
use Rattle.pef_cert.specs.Labels.{Labels}
use Rattle.pef_labels.specs.Rows.{LaidRows}
use Rattle.pef_cert.specs.Feasible.{FeasibleFrom}
use Rattle.pef_plan.specs.Reached.{ReachedFrom}
use Rattle.pef_plan.specs.Runs.Tables.{OffersFrom, SameLabels, label_in, skip_in}

-- the index of the next import at each fixup
pub record IndicesOf (fixups : List Fixup) (indices : List ℕ) : Type 0 where
  pub count : length indices ≡ length fixups
  pub at : (i : ℕ) → i < length fixups → slice_index indices i ≡ index_after (take i fixups) 0

-- tables that are filled for rest and its suffixes: labels that equal those of the tables are feasible there,
-- are reached, and have the table's offers
pub record Tabled (registers : List ℕ) (labels : List (List ℕ)) (skips : List (List ℕ)) (index : ℕ) (rest : List Fixup) : Type 0 where
  pub labels_count : length labels ≡ length rest + 1
  pub skips_count : length skips ≡ length rest + 1
  pub label_small : (left c d : ℕ) → left ≤ length rest → c < length registers + 1 → d < length registers + 1 → label_in (length registers + 1) labels left c d ≤ 4 * left
  pub skip_small : (left c : ℕ) → left ≤ length rest → c < length registers + 1 → skip_in skips left c ≤ 4 * left
  pub last : (c d : ℕ) → c < length registers + 1 → d < length registers + 1 → label_in (length registers + 1) labels 0 c d ≡ 0
  pub feasible : (l : Labels) → SameLabels l registers labels (length rest) → FeasibleFrom l index rest
  pub reached : (l : Labels) → SameLabels l registers labels (length rest) → ReachedFrom l index rest
  pub offers : (l : Labels) → SameLabels l registers labels (length rest) → OffersFrom l skips rest

-- tables as they are stored: labels have a number for each pair of classes, skips one for each class of C
pub record TablesOf (registers : List ℕ) (labels skips : LaidRows) (index : ℕ) (rest : List Fixup) : Type 0 where
  pub tabled : Tabled registers labels.rows skips.rows index rest
  pub labels_wide : labels.width ≡ (length registers + 1) * (length registers + 1)
  pub skips_wide : skips.width ≡ length registers + 1
  pub rows_wide : AllByRecursion (λ row. length row ≡ (length registers + 1) * (length registers + 1)) labels.rows
