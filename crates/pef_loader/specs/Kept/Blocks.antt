-- Cells of owners: a cell for each import of a run, which holds the first library that has it.
use Rattle.std.specs.Prelude.{◌≡◌, ℕ, ◌+◌, ◌-◌, ◌^◌, ◌<◌, ◌≤◌, ◌==◌, ◌&&◌, Bool, false, true, List, Option, Some, None, length, nat_le, nat_lt, slice_index, if◌then◌else◌}
use Rattle.pef_words.specs.Refusals.{first_among}
use Rattle.pef_loader.specs.declared.header.LoaderHeader.{LoaderHeader}
use Rattle.pef_loader.specs.Import.{owner_at}

-- what a cell means: the library with this number, or none
abbrev pub cell_library : ℕ → Option ℕ
cell_library cell = if cell == 2 ^ 32 - 1 then None else Some cell

-- no cell is painted
abbrev pub AreEmpty : List ℕ → Type 0
AreEmpty cells = (k : ℕ) → k < length cells → slice_index cells k ≡ 2 ^ 32 - 1

-- all cells from `low` on that are before `high` are painted
abbrev pub ArePainted : List ℕ → ℕ → ℕ → Type 0
ArePainted cells low high = (k : ℕ) → low ≤ k → k < high → (slice_index cells k == 2 ^ 32 - 1) ≡ false

-- a step from a cell to a later one, not past the end, and over painted cells alone
pub record IsStep (cells : List ℕ) (k next : ℕ) : Type 0 where
  pub ahead : k < next
  pub within : next ≤ length cells
  pub over : ArePainted cells (k + 1) next

-- each cell has the length of such a step
pub record AreSteps (cells steps : List ℕ) : Type 0 where
  pub as_many : length steps ≡ length cells
  pub each : (k : ℕ) → k < length cells → IsStep cells k (k + slice_index steps k)

-- the empty cells from `start` on that are before `end` are painted, and the others are as they were
pub record IsPainted (old new : List ℕ) (start end cell : ℕ) : Type 0 where
  pub as_many : length new ≡ length old
  pub each : (k : ℕ) → k < length old → slice_index new k ≡ (if (nat_le start k && nat_lt k end) && (slice_index old k == 2 ^ 32 - 1) then cell else slice_index old k)

-- each cell holds the owner of its import among the libraries before library l. The first cell is that of import
-- `from`
abbrev pub AreOwnersBefore : List ℕ → ℕ → ℕ → List ℕ → Type 0
AreOwnersBefore bytes l from cells = (k : ℕ) → k < length cells → cell_library (slice_index cells k) ≡ first_among (owner_at bytes (from + k)) 0 l

-- each cell holds the owner of its import
abbrev pub AreOwners : List ℕ → LoaderHeader → ℕ → List ℕ → Type 0
AreOwners bytes h from cells = AreOwnersBefore bytes h.library_count from cells

-- the same, if the cells were painted
abbrev pub AreOwnersIf : Bool → List ℕ → LoaderHeader → ℕ → List ℕ → Type 0
AreOwnersIf painted bytes h from cells = painted ≡ true → AreOwners bytes h from cells
