-- The order in which rows are printed, and errors and notes among them.
use Rattle.std.specs.Prelude.{ℕ, suc, ◌+◌, ◌-◌, ◌*◌, ◌^◌, List, [], ◌∷◌, drop, min, take, nat_lt, if◌then◌else◌}
use Rattle.std.specs.List.Sorted.{IsNonDecreasingBy, IsPermutation, IsStableByKey}
use Rattle.std.specs.Ordering.{nat_cmp}
use Rattle.pef_format.specs.Places.{part_code}
use Rattle.pef_format.specs.declared.place.Part.{Part}
use Rattle.pef_format.specs.declared.place.Part.TheVariants as part
use Rattle.pef_inspect.specs.declared.finding.Finding.{Finding}

-- the kind of the row that a part is printed with: packed data with its section, a program with its relocation header
abbrev pub row_part : Part → Part
row_part part.PackedData = part.Section
row_part part.Program = part.Relocation
row_part part.Header = part.Header
row_part part.Section = part.Section
row_part part.LoaderHeader = part.LoaderHeader
row_part part.Library = part.Library
row_part part.Import = part.Import
row_part part.Main = part.Main
row_part part.Init = part.Init
row_part part.Term = part.Term
row_part part.Relocation = part.Relocation
row_part part.Export = part.Export
row_part part.Line = part.Line

-- how far the rank of an instruction is from that of its relocation header: by its offset in the program. A row has none
abbrev pub place_after : Part → ℕ → ℕ
place_after part.Program field = field + 1
place_after kind field = 0

-- the rank of a row or of an instruction, which is its place in the order: by the kind of its part, then by its number, which is
-- below 2^32, then by the offset of the instruction
unfoldable pub rank : Part → ℕ → ℕ → ℕ
rank kind row field = (part_code (row_part kind) * 2 ^ 32 + min row (2 ^ 32 - 1)) * 2 ^ 65 + place_after kind field

-- the rank of the row or of the instruction that an error or a note is about
abbrev pub finding_rank : Finding → ℕ
finding_rank f = rank f.place.part f.place.row f.place.field

-- how many of the first findings are about what comes before a rank
abbrev pub count_before : ℕ → List Finding → ℕ
count_before rank [] = 0
count_before rank (f ∷ fs) = if nat_lt (finding_rank f) rank then suc (count_before rank fs) else 0

-- these findings, and those after them
abbrev pub before : ℕ → List Finding → List Finding
before rank fs = take (count_before rank fs) fs

abbrev pub after : ℕ → List Finding → List Finding
after rank fs = drop (count_before rank fs) fs

-- findings in the order of their rows and of the instructions below a row: those about one row, or one instruction, are in
-- the order in which they were found
pub record IsInOrder (found ordered : List Finding) : Type 0 where
  pub permutation : IsPermutation found ordered
  pub rises : IsNonDecreasingBy finding_rank ordered
  pub stable : IsStableByKey finding_rank nat_cmp found ordered
