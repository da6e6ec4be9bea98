-- The most pairs of a store (docs/RULES.md, "Binding"), which is this project's own. The code has it as a constant.
use Rattle.std.specs.Prelude.{ℕ}

abbrev pub most_pairs : ℕ
most_pairs = 256
