-- Which numbers fragments have. A removed fragment leaves its number free (docs/RULES.md, "Binding").
use Rattle.std.specs.Prelude.{ℕ, ◌+◌, List, [], ◌∷◌, Option, None, Some, drop, if◌then◌else◌}
use Rattle.cfm_store.specs.Stores.{Pair}

-- the first place that has a pair, counted from a number on
abbrev pub taken_from : ℕ → List Pair → Option ℕ
taken_from at [] = None
taken_from at (p ∷ pairs) = if p.free then taken_from (at + 1) pairs else Some at

-- the first number from one on that a fragment has
unfoldable pub next_number : List Pair → ℕ → Option ℕ
next_number pairs from = taken_from from (drop from pairs)
