-- The paths so far and those of the rest are all.
use Rattle.std.proofs.Common.{◌≡◌, ◌++◌, List, ℕ, length, map}
use Rattle.std.specs.Borrow.{Bor}
use Rattle.pef_tool.specs.Inspect.{listed_paths}
use Rattle.pef_tool.proofs.inspect.listed_paths.Given as goal

abbrev pub invariant-loop-rest : goal.invariant-loop-rest
invariant-loop-rest l =
    let now : Bor (List ℕ) → List ℕ = λ path. path.now in
    map now l.paths.items ++ listed_paths l.rest ≡ listed_paths l.list

abbrev pub decreases-loop-rest : goal.decreases-loop-rest
decreases-loop-rest l = length l.rest
