-- No name begins at the offsets that were passed.
use Rattle.std.proofs.Common.{◌≡◌, ◌≤◌, List, ℕ}
use Rattle.pef_tool.specs.Companions.{mirrors_before}
use Rattle.pef_tool.proofs.companion.name_before.Given as goal

abbrev pub invariant-loop-at : goal.invariant-loop-at
invariant-loop-at l = record {
  inside : l.at ≤ l.end;
  places : (name : List ℕ) → mirrors_before l.folder name l.end ≡ mirrors_before l.folder name l.at;
}

abbrev pub decreases-loop-at : goal.decreases-loop-at
decreases-loop-at l = l.at
