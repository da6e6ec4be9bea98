use Rattle.std.proofs.Common.{◌≡◌, ◌≤◌, length, drop}
use Rattle.pef_script.specs.Text.Near.{past_common}
use Rattle.pef_script.proofs.text.near.past_common.Given as goal

-- both have the same bytes so far
abbrev pub invariant-loop-at : goal.invariant-loop-at
invariant-loop-at l = record {
  inside : l.at ≤ length l.other;
  same : past_common (drop l.at l.one) (drop l.at l.other) ≡ past_common l.one l.other;
}
