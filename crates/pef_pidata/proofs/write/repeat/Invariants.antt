-- The bytes written are whole blocks.
use Rattle.std.proofs.Common.{◌≡◌, ◌+◌, ◌-◌, ◌*◌, ◌≤◌, length}
use Rattle.pef_pidata.proofs.Repeats.{IsBegun}
use Rattle.pef_pidata.proofs.write.repeat.Given as goal

abbrev pub invariant-loop-done : goal.invariant-loop-done
invariant-loop-done l = record {
  begun : IsBegun l.block l.target l.done;
  least : length l.block ≤ l.done;
  inside : l.done ≤ length l.target;
  len : length l.target ≡ length l.block * (l.repeats + 1);
}

abbrev pub decreases-loop-done : goal.decreases-loop-done
decreases-loop-done l = length l.initial.target - l.done
