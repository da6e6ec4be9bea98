use Rattle.std.proofs.Common.{◌≡◌, ◌≤◌, ◌+◌, ◌*◌, ◌/◌, ◌++◌, length}
use Rattle.arrayvec.specs.ArrayVec.{array_vec_len}
use Rattle.pef_ports.specs.Text.{group_text}
use Rattle.pef_ports.proofs.dump.push_groups.Given as goal

abbrev pub invariant-loop-rest : goal.invariant-loop-rest
invariant-loop-rest l = record {
  text : l.line.items ++ group_text l.rest ≡ l.fn.line.items ++ group_text l.bytes;
  room : array_vec_len l.line + 9 * ((length l.rest + 3) / 4) ≤ 44;
}

abbrev pub decreases-loop-rest : goal.decreases-loop-rest
decreases-loop-rest l = length l.rest
