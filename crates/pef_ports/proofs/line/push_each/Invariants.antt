use Rattle.std.proofs.Common.{◌≡◌, ◌+◌, ◌*◌, ◌++◌, take}
use Rattle.arrayvec.specs.ArrayVec.{array_vec_len}
use Rattle.pef_ports.specs.Text.{hex_text}
use Rattle.pef_ports.proofs.line.push_each.Given as goal

abbrev pub invariant-loop-b : goal.invariant-loop-b
invariant-loop-b l = record {
  text : l.line.items ≡ l.fn.line.items ++ hex_text (take l.b-index l.bytes);
  len : array_vec_len l.line ≡ array_vec_len l.fn.line + 2 * l.b-index;
}
