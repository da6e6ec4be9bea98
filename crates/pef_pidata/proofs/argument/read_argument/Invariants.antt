-- The bytes that are left continue the argument, and each byte has added seven bits.
use Rattle.std.proofs.Common.{◌≡◌, ◌*◌, ◌^◌, ◌<◌, ◌≤◌, drop}
use Rattle.pef_pidata.specs.Instructions.{argument_from}
use Rattle.pef_pidata.proofs.argument.read_argument.Given as goal

abbrev pub invariant-loop-i : goal.invariant-loop-i
invariant-loop-i l = record {
  few : l.i ≤ 4;
  bits : l.value < 2 ^ (7 * l.i);
  rest : argument_from l.at l.i l.value (drop l.i l.packed) ≡ argument_from l.at 0 0 l.packed;
}
