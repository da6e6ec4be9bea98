-- What is seen in the bytes so far, and in those that are left.
use Rattle.std.proofs.Common.{◌≡◌, drop}
use Rattle.pef_inspect.specs.Text.{no_signs, signs_in}
use Rattle.pef_inspect.proofs.text.signs_in.Given as goal

abbrev pub invariant-loop-byte : goal.invariant-loop-byte
invariant-loop-byte l = signs_in l.signs (drop l.byte-index l.bytes) ≡ signs_in no_signs l.bytes
