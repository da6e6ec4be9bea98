use Rattle.std.proofs.Common.{◌≡◌, drop}
use Rattle.pef_cert.specs.Kept.Registers.{all_registered}
use Rattle.pef_cert.proofs.registers.all_registered.Given as goal

abbrev pub invariant-loop-fixup : goal.invariant-loop-fixup
invariant-loop-fixup l = all_registered l.registers (drop l.fixup-index l.fixups) ≡ all_registered l.registers l.fixups
