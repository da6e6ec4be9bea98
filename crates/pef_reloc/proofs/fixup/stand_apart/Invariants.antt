use Rattle.std.proofs.Common.{◌≡◌, drop}
use Rattle.pef_reloc.specs.Fixups.{fixups_from}
use Rattle.pef_reloc.proofs.fixup.stand_apart.Given as goal

abbrev pub invariant-loop-fixup : goal.invariant-loop-fixup
invariant-loop-fixup l = fixups_from l.end (drop l.fixup-index l.fixups) ≡ fixups_from 0 l.fixups
