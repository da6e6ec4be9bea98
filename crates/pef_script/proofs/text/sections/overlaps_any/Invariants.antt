use Rattle.std.proofs.Common.{◌≡◌, drop}
use Rattle.pef_script.specs.Text.Contents.{overlaps}
use Rattle.pef_script.proofs.text.sections.overlaps_any.Given as goal

-- the fixups left decide
abbrev pub invariant-loop-fixup : goal.invariant-loop-fixup
invariant-loop-fixup l = overlaps (drop l.fixup-index l.fixups) l.offset l.count ≡ overlaps l.fixups l.offset l.count
