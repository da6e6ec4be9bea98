use Rattle.std.proofs.Common.{take}
use Rattle.pef_script.specs.Text.Kept.Marks.{AreMarked}
use Rattle.pef_script.proofs.text.marks.Marks.of.Given as goal

-- the fixups so far have their marks
abbrev pub invariant-loop-fixup : goal.invariant-loop-fixup
invariant-loop-fixup l = AreMarked l.marks.leads.items (take l.fixup-index l.fixups)
