-- The part listed and the part left make the whole.
use Rattle.std.proofs.Common.{◌≡◌, ◌++◌, drop}
use Rattle.pef_write.proofs.sections.raw_sections.Given as goal

abbrev pub invariant-loop-section : goal.invariant-loop-section
invariant-loop-section l = l.raws.items ++ drop l.section-index l.section-items ≡ l.section-items
