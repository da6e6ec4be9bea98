use Rattle.std.proofs.Common.{◌≡◌, drop}
use Rattle.pef_reloc.specs.Deliveries.{all_meet, uses_section}
use Rattle.pef_cert.proofs.registers.all_used.Given as goal

abbrev pub invariant-loop-section : goal.invariant-loop-section
invariant-loop-section l = all_meet (uses_section l.fixups) (drop l.section-index l.sections) ≡ all_meet (uses_section l.fixups) l.sections
