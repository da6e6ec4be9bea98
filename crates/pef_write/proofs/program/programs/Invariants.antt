-- The programs of the first sections are encoded.
use Rattle.std.proofs.Common.{List, map, take}
use Rattle.pef_cert.specs.Certified.{Certified}
use Rattle.pef_write.specs.Kept.Encoded.{AreEncodedFor}
use Rattle.pef_write.proofs.program.programs.Given as goal

abbrev pub invariant-loop-section : goal.invariant-loop-section
invariant-loop-section l = (certificates : List Certified) × AreEncodedFor (take l.section-index l.section-items) certificates (map (λ p. p.items) l.encoded.programs.items) l.encoded.lengths.items
