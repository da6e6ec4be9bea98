-- The first sections have certificates, whose programs are encoded.
use Rattle.std.proofs.Common.{map, take}
use Rattle.pef_write.specs.Kept.Encoded.{AreEncodedFor}
use Rattle.pef_write.proofs.program.certified_programs.Given as goal

abbrev pub invariant-loop-k : goal.invariant-loop-k
invariant-loop-k l = AreEncodedFor (take l.k l.section-items) l.certificates.items (map (λ p. p.items) l.encoded.programs.items) l.encoded.lengths.items
