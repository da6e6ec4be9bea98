-- The part listed and the part left make the whole.
use Rattle.std.proofs.Common.{◌≡◌, ◌++◌, drop, map}
use Rattle.pef_write.specs.Kept.Views.{program_entry}
use Rattle.pef_write.specs.Kept.Encoded.{nonempty_from}
use Rattle.pef_write.proofs.relocations.section_programs.Given as goal

abbrev pub invariant-loop-section : goal.invariant-loop-section
invariant-loop-section l = map program_entry l.own.items ++ nonempty_from l.section (map (λ p. p.items) (drop l.section l.programs)) ≡ nonempty_from 0 (map (λ p. p.items) l.programs)
