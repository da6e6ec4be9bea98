-- The part counted and the part left make the whole.
use Rattle.std.proofs.Common.{◌≡◌, ◌+◌, drop, length, map}
use Rattle.pef_write.specs.Loaders.{program_bytes}
use Rattle.pef_write.specs.Kept.Views.{program_entry}
use Rattle.pef_write.proofs.relocations.programs_len.Given as goal

abbrev pub invariant-loop-program : goal.invariant-loop-program
invariant-loop-program l = l.len + length (program_bytes (map program_entry (drop l.program-index l.programs))) ≡ length (program_bytes (map program_entry l.programs))
