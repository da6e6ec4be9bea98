-- The part written and the part left make the whole.
use Rattle.std.proofs.Common.{◌≡◌, ◌++◌, drop, map}
use Rattle.pef_write.specs.Loaders.{program_bytes}
use Rattle.pef_write.specs.Kept.Views.{program_entry}
use Rattle.pef_write.proofs.relocations.put_programs.Given as goal

abbrev pub invariant-loop-program : goal.invariant-loop-program
invariant-loop-program l = l.out.items ++ program_bytes (map program_entry (drop l.program-index l.programs)) ≡ l.fn.out.items ++ program_bytes (map program_entry l.programs)
