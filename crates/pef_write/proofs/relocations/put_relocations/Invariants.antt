-- The part written and the part left make the whole.
use Rattle.std.proofs.Common.{◌≡◌, ◌+◌, ◌++◌, drop, length, map}
use Rattle.pef_write.specs.Fields.{spelled}
use Rattle.pef_write.specs.Loaders.{program_bytes, program_fields}
use Rattle.pef_write.specs.Kept.Views.{program_entry}
use Rattle.pef_write.proofs.relocations.put_relocations.Given as goal

abbrev pub invariant-loop-program : goal.invariant-loop-program
invariant-loop-program l = record {
  place : l.at + length (program_bytes (map program_entry (drop l.program-index l.programs))) ≡ length (program_bytes (map program_entry l.programs));
  headers : l.out.items ++ spelled (program_fields l.at (map program_entry (drop l.program-index l.programs)))
      ≡ l.fn.out.items ++ spelled (program_fields 0 (map program_entry l.programs));
}
