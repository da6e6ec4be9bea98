use Rattle.std.proofs.Common.{◌≡◌, ◌+◌, ◌-◌, ◌*◌, ◌≤◌}
use Rattle.pef_reloc.specs.Steps.{row}
use Rattle.pef_cert.specs.Fixups.Additions.{behind}
use Rattle.pef_cert.proofs.fixups.walk.after_words.Given as goal

abbrev pub invariant-words : goal.invariant-words
invariant-words l = record {
  position : l.position ≤ l.from + 12 * l.counter;
  left : behind (row (l.count - l.counter) l.position l.stride l.base) l.left ≡ behind (row l.count l.from l.stride l.base) l.fixups;
}
