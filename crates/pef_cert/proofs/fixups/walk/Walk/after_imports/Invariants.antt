use Rattle.std.proofs.Common.{◌≡◌, ◌+◌, ◌-◌, ◌*◌, ◌≤◌}
use Rattle.pef_reloc.specs.Steps.{numbered}
use Rattle.pef_cert.specs.Fixups.Additions.{behind}
use Rattle.pef_cert.proofs.fixups.walk.Walk.after_imports.Given as goal

abbrev pub invariant-imports : goal.invariant-imports
invariant-imports l = record {
  position : l.position ≤ l.fn.self.position + 12 * l.counter;
  import : l.import ≤ l.fn.self.import_index + l.counter;
  left : behind (numbered (l.count - l.counter) l.position l.import) l.left ≡ behind (numbered l.count l.fn.self.position l.fn.self.import_index) l.fn.self.left.now;
}
