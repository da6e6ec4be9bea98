use Rattle.std.proofs.Common.{◌≡◌, ◌+◌, ◌-◌, ◌*◌, ◌≤◌}
use Rattle.pef_reloc.specs.declared.fixup.Base.TheVariants.{Section}
use Rattle.pef_reloc.specs.Steps.{pairs}
use Rattle.pef_cert.specs.Fixups.Additions.{behind}
use Rattle.pef_cert.proofs.fixups.walk.Walk.after_pairs.Given as goal

abbrev pub invariant-pairs : goal.invariant-pairs
invariant-pairs l = record {
  position : l.position ≤ l.self.position + 12 * l.counter;
  left : behind (pairs (l.count - l.counter) l.position l.stride (Section l.self.c) (Section l.self.d)) l.left ≡ behind (pairs l.count l.self.position l.stride (Section l.self.c) (Section l.self.d)) l.self.left.now;
}
