use Rattle.std.proofs.Common.{◌≡◌, ◌+◌, ◌*◌, ◌-◌, map}
use Rattle.pef_reloc.specs.Steps.{add, numbered}
use Rattle.pef_reloc.specs.Applied.{applied}
use Rattle.pef_reloc.specs.Kept.Machines.{known}
use Rattle.pef_reloc.proofs.machine.add_imports.Given as goal

abbrev pub invariant-words : goal.invariant-words
invariant-words l = record {
  at_is : l.at ≡ l.position + 4 * l.counter;
  import_is : l.import ≡ l.first + l.counter;
  left : applied (known l.targets) (map add (numbered (l.count - l.counter) l.at l.import)) l.memory ≡ applied (known l.targets) (map add (numbered l.count l.position l.first)) l.fn.memory;
}
