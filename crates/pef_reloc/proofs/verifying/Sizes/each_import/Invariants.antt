use Rattle.std.proofs.Common.{◌≡◌, ◌+◌, ◌*◌, ◌-◌, map}
use Rattle.pef_reloc.specs.Steps.{add, numbered}
use Rattle.pef_reloc.specs.Verified.{first_stop}
use Rattle.pef_reloc.proofs.verifying.Sizes.each_import.Given as goal

abbrev pub invariant-words : goal.invariant-words
invariant-words l = record {
  at_is : l.at ≡ l.position + 4 * l.counter;
  import_is : l.import ≡ l.first + l.counter;
  left : first_stop l.self (map add (numbered (l.count - l.counter) l.at l.import)) ≡ first_stop l.self (map add (numbered l.count l.position l.first));
}
