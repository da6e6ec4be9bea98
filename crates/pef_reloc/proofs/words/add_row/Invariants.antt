use Rattle.std.proofs.Common.{◌≡◌, ◌+◌, ◌*◌, ◌-◌, map}
use Rattle.pef_reloc.specs.declared.fixup.Base.{Base}
use Rattle.pef_reloc.specs.Steps.{add, row}
use Rattle.pef_reloc.specs.Applied.{Addresses, applied}
use Rattle.pef_reloc.specs.Kept.Rows.{Stands}
use Rattle.pef_reloc.proofs.words.add_row.Given as goal

abbrev pub invariant-words : goal.invariant-words
invariant-words l = record {
  at_is : l.at ≡ l.row.from + l.row.stride * l.counter;
  left : (a : Addresses) (b : Base) → Stands a b l.address → applied a (map add (row (l.row.count - l.counter) l.at l.row.stride b)) l.memory ≡ applied a (map add (row l.row.count l.row.from l.row.stride b)) l.fn.memory;
}
