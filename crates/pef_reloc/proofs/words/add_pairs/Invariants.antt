use Rattle.std.proofs.Common.{◌≡◌, ◌+◌, ◌*◌, ◌-◌, map}
use Rattle.pef_reloc.specs.declared.fixup.Base.{Base}
use Rattle.pef_reloc.specs.Steps.{add, pairs}
use Rattle.pef_reloc.specs.Applied.{Addresses, applied}
use Rattle.pef_reloc.specs.Kept.Rows.{Stands}
use Rattle.pef_reloc.proofs.words.add_pairs.Given as goal

abbrev pub invariant-words : goal.invariant-words
invariant-words l = record {
  at_is : l.at ≡ l.row.from + l.row.stride * l.counter;
  left : (a : Addresses) (b b' : Base) → Stands a b l.first → Stands a b' l.second → applied a (map add (pairs (l.row.count - l.counter) l.at l.row.stride b b')) l.memory ≡ applied a (map add (pairs l.row.count l.row.from l.row.stride b b')) l.fn.memory;
}
