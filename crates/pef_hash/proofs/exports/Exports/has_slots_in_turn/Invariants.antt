-- The slots so far count exports one after the other, the last of them up to the end.
use Rattle.std.proofs.Common.{◌≤◌}
use Rattle.pef_hash.specs.Views.{table_of}
use Rattle.pef_hash.specs.Kept.Searches.{AreInTurnTo, IsEndOf}
use Rattle.pef_hash.proofs.exports.Exports.has_slots_in_turn.Given as goal

abbrev pub invariant-loop-s : goal.invariant-loop-s
invariant-loop-s l = record {
  turn : AreInTurnTo (table_of l.self) l.s l.end;
  inside : l.end ≤ l.self.count;
  last : IsEndOf (table_of l.self) l.s l.end;
}
