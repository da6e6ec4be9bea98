-- The imports of the way are those of the same fragments, and those that were passed are known.
use Rattle.cfm_closure.specs.Kept.Targets.{AreKnown, Keeps}
use Rattle.cfm_closure.proofs.resolve.note_way.Given as goal

abbrev pub invariant-loop-import : goal.invariant-loop-import
invariant-loop-import l = record {
  keeps : Keeps l.fn.bindings l.bindings;
  known : AreKnown l.bindings.rows l.way l.import-index;
}
