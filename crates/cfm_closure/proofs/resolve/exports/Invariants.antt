-- The exports so far.
use Rattle.std.proofs.Common.{◌≡◌, ◌≤◌, ◌*◌, ◌^◌, take}
use Rattle.cfm_closure.specs.Targets.{exports_among}
use Rattle.cfm_closure.proofs.resolve.exports.Given as goal

abbrev pub invariant-loop-p : goal.invariant-loop-p
invariant-loop-p l = record {
  count : l.exports ≡ exports_among l.bindings.pairs (take l.p-index l.bindings.order);
  few : l.exports ≤ 2 ^ 32 * l.p-index;
}
