-- The exports so far, and those that are left, are all.
use Rattle.std.proofs.Common.{◌≡◌, ◌++◌, drop, map}
use Rattle.pef_format.specs.Exports.{export_seen}
use Rattle.cfm_stubs.proofs.memory.exports_of.Given as goal

abbrev pub invariant-loop-e : goal.invariant-loop-e
invariant-loop-e l = map export_seen l.exports.items ++ drop l.e l.script.exports ≡ l.script.exports
