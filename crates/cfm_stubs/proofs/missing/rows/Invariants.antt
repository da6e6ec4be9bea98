-- The rows so far, and those that are left, are all.
use Rattle.std.proofs.Common.{◌≡◌, ◌++◌, drop, map}
use Rattle.cfm_stubs.specs.Kept.Tables.{lacking_named}
use Rattle.cfm_stubs.specs.Views.{lacking_seen}
use Rattle.cfm_stubs.proofs.missing.rows.Given as goal

abbrev pub invariant-loop-k : goal.invariant-loop-k
invariant-loop-k l = map lacking_seen l.rows.items ++ lacking_named (drop l.k l.weak.entries) ≡ lacking_named l.weak.entries
