-- The exports so far, and those that are left, are all. None so far has a large number.
use Rattle.std.proofs.Common.{◌≡◌, ◌<◌, ◌^◌, ◌++◌, drop, false, map}
use Rattle.std.specs.List.{list_any}
use Rattle.pef_format.specs.Exports.{export_seen}
use Rattle.cfm_stubs.specs.Stubs.{exports_from, is_large}
use Rattle.cfm_stubs.proofs.numbers.number_from.Given as goal

abbrev pub invariant-loop-k : goal.invariant-loop-k
invariant-loop-k l = record {
  all : map export_seen l.exports.items ++ exports_from l.next l.step (drop l.k l.symbols) ≡ exports_from l.first l.step l.symbols;
  small : list_any is_large (map export_seen l.exports.items) ≡ false;
  fits : l.next < 2 ^ 63;
}
