-- What is left decides.
use Rattle.std.proofs.Common.{◌≡◌, drop}
use Rattle.std.specs.List.{list_any}
use Rattle.cfm_stubs.specs.Stubs.{is_long}
use Rattle.cfm_stubs.proofs.numbers.has_long_name.Given as goal

abbrev pub invariant-loop-k : goal.invariant-loop-k
invariant-loop-k l = list_any is_long (drop l.k l.symbols) ≡ list_any is_long l.symbols
