-- What is left decides.
use Rattle.std.proofs.Common.{◌≡◌, drop}
use Rattle.std.specs.List.{list_any}
use Rattle.cfm_stubs.specs.MemoryStubs.{is_unspellable}
use Rattle.cfm_stubs.proofs.memory.has_unspellable_name.Given as goal

abbrev pub invariant-loop-k : goal.invariant-loop-k
invariant-loop-k l = list_any is_unspellable (drop l.k l.symbols) ≡ list_any is_unspellable l.symbols
