-- The first stubs were added.
use Rattle.std.proofs.Common.{◌≡◌, ◌++◌, map, take}
use Rattle.pef_gather.specs.Stores.{stub_pair}
use Rattle.pef_gather.proofs.stores.add_stubs.Given as goal

abbrev pub invariant-loop-stub : goal.invariant-loop-stub
invariant-loop-stub l = l.store ≡ l.fn.store ++ map stub_pair (take l.stub-index l.stubs)
