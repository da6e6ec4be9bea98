-- The first fragments were added.
use Rattle.std.proofs.Common.{◌≡◌, ◌++◌, map, take}
use Rattle.pef_gather.specs.Seen.{found_seen}
use Rattle.pef_gather.specs.Stores.{found_pair}
use Rattle.pef_gather.proofs.stores.add_found.Given as goal

abbrev pub invariant-loop-fragment : goal.invariant-loop-fragment
invariant-loop-fragment l = l.store ≡ l.fn.store ++ map found_pair (map found_seen (take l.fragment-index l.found))
