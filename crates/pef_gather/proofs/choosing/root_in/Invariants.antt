-- None of the fragments so far may be the root.
use Rattle.std.proofs.Common.{◌≡◌, drop, map, option_map}
use Rattle.pef_gather.specs.Gathered.{root_from}
use Rattle.pef_gather.specs.Seen.{found_seen}
use Rattle.pef_gather.proofs.choosing.root_in.Given as goal

abbrev pub invariant-loop-i : goal.invariant-loop-i
invariant-loop-i l = root_from l.i (option_map (λ name. name.now) l.root) (map found_seen (drop l.i l.found)) ≡ root_from 0 (option_map (λ name. name.now) l.root) (map found_seen l.found)
