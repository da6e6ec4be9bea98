-- The fragments in the first places were picked.
use Rattle.std.proofs.Common.{◌≡◌, map, take}
use Rattle.pef_gather.specs.Gathered.{picked}
use Rattle.pef_gather.specs.Seen.{found_seen}
use Rattle.pef_gather.proofs.choosing.picked.Given as goal

abbrev pub invariant-loop-place : goal.invariant-loop-place
invariant-loop-place l = map found_seen l.fragments.items ≡ picked (map found_seen l.found) (take l.place-index l.places)
