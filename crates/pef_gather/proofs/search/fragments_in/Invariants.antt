-- The fragments so far, and those of the files that are left, are all fragments.
use Rattle.std.proofs.Common.{◌≡◌, drop, map}
use Rattle.pef_gather.specs.Gathered.{found_in}
use Rattle.pef_gather.specs.Seen.{found_seen, given_seen}
use Rattle.pef_gather.proofs.GatherLemmas.{after_those}
use Rattle.pef_gather.proofs.search.fragments_in.Given as goal

abbrev pub invariant-loop-file : goal.invariant-loop-file
invariant-loop-file l = after_those (map found_seen l.found.items) (found_in (map given_seen (drop l.file-index l.files))) ≡ found_in (map given_seen l.files)
