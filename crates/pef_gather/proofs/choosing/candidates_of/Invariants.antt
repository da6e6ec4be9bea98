-- The first fragments are candidates.
use Rattle.std.proofs.Common.{◌≡◌, map, take}
use Rattle.mac_fragments.specs.Candidates.{candidate_seen}
use Rattle.pef_gather.specs.Seen.{found_seen}
use Rattle.pef_gather.proofs.choosing.candidates_of.Given as goal

abbrev pub invariant-loop-fragment : goal.invariant-loop-fragment
invariant-loop-fragment l = map candidate_seen l.candidates.items ≡ map (λ f. f.candidate) (map found_seen (take l.fragment-index l.found))
