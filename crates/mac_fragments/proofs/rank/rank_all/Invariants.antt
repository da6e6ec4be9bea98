-- The candidates so far, and those that are left, are all candidates.
use Rattle.std.proofs.Common.{◌≡◌, ◌++◌, drop, map}
use Rattle.std.specs.Prelude.{option_map}
use Rattle.mac_fragments.specs.Choices.{ranked_among}
use Rattle.mac_fragments.specs.Candidates.{candidate_seen}
use Rattle.mac_fragments.specs.Kept.Ranks.{ranked_seen, read_seen}
use Rattle.mac_fragments.proofs.rank.rank_all.Given as goal

abbrev pub invariant-loop-candidate : goal.invariant-loop-candidate
invariant-loop-candidate l =
    map ranked_seen l.all.items ++ map (ranked_among (map (option_map read_seen) l.fragments.items)) (map candidate_seen (drop l.candidate-index l.candidates))
    ≡ map (ranked_among (map (option_map read_seen) l.fragments.items)) (map candidate_seen l.candidates)
