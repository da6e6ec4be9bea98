-- The candidates that were read, and those that are left, are all candidates.
use Rattle.std.proofs.Common.{◌≡◌, ◌++◌, drop, map}
use Rattle.std.specs.Prelude.{option_map}
use Rattle.mac_fragments.specs.Choices.{fragment_of}
use Rattle.mac_fragments.specs.Candidates.{candidate_seen}
use Rattle.mac_fragments.specs.Kept.Ranks.{read_seen}
use Rattle.mac_fragments.proofs.rank.read_all.Given as goal

abbrev pub invariant-loop-candidate : goal.invariant-loop-candidate
invariant-loop-candidate l = map (option_map read_seen) l.fragments.items ++ map fragment_of (map candidate_seen (drop l.candidate-index l.candidates)) ≡ map fragment_of (map candidate_seen l.candidates)
