-- The fragments left decide.
use Rattle.std.proofs.Common.{◌≡◌, drop, map}
use Rattle.std.specs.List.{list_all}
use Rattle.std.specs.Prelude.{option_map}
use Rattle.mac_fragments.specs.Choices.{suits}
use Rattle.mac_fragments.specs.Kept.Ranks.{read_seen}
use Rattle.mac_fragments.proofs.rank.suits_all.Given as goal

abbrev pub invariant-loop-other : goal.invariant-loop-other
invariant-loop-other l = list_all (suits (read_seen l.fragment)) (map (option_map read_seen) (drop l.other-index l.fragments)) ≡ list_all (suits (read_seen l.fragment)) (map (option_map read_seen) l.fragments)
