-- The best so far and the best of those that are left decide.
use Rattle.std.proofs.Common.{◌≡◌, drop, map}
use Rattle.std.specs.Prelude.{option_map}
use Rattle.mac_fragments.specs.Choices.{best, better}
use Rattle.mac_fragments.specs.Kept.Ranks.{place_seen, ranked_seen}
use Rattle.mac_fragments.proofs.choice.best.Given as goal

abbrev pub invariant-loop-place : goal.invariant-loop-place
invariant-loop-place l = better (option_map place_seen l.found) (best l.name l.place (map ranked_seen (drop l.place l.all))) ≡ best l.name 0 (map ranked_seen l.all)
