-- The places so far, and those that are left, are all places.
use Rattle.std.proofs.Common.{◌≡◌, ◌∷◌, ◌++◌, drop, map}
use Rattle.mac_fragments.specs.Choices.{meant_from}
use Rattle.mac_fragments.specs.Kept.Ranks.{ranked_seen}
use Rattle.mac_fragments.proofs.choice.chosen.Given as goal

abbrev pub invariant-loop-place : goal.invariant-loop-place
invariant-loop-place l =
    l.places.items ++ meant_from (map ranked_seen l.ranked.items) l.name l.place (map ranked_seen (drop l.place l.ranked.items))
    ≡ l.root ∷ meant_from (map ranked_seen l.ranked.items) l.name 0 (map ranked_seen l.ranked.items)
