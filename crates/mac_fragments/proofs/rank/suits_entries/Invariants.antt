-- The entries left decide.
use Rattle.std.proofs.Common.{◌≡◌, ◌-◌}
use Rattle.pef_loader.specs.Views.{loaded}
use Rattle.mac_fragments.specs.Choices.{suits_from}
use Rattle.mac_fragments.specs.Kept.Ranks.{read_seen}
use Rattle.mac_fragments.proofs.rank.suits_entries.Given as goal

abbrev pub invariant-loop-k : goal.invariant-loop-k
invariant-loop-k l =
    suits_from (read_seen l.fragment) (loaded l.loader) l.k ((loaded l.loader).header.library_count - l.k)
    ≡ suits_from (read_seen l.fragment) (loaded l.loader) 0 (loaded l.loader).header.library_count
