-- The fragments so far, and those that are left, are all fragments of the file.
use Rattle.std.proofs.Common.{◌≡◌, ◌++◌, drop, map, option_map}
use Rattle.mac_fragments.specs.Views.{fragment_seen}
use Rattle.pef_gather.specs.Gathered.{found_of}
use Rattle.pef_gather.specs.Seen.{found_seen, given_seen}
use Rattle.pef_gather.proofs.search.add_fragments.Given as goal

abbrev pub invariant-loop-fragment : goal.invariant-loop-fragment
invariant-loop-fragment l =
    map found_seen l.found.items ++ found_of (given_seen l.file) (option_map (λ name. name.now) l.given) (map fragment_seen (drop l.fragment-index l.fragments))
    ≡ map found_seen l.fn.found.items ++ found_of (given_seen l.file) (option_map (λ name. name.now) l.file.name) (map fragment_seen l.fragments)
