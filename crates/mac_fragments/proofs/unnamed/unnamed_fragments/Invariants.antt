-- The fragments so far, and those at the places that are left, are all fragments.
use Rattle.std.proofs.Common.{◌≡◌, ◌++◌, map}
use Rattle.cfm_members.specs.Search.{containers_in}
use Rattle.cfm_members.specs.Views.{places_left}
use Rattle.mac_fragments.specs.Fragments.{unnamed_at}
use Rattle.mac_fragments.specs.Views.{fragments_seen}
use Rattle.mac_fragments.proofs.unnamed.unnamed_fragments.Given as goal

abbrev pub invariant-loop-place : goal.invariant-loop-place
invariant-loop-place l = fragments_seen l.found ++ map (unnamed_at l.contents.bytes.now) (places_left l.place-iterator) ≡ map (unnamed_at l.contents.bytes.now) (containers_in l.bytes 0)
