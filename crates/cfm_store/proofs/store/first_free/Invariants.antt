-- No place before this one is free.
use Rattle.std.proofs.Common.{◌≡◌, drop, map}
use Rattle.cfm_store.specs.Additions.{free_from}
use Rattle.cfm_store.specs.Seen.{place_seen}
use Rattle.cfm_store.proofs.store.first_free.Given as goal

abbrev pub invariant-loop-place : goal.invariant-loop-place
invariant-loop-place l = free_from l.place (map place_seen (drop l.place l.pairs)) ≡ free_from 0 (map place_seen l.pairs)
