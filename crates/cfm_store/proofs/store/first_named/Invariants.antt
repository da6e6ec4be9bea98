-- No place before this one has the name.
use Rattle.std.proofs.Common.{◌≡◌, drop, map}
use Rattle.cfm_store.specs.Seen.{place_seen}
use Rattle.cfm_store.specs.Stores.{place_from}
use Rattle.cfm_store.proofs.store.first_named.Given as goal

abbrev pub invariant-loop-place : goal.invariant-loop-place
invariant-loop-place l = place_from l.place (map place_seen (drop l.place l.pairs)) l.name ≡ place_from 0 (map place_seen l.pairs) l.name
