-- No place before this one has a pair.
use Rattle.std.proofs.Common.{◌≡◌, drop, map}
use Rattle.cfm_store.specs.Seen.{place_seen}
use Rattle.pef_c.specs.Contexts.NextFragment.{taken_from}
use Rattle.pef_c.proofs.contexts.next_fragment.next_number.Given as goal

abbrev pub invariant-loop-place : goal.invariant-loop-place
invariant-loop-place l = taken_from l.place (map place_seen (drop l.place l.pairs)) ≡ taken_from l.from (drop l.from (map place_seen l.pairs))
