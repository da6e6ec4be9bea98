-- The places from a number on, seen.
use Rattle.std.proofs.Common.{sym, ap}
use Rattle.std.proofs.lemmas.List.{drop-map}
use Rattle.cfm_store.specs.Seen.{place_seen}
use Rattle.pef_c.specs.Contexts.NextFragment.{taken_from}
use Rattle.pef_c.proofs.contexts.next_fragment.next_number.Goals as goal

pub loop-place-init : goal.loop-place-init
loop-place-init c = ap (taken_from c.args.from) (sym (drop-map place_seen c.args.from c.args.pairs.now))
