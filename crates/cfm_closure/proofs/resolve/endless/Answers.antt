-- The names and the place are those of the fragment and of its import.
use Rattle.std.proofs.Common.{Err, ap, sym, ◌∙◌}
use Rattle.pef_format.specs.Symbols.{import_seen}
use Rattle.cfm_closure.specs.Faults.{reexport_loop}
use Rattle.cfm_closure.specs.Views.{fragment_seen}
use Rattle.cfm_closure.proofs.HopFacts.{endless-names}
use Rattle.cfm_closure.proofs.resolve.endless.Goals as goal

pub returns : goal.returns
returns c =
    ap Err (endless-names c.args.bindings.now.pairs c.args.p c.args.j (fragment_seen c.fragment-fragment.result.now) (import_seen c.in-Some.symbol) c.fragment-fragment.ensures (sym c.in-Some.ensures.value))
    ∙ ap (λ place. Err (reexport_loop (fragment_seen c.fragment-fragment.result.now).name (import_seen c.in-Some.symbol).name place)) (sym c.import_place.ensures)
