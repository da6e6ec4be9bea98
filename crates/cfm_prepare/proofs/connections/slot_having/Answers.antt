-- The fragment is one of the closure.
use Rattle.std.proofs.Common.{◌≡◌, true, sym, ap, ◌∙◌}
use Rattle.cfm_closure.specs.Closures.{Closed}
use Rattle.cfm_prepare.specs.Lists.{has}
use Rattle.cfm_prepare.proofs.ListLemmas.{has-contains}
use Rattle.cfm_prepare.proofs.connections.slot_having.Goals as goal

pub returns-clause-has : goal.returns-clause-has
returns-clause-has c =
    let order = c.in_ok-connected.connected.now.closed.order in
    let same = c.order.ensures.order ∙ ap (λ (x : Closed). x.order) c.closure.ensures.closure in
    let there : has order c.args.position ≡ true = sym (ap (λ ps. has ps c.args.position) same) ∙ (sym c.has.ensures ∙ c.if-not-has.false) in
    has-contains order c.args.position there
