-- The fragment is one of the closure.
use Rattle.std.proofs.Common.{◌≡◌, true, sym, ap, ◌∙◌}
use Rattle.cfm_prepare.specs.Lists.{has}
use Rattle.cfm_prepare.proofs.ListLemmas.{has-contains}
use Rattle.cfm_prepare.proofs.open_connection.OpenConnection.symbol.Goals as goal

pub symbol_at-requires : goal.symbol_at-requires
symbol_at-requires c =
    let order = c.self.inside.closure.order in
    let there : has order c.args.position ≡ true = sym (ap (λ ps. has ps c.args.position) c.order.ensures.order) ∙ (sym c.has.ensures ∙ c.if-not-has.false) in
    rw (← c.self.view_is) (has-contains order c.args.position there)
