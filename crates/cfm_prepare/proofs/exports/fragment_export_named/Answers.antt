-- The fragment is one of the closure.
use Rattle.std.proofs.Common.{◌≡◌, true, sym, ap, ◌∙◌}
use Rattle.cfm_prepare.specs.Lists.{has}
use Rattle.cfm_prepare.proofs.ListLemmas.{has-contains}
use Rattle.cfm_prepare.proofs.exports.fragment_export_named.Goals as goal

pub placed_export_named-requires : goal.placed_export_named-requires
placed_export_named-requires c =
    let order = c.closure-closure.result.now.order in
    let there : has order c.args.position ≡ true = sym (ap (λ ps. has ps c.args.position) c.order.ensures.order) ∙ (sym c.has.ensures ∙ c.if-not-has.false) in
    has-contains order c.args.position there
