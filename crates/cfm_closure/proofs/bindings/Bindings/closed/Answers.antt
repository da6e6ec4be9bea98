-- A fragment of the order is in its place.
use Rattle.std.proofs.Common.{◌≡◌, ◌∙◌, Some, ap, map, sym, subst}
use Rattle.cfm_store.specs.Seen.{place_seen}
use Rattle.cfm_closure.specs.Kept.Paths.{IsClosed, IsWalked}
use Rattle.cfm_closure.specs.Kept.Rows.{row_of}
use Rattle.cfm_closure.proofs.OrderFacts.{all-contains}
use Rattle.cfm_closure.proofs.RowLemmas.{row-at}
use Rattle.cfm_closure.proofs.bindings.Bindings.closed.Goals as goal

pub returns-clause-closed : goal.returns-clause-closed
returns-clause-closed c =
    let pairs = map place_seen c.self.inside.pairs.items in
    let there = rw (← c.self.view_is) at c.requires in
    let walked = all-contains (IsWalked pairs c.self.inside.fragments) c.self.inside.order.items c.args.p c.self.invariant.walked there in
    let both : Some c.in-Some.fragment.now ≡ Some walked.fragment = c.in-Some.ensures ∙ walked.stands in
    let same : c.in-Some.fragment.now ≡ walked.fragment = cc in
    rw (← c.self.view_is) (subst (IsClosed pairs c.args.p) (sym same) walked.is)

pub returns-clause-targets : goal.returns-clause-targets
returns-clause-targets c = rw (← c.self.view_is) (ap row_of c.in-Some.ensures ∙ sym (row-at c.self.inside.fragments c.args.p))
