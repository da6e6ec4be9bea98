-- The next fragment of the order has its row.
use Rattle.std.proofs.Common.{◌≡◌, ◌+◌, ◌<◌, ◌∙◌, ℕ, List, length, get_or, refl, sym, ap, subst, arith}
use Rattle.cfm_closure.specs.Kept.Caches.{IsKeptRow, KeepsFirst}
use Rattle.cfm_closure.specs.Kept.Targets.{Ordered}
use Rattle.cfm_closure.proofs.CacheLemmas.{keeps_more_rows, keeps_start, order_below}
use Rattle.cfm_closure.proofs.cache.Cache.keep_rows.Goals as goal

pub loop-i-init : goal.loop-i-init
loop-i-init c =
    let pairs = c.args.bindings.now.pairs in
    let order = c.args.bindings.now.order in
    let rows = c.args.self.now.rows in
    record {
      same = refl;
      views = refl;
      rows = subst (KeepsFirst pairs order 0 rows) (sym c.in_ok-grow.ensures.ok) (keeps_start pairs order rows c.places.result c.requires.few c.places.ensures.len c.requires.right);
    }

pub put-requires : goal.put-requires
put-requires c =
    let order = c.order.ensures.order ∙ ap (λ (o : Ordered). o.order) c.loop-i.invariant.same in
    let under = subst (λ (ps : List ℕ). c.loop-i.i < length ps) (c.order-i-end.ensures.order ∙ sym order) c.loop-i-test.true in
    let long = ap (λ (o : Ordered). length o.pairs) c.loop-i.invariant.same in
    order_below c.loop-i.bindings.pairs c.loop-i.bindings.order c.order.result.now c.loop-i.i (length c.loop-i.self.rows) c.order.ensures.complete c.order.ensures.order under (c.loop-i.invariant.rows.size ∙ sym long)

pub loop-i-preserved : goal.loop-i-preserved
loop-i-preserved c =
    let pairs = c.args.bindings.now.pairs in
    let whole = c.args.bindings.now.order in
    let p = get_or c.order.result.now c.loop-i.i 0 in
    let order = c.order.ensures.order ∙ ap (λ (o : Ordered). o.order) c.loop-i.invariant.same in
    let begun = subst (λ (ps : List ℕ). c.loop-i.i < length ps) c.order-i-end.ensures.order c.loop-i-test.true in
    let under = subst (λ (ps : List ℕ). c.loop-i.i < length ps) (sym order) begun in
    let long = ap (λ (o : Ordered). length o.pairs) c.loop-i.invariant.same in
    let inside = order_below c.loop-i.bindings.pairs c.loop-i.bindings.order c.order.result.now c.loop-i.i (length c.loop-i.self.rows) c.order.ensures.complete c.order.ensures.order under (c.loop-i.invariant.rows.size ∙ sym long) in
    let row = subst (λ (o : Ordered). IsKeptRow o.pairs p c.in_ok-row.row) c.loop-i.invariant.same c.in_ok-row.ensures.row in
    record {
      same = c.in_ok-row.ensures.same ∙ c.loop-i.invariant.same;
      views = c.loop-i.invariant.views;
      rows = subst (KeepsFirst pairs whole (c.loop-i.i + 1) c.args.self.now.rows) (sym c.in_ok-put.ensures.ok)
          (keeps_more_rows pairs whole c.loop-i.i c.args.self.now.rows c.loop-i.self.rows c.loop-i.invariant.rows p c.in_ok-row.row begun (ap (λ (ps : List ℕ). get_or ps c.loop-i.i 0) (sym order)) inside row);
    }

pub returns-clause-rows : goal.returns-clause-rows
returns-clause-rows c =
    let pairs = c.args.bindings.now.pairs in
    let order = c.args.bindings.now.order in
    let end = ap length c.order-i-end.ensures.order in
    let all : c.loop-i.i ≡ length order = omega (arith, end, c.loop-i-test.false, c.loop-i.auto.i-end) in
    subst (λ n. KeepsFirst pairs order n c.args.self.now.rows c.loop-i.self.rows) all c.loop-i.invariant.rows
