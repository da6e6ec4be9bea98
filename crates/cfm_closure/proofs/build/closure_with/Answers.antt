-- What was found is a closure of the store.
use Rattle.std.proofs.Common.{◌≡◌, List, None, Ok, refl, sym, subst}
use Rattle.cfm_closure.specs.Closures.{first_refused}
use Rattle.cfm_closure.specs.Initialization.{init_order_of}
use Rattle.cfm_closure.specs.Kept.Caches.{IsOrderOfClosure}
use Rattle.cfm_closure.specs.Kept.Targets.{Ordered}
use Rattle.cfm_store.specs.Stores.{Pair}
use Rattle.cfm_closure.proofs.ClosedLemmas.{closed-made}
use Rattle.cfm_closure.proofs.build.closure_with.Goals as goal

pub keep_targets-requires-clause-closure : goal.keep_targets-requires-clause-closure
keep_targets-requires-clause-closure c =
    let order = c.in_ok-bindings.bindings.order in
    let pairs = c.in_ok-bindings.ensures.pairs in
    let same = c.in_ok-resolve_targets.ensures.keeps.same in
    let passes = subst (λ (ps : List Pair). first_refused ps order ≡ None) pairs c.in_ok-resolve_targets.ensures.answer in
    let taken = subst (λ (o : Ordered). init_order_of o.pairs o.order ≡ Ok c.in_ok-init_order.init_order.items) same c.in_ok-init_order.ensures in
    let init = subst (λ (ps : List Pair). init_order_of ps order ≡ Ok c.in_ok-init_order.init_order.items) pairs taken in
    let found : IsOrderOfClosure c.args.store.now order = record {
      root = c.args.root;
      inside = c.requires.root;
      closure = record { pairs = c.args.store.now; order = order; init_order = c.in_ok-init_order.init_order.items };
      is = closed-made c.args.store.now c.args.root order c.in_ok-init_order.init_order.items c.in_ok-bindings.ensures.answer passes init;
      same = refl;
    } in
    subst (λ (o : Ordered). IsOrderOfClosure o.pairs o.order) (sym same) (subst (λ (ps : List Pair). IsOrderOfClosure ps order) (sym pairs) found)
