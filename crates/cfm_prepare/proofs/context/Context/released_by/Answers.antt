-- A fragment of a connection's closure has no other user exactly if no other connection needs it.
use Rattle.std.proofs.Common.{◌≡◌, Some, option_map, reverse, sym, ap, ap₂, ◌∙◌}
use Rattle.cfm_closure.specs.Closures.{Closed}
use Rattle.cfm_prepare.specs.Contexts.{Open, open_of, open_without}
use Rattle.cfm_prepare.specs.Kept.Users.{unshared_among}
use Rattle.cfm_prepare.specs.Readers.{needless_among}
use Rattle.cfm_prepare.proofs.UsersLemmas.{unshared-needless}
use Rattle.cfm_prepare.proofs.context.Context.released_by.Goals as goal

pub returns : goal.returns
returns c =
    let os = c.self.inside.connections.items in
    let number = c.args.connection.0 in
    let o = c.in-Some.connected.now in
    let users = c.self.inside.users.items in
    let found : open_of os number ≡ Some o = sym c.in-Some.ensures in
    let order = c.init_order-order.ensures ∙ ap (λ (k : Closed). k.init_order) c.closure.ensures.closure in
    let unshared : c.in_ok-released.released.items ≡ unshared_among users o.closed.init_order = c.in_ok-released.ensures ∙ ap₂ unshared_among c.deref.ensures.value order in
    let needless = unshared-needless os number o users o.closed.init_order found c.self.invariant.counted c.closure.ensures.init in
    let released : c.reverse.new.self.items ≡ reverse (needless_among (open_without os number) o.closed.init_order) = c.reverse.ensures.items ∙ ap reverse (unshared ∙ needless) in
    rw (← c.self.view_is) (ap Some released ∙ sym (ap (option_map (λ (x : Open). reverse (needless_among (open_without os number) x.closed.init_order))) found))
