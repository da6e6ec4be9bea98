-- The connection is removed by its number, and the fragments that only it needed are released.
use Rattle.std.proofs.Common.{◌≡◌, ◌≤◌, ℕ, List, true, Some, length, sym, ap, subst, ◌∙◌, refl, arith}
use Rattle.cfm_closure.specs.Closures.{Closed}
use Rattle.cfm_prepare.specs.Lists.{has}
use Rattle.cfm_prepare.specs.Fragments.{all_given_back, is_present}
use Rattle.cfm_prepare.specs.Contexts.{Open, open_of, open_without}
use Rattle.cfm_prepare.specs.Kept.Users.{AreUsedBut, CountsMore, CountUsers, used_of}
use Rattle.cfm_prepare.proofs.ConnectionLemmas.{fewer-without}
use Rattle.cfm_prepare.proofs.UsersLemmas.{left-count, still-used, unused-unneeded, used-but, used-needed, used-of}
use Rattle.cfm_prepare.proofs.context.Context.close.Goals as goal

pub leave-requires-clause-used : goal.leave-requires-clause-used
leave-requires-clause-used c = λ p there.
    let order : c.order-order.result.now ≡ c.in-Some.closed.closed.order = c.order-order.ensures.order ∙ ap (λ (k : Closed). k.order) c.closure.ensures.closure in
    used-of c.self.inside.connections.items c.args.connection.0 c.in-Some.closed c.self.inside.users.items p (sym c.in-Some.ensures.taken) c.self.invariant.counted (ap (λ ps. has ps p) (sym order) ∙ there)

-- the counts are those of the connections that are left
counts-left : (os now : List Open) (number : ℕ) (o : Open) (order before after : List ℕ) → Some o ≡ open_of os number → order ≡ o.closed.order → now ≡ open_without os number → CountUsers before os → CountsMore order after before → CountUsers after now
counts-left os now number o order before after taken order_is now_is counts more =
    let P : List ℕ → Type 0 = λ ps. CountsMore ps after before in
    subst (CountUsers after) (sym now_is) (left-count os number o before after (sym taken) counts (subst P order_is more))

pub release-requires : goal.release-requires
release-requires c =
    let P : List ℕ → Type 0 = λ users. AreUsedBut users c.self.inside.fragments.present c.order-order.result.now in
    subst P (sym c.deref.ensures.value) (used-but c.self.inside.users.items c.leave.new.users.items c.self.inside.fragments.present c.order-order.result.now c.leave.ensures c.self.invariant.used)

pub returns-clause-closed : goal.returns-clause-closed
returns-clause-closed c =
    let os = c.self.inside.connections.items in
    let number = c.args.connection.0 in
    let order : c.order-order.result.now ≡ c.in-Some.closed.closed.order = c.order-order.ensures.order ∙ ap (λ (k : Closed). k.order) c.closure.ensures.closure in
    let left = counts-left os c.remove.new.self.items number c.in-Some.closed c.order-order.result.now c.self.inside.users.items c.leave.new.users.items c.in-Some.ensures.taken order c.in-Some.ensures.items c.self.invariant.counted c.leave.ensures in
    let P : List ℕ → Type 0 = λ users. CountUsers users c.remove.new.self.items in
    let counts = subst P (sym c.deref.ensures.value) left in
    rw (← c.self.view_is) (record {
      closed = c.in-Some.closed;
      was = sym c.in-Some.ensures.taken;
      bounds = refl;
      pairs = refl;
      given = c.in-Some.ensures.given;
      connections = c.in-Some.ensures.items;
      present = c.release.ensures.present ∙ used-needed c.deref.result.now c.remove.new.self.items c.self.inside.fragments.present counts;
      memory = c.release.ensures.memory ∙ ap (all_given_back c.self.inside.fragments.memory) (unused-unneeded c.deref.result.now c.remove.new.self.items c.self.inside.fragments.present counts);
    })

pub invariant_of-self-2 : goal.invariant_of-self-2
invariant_of-self-2 c =
    let os = c.self.inside.connections.items in
    let number = c.args.connection.0 in
    let given = c.self.inside.connections.given in
    let order : c.order-order.result.now ≡ c.in-Some.closed.closed.order = c.order-order.ensures.order ∙ ap (λ (k : Closed). k.order) c.closure.ensures.closure in
    let stays : (p : ℕ) → is_present c.release.new.fragments.present p ≡ true → is_present (used_of c.leave.new.users.items c.self.inside.fragments.present) p ≡ true =
    λ p there. ap (λ fs. is_present fs p) (sym (c.release.ensures.present ∙ ap (λ users. used_of users c.self.inside.fragments.present) c.deref.ensures.value)) ∙ there in
    let fewer = fewer-without os number in
    let many : length (open_without os number) ≤ given = omega (arith, fewer, c.self.invariant.many) in
    record {
      few = omega (arith, c.in-Some.ensures.given, c.self.invariant.few);
      small = c.self.invariant.small;
      many = omega (arith, many, ap length c.in-Some.ensures.items, c.in-Some.ensures.given);
      counted = counts-left os c.remove.new.self.items number c.in-Some.closed c.order-order.result.now c.self.inside.users.items c.leave.new.users.items c.in-Some.ensures.taken order c.in-Some.ensures.items c.self.invariant.counted c.leave.ensures;
      used = λ p there. still-used c.leave.new.users.items c.self.inside.fragments.present p (stays p there);
    }
