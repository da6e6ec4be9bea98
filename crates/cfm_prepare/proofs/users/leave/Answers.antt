-- The first that is left is counted, and no other count changes.
use Rattle.std.proofs.Common.{◌≡◌, ◌<◌, ◌≤◌, ◌+◌, ◌-◌, ◌∷◌, ℕ, List, true, drop, length, get_or, ap, subst, sym, ◌∙◌, arith}
use Rattle.std.proofs.lemmas.List.{at_drop_more, drop_all, get_or_default}
use Rattle.cfm_prepare.specs.Lists.{IsOnce, has}
use Rattle.cfm_prepare.proofs.ListLemmas.{has-first, has-later}
use Rattle.cfm_prepare.specs.Kept.Users.{CountsMore, count_at}
use Rattle.cfm_prepare.proofs.UsersLemmas.{less-first, none-more, still-to-come, under-length}
use Rattle.cfm_prepare.proofs.users.leave.Goals as goal

-- the first that is left has a user
first-used : (order users : List ℕ) (i : ℕ) → i < length order → ((p : ℕ) → has (drop i order) p ≡ true → 0 < count_at users p) → 0 < count_at users (get_or order i 0)
first-used order users i under all = all (get_or order i 0) (at_drop_more (λ (ys : List ℕ). has ys (get_or order i 0)) order i 0 under ∙ has-first (get_or order i 0) (drop (i + 1) order))

pub index_mut-requires : goal.index_mut-requires
index_mut-requires c =
    let at = c.loop-position in
    let here = under-length at.users.items (get_or c.args.order.now at.position-index 0) (first-used c.args.order.now at.users.items at.position-index c.loop-position-test.true at.invariant.used) in
    omega (arith, here, at.users.ok.0)

pub overflow_sub-index_mut : goal.overflow_sub-index_mut
overflow_sub-index_mut c =
    let at = c.loop-position in
    let q = get_or c.args.order.now at.position-index 0 in
    let some = first-used c.args.order.now at.users.items at.position-index c.loop-position-test.true at.invariant.used in
    let is : c.index_mut.result.now ≡ count_at at.users.items q = c.index_mut.ensures.value ∙ get_or_default at.users.items q _ 0 (under-length at.users.items q some) in
    omega (arith, is, some)

pub loop-position-preserved : goal.loop-position-preserved
loop-position-preserved c =
    let at = c.loop-position in
    let order = c.args.order.now in
    let q = get_or order at.position-index 0 in
    let qs = drop (at.position-index + 1) order in
    let v = c.index_mut.result.now - 1 in
    let some : 0 < count_at at.users.items q = first-used order at.users.items at.position-index c.loop-position-test.true at.invariant.used in
    let under : q < length at.users.items = under-length at.users.items q some in
    let is : c.index_mut.result.now ≡ count_at at.users.items q = c.index_mut.ensures.value ∙ get_or_default at.users.items q _ 0 under in
    let less : count_at at.users.items q ≡ v + 1 = omega (arith, is, some) in
    let e : drop at.position-index order ≡ q ∷ qs = at_drop_more (λ (ys : List ℕ). ys) order at.position-index 0 c.loop-position-test.true in
    let once = subst IsOnce e at.invariant.once in
    let later : (p : ℕ) → has qs p ≡ true → has (drop at.position-index order) p ≡ true = λ p there. ap (λ ys. has ys p) e ∙ has-later q qs p there in
    record {
      once = once.1;
      used = λ p there. omega (arith, at.invariant.used p (later p there), still-to-come q qs at.users.items v p once.0 there);
      rest = λ before more.
          let P : List ℕ → Type 0 = λ ps. CountsMore ps before at.users.items in
          at.invariant.rest before (subst P (sym e) (less-first q qs before at.users.items v under less once.0 more));
    }

pub returns : goal.returns
returns c =
    let at = c.loop-position in
    let past : length c.args.order.now ≤ at.position-index = omega (arith, c.loop-position-test.false) in
    let P : List ℕ → Type 0 = λ ps. CountsMore ps at.users.items at.users.items in
    at.invariant.rest at.users.items (subst P (sym (drop_all at.position-index c.args.order.now past)) (none-more at.users.items))
