-- The first that is left is counted, and no other count changes.
use Rattle.std.proofs.Common.{◌≡◌, ◌<◌, ◌+◌, ◌∷◌, ℕ, List, true, drop, length, get_or, ap, subst, sym, ◌∙◌, ◌^◌, arith}
use Rattle.std.proofs.lemmas.List.{at_drop_more, get_or_default, length-set}
use Rattle.cfm_prepare.specs.Lists.{IsOnce, has}
use Rattle.cfm_prepare.proofs.ListLemmas.{has-first, has-later}
use Rattle.cfm_prepare.specs.Kept.Users.{CountsMore, count_at}
use Rattle.cfm_prepare.proofs.UsersLemmas.{more-first, still-to-come}
use Rattle.cfm_prepare.proofs.users.enter.Goals as goal

-- a fact of all that are left is one of the first
first-has : (P : ℕ → Type 0) (order : List ℕ) (i : ℕ) → i < length order → ((p : ℕ) → has (drop i order) p ≡ true → P p) → P (get_or order i 0)
first-has P order i under all = all (get_or order i 0) (at_drop_more (λ (ys : List ℕ). has ys (get_or order i 0)) order i 0 under ∙ has-first (get_or order i 0) (drop (i + 1) order))

-- and of the others
later-has : (order : List ℕ) (i p : ℕ) → i < length order → has (drop (i + 1) order) p ≡ true → has (drop i order) p ≡ true
later-has order i p under there = at_drop_more (λ (ys : List ℕ). has ys p) order i 0 under ∙ has-later (get_or order i 0) (drop (i + 1) order) p there

pub index_mut-requires : goal.index_mut-requires
index_mut-requires c =
    let at = c.loop-position in
    let here = first-has (λ p. p < length at.users.items) c.args.order.now at.position-index c.loop-position-test.true at.invariant.inside in
    omega (arith, here, at.users.ok.0)

pub overflow_add-index_mut : goal.overflow_add-index_mut
overflow_add-index_mut c =
    let at = c.loop-position in
    let q = get_or c.args.order.now at.position-index 0 in
    let under : q < length at.users.items = first-has (λ p. p < length at.users.items) c.args.order.now at.position-index c.loop-position-test.true at.invariant.inside in
    let is : c.index_mut.result.now ≡ count_at at.users.items q = c.index_mut.ensures.value ∙ get_or_default at.users.items q _ 0 under in
    let few = first-has (λ p. count_at at.users.items p < 2 ^ 63) c.args.order.now at.position-index c.loop-position-test.true at.invariant.few in
    omega (arith, is, few)

pub loop-position-preserved : goal.loop-position-preserved
loop-position-preserved c =
    let at = c.loop-position in
    let order = c.args.order.now in
    let q = get_or order at.position-index 0 in
    let qs = drop (at.position-index + 1) order in
    let v = c.index_mut.result.now + 1 in
    let under : q < length at.users.items = first-has (λ p. p < length at.users.items) order at.position-index c.loop-position-test.true at.invariant.inside in
    let is : c.index_mut.result.now ≡ count_at at.users.items q = c.index_mut.ensures.value ∙ get_or_default at.users.items q _ 0 under in
    let e : drop at.position-index order ≡ q ∷ qs = at_drop_more (λ (ys : List ℕ). ys) order at.position-index 0 c.loop-position-test.true in
    let once = subst IsOnce e at.invariant.once in
    record {
      once = once.1;
      inside = λ p there. omega (arith, at.invariant.inside p (later-has order at.position-index p c.loop-position-test.true there), length-set at.users.items q v);
      few = λ p there. omega (arith, at.invariant.few p (later-has order at.position-index p c.loop-position-test.true there), still-to-come q qs at.users.items v p once.0 there);
      rest = λ after more.
          let P : List ℕ → Type 0 = λ ps. CountsMore ps at.users.items after in
          at.invariant.rest after (subst P (sym e) (more-first q qs at.users.items after v under (ap (λ n. n + 1) is) once.0 more));
    }
