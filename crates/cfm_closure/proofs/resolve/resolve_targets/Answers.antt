-- The next fragment with an import that is refused has the first.
use Rattle.std.proofs.Common.{◌≡◌, ℕ, ◌<◌, ◌≤◌, List, length, None, get_or, sym, ap, subst, ◌∙◌, arith}
use Rattle.cfm_closure.specs.Closures.{imports_refusal}
use Rattle.cfm_closure.specs.Kept.Resolvers.{IsResolver}
use Rattle.cfm_closure.specs.Kept.Targets.{AreResolved, IsResolved, Ordered}
use Rattle.cfm_closure.proofs.KnownLemmas.{first_refused-next, keeps-more, resolved-all, resolved-more}
use Rattle.cfm_closure.proofs.resolve.resolve_targets.Goals as goal

pub loop-i-preserved : goal.loop-i-preserved
loop-i-preserved c =
    let pairs = c.args.bindings.now.pairs in
    let order = c.args.bindings.now.order in
    let i = c.loop-i.i in
    let same = c.loop-i.invariant.keeps.same in
    let rows = c.resolve_imports.new.bindings.rows in
    let under = subst (λ (ps : List ℕ). i < length ps) c.order-i-end.ensures.order c.loop-i-test.true in
    let places = c.order.ensures.order ∙ ap (λ (o : Ordered). o.order) same in
    let P : Ordered → List ℕ → Type 0 = λ o ps. imports_refusal o.pairs (get_or ps i 0) ≡ None in
    let Q : Ordered → List ℕ → Type 0 = λ o ps. IsResolved o.pairs rows (get_or ps i 0) in
    let passes = subst (P c.args.bindings.now) places (subst (λ o. P o c.order.result.now) same c.in_ok-resolve_imports.ensures.answer) in
    let known = subst (Q c.args.bindings.now) places (subst (λ o. Q o c.order.result.now) same c.in_ok-resolve_imports.ensures.known) in
    record {
      resolver = subst (λ (o : Ordered). IsResolver o.pairs o.order c.resolve_imports.new.self) same c.in_ok-resolve_imports.ensures.resolver;
      keeps = keeps-more c.args.bindings.now c.loop-i.bindings c.resolve_imports.new.bindings c.loop-i.invariant.keeps c.in_ok-resolve_imports.ensures.keeps;
      resolved = resolved-more pairs order c.loop-i.bindings.rows rows i c.in_ok-resolve_imports.ensures.keeps.known c.loop-i.invariant.resolved known;
      rest = first_refused-next pairs order i under passes ∙ c.loop-i.invariant.rest;
    }

pub returns-clause-resolved : goal.returns-clause-resolved
returns-clause-resolved c =
    let order = c.args.bindings.now.order in
    let all = subst (λ (ps : List ℕ). length ps ≤ c.loop-i.i) c.order-i-end.ensures.order c.loop-i-test.false in
    subst AreResolved (sym c.loop-i.invariant.keeps.same)
    (resolved-all c.args.bindings.now.pairs order c.loop-i.bindings.rows (λ k under. c.loop-i.invariant.resolved k (omega arith)))
