-- The import reached has the target of the import from which the hops began.
use Rattle.std.proofs.Common.{◌≡◌, ◌+◌, Ok, Err, [], ◌∷◌, refl, sym, subst, ◌∙◌, arith}
use Rattle.std.specs.List.{AllByRecursion}
use Rattle.std.proofs.lemmas.Result.{err_from_is_err_and}
use Rattle.pef_words.proofs.Laws.Lists.{all-append}
use Rattle.cfm_closure.proofs.PathLemmas.{Fails-also}
use Rattle.cfm_closure.specs.Targets.{hop, target_of}
use Rattle.cfm_closure.specs.Kept.Resolutions.{meant}
use Rattle.cfm_closure.specs.Kept.Targets.{IsOnWay, led_to}
use Rattle.cfm_closure.proofs.LeadLemmas.{hops-more, hops-none, led-endless, led-ends, led-refused, on_way-more, target-endless, target-led}
use Rattle.cfm_closure.proofs.resolve.Resolver.follow.Goals as goal

pub loop-hop-init : goal.loop-hop-init
loop-hop-init c =
    let pairs = c.args.bindings.now.pairs in
    let P = IsOnWay pairs c.args.bindings.now.order (led_to pairs (c.args.p, c.args.j)) in
    record {
      resolver = c.requires.resolver;
      at = record { place = c.requires.place; import = c.requires.import; leads = refl };
      way = subst (AllByRecursion P) (sym c.requires.way) tt;
      far = hops-none pairs (c.args.p, c.args.j);
    }

pub returns-in-Some-clause-answer : goal.returns-in-Some-clause-answer
returns-in-Some-clause-answer c =
    let pairs = c.args.bindings.now.pairs in
    target-led pairs c.args.p c.args.j (Ok (meant c.in-Some.resolution)) (sym c.loop-hop.invariant.at.leads ∙ c.in-Some.ensures.right)

pub returns-in_err-resolution-clause-answer : goal.returns-in_err-resolution-clause-answer
returns-in_err-resolution-clause-answer c =
    let pairs = c.args.bindings.now.pairs in
    let at = c.loop-hop.at in
    let p = err_from_is_err_and c.from_residual.result c.from_residual.ensures.1 in
    rw (p.1, p.2) (Fails-also c.in_err-resolution.field-0.0 (hop pairs at.0 at.1) (target_of pairs c.args.p c.args.j)
    (λ r refused. target-led pairs c.args.p c.args.j (Err r) (sym c.loop-hop.invariant.at.leads ∙ led-refused pairs at.0 at.1 r refused))
    c.in_err-resolution.ensures.answer)

pub returns-in-Ends-clause-answer : goal.returns-in-Ends-clause-answer
returns-in-Ends-clause-answer c =
    let pairs = c.args.bindings.now.pairs in
    let at = c.loop-hop.at in
    let is = rw c.in-Ends.is at c.in_ok-resolution.ensures.answer in
    target-led pairs c.args.p c.args.j (Ok (meant c.in-Ends.resolution)) (sym c.loop-hop.invariant.at.leads ∙ led-ends pairs at.0 at.1 (meant c.in-Ends.resolution) is)

pub loop-hop-preserved : goal.loop-hop-preserved
loop-hop-preserved c =
    let pairs = c.args.bindings.now.pairs in
    let order = c.args.bindings.now.order in
    let at = c.loop-hop.at in
    let q = c.in-Through.fragment in
    let k = c.in-Through.import in
    let is = rw c.in-Through.is at c.in_ok-resolution.ensures.answer in
    let inside = rw c.in-Through.is at c.in_ok-resolution.ensures.inside in
    let end = led_to pairs (c.args.p, c.args.j) in
    let P = IsOnWay pairs order end in
    let here = on_way-more pairs order end at.0 at.1 q is.0 k c.loop-hop.invariant.at is.1 inside.0 inside.1 in
    record {
      resolver = record { exports = c.loop-hop.invariant.resolver.exports; few = c.loop-hop.invariant.resolver.few; symbols = c.in_ok-resolution.ensures.symbols; names = c.in_ok-resolution.ensures.names };
      at = here;
      way = subst (AllByRecursion P) (sym c.in_ok-push.ensures.items) (all-append P c.loop-hop.way.items ((q, k) ∷ []) c.loop-hop.invariant.way (here, tt));
      far = hops-more pairs c.loop-hop._hop (c.args.p, c.args.j) at.0 at.1 q is.0 k c.loop-hop.invariant.far is.1;
    }

pub returns-clause-answer : goal.returns-clause-answer
returns-clause-answer c =
    let pairs = c.args.bindings.now.pairs in
    let all : c.loop-hop._hop ≡ c.args.self.now.exports + 1 = omega arith in
    let none = led-endless pairs c.args.bindings.now.order c.args.p c.args.j c.args.self.now.exports c.loop-hop._hop c.loop-hop.at c.requires.resolver.symbols.complete c.requires.place c.requires.resolver.exports all c.loop-hop.invariant.far in
    Fails-also c.endless.result _ (target_of pairs c.args.p c.args.j) (λ r refused. target-endless pairs c.args.p c.args.j none ∙ refused) c.endless.ensures
