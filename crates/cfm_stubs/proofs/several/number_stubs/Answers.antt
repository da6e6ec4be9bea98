-- One more stub is there, or the first reason is found.
use Rattle.std.proofs.Common.{◌∙◌, ◌<◌, ◌≤◌, ◌++◌, ◌∷◌, [], length, map, append-nil, sym, ap, subst, arith}
use Rattle.std.specs.List.{AllByRecursion}
use Rattle.pef_loader.specs.Views.{loaded}
use Rattle.pef_words.proofs.Laws.Lists.{all-append}
use Rattle.cfm_stubs.specs.NumberStubs.{IsReadStub}
use Rattle.cfm_stubs.proofs.SeveralLemmas.{after-is, after-small, fails-here, more-refusals, more-stubs, refusals-end, stubs-end}
use Rattle.cfm_stubs.proofs.several.number_stubs.Goals as goal

pub returns-in-Err : goal.returns-in-Err
returns-in-Err c =
    let under : c.loop-name.name-index < length c.args.names.now = omega arith in
    fails-here (map loaded c.args.loaders.now) c.args.step c.loop-name.next c.args.names.now c.loop-name.name-index _ c.in-Err.fault _ under c.in-Err.ensures c.loop-name.invariant.refusals

pub number_after-next-requires : goal.number_after-next-requires
number_after-next-requires c =
    let loaders = map loaded c.args.loaders.now in
    let after = after-is loaders c.args.step c.loop-name.next _ _ c.in-Ok.ensures.0.0 in
    let small = after-small loaders c.args.step c.loop-name.next _ (omega arith) c.loop-name.invariant.small c.in-Ok.ensures.1 in
    omega (arith, after, small)

pub loop-name-preserved : goal.loop-name-preserved
loop-name-preserved c =
    let loaders = map loaded c.args.loaders.now in
    let ns = c.args.names.now in
    let i = c.loop-name.name-index in
    let under : i < length ns = omega arith in
    let is = c.in-Ok.ensures.0.0 in
    let small = after-small loaders c.args.step c.loop-name.next _ (omega arith) c.loop-name.invariant.small c.in-Ok.ensures.1 in
    record {
      all = more-stubs loaders c.args.step c.loop-name.next c.number_after-next.result ns i _ _ c.loop-name.made.items c.push.new.self.items _ under is c.in_ok-push.ensures.items c.number_after-next.ensures c.loop-name.invariant.all;
      each = subst (AllByRecursion (IsReadStub loaders)) (sym c.in_ok-push.ensures.items) (all-append (IsReadStub loaders) c.loop-name.made.items (_ ∷ []) c.loop-name.invariant.each (c.in-Ok.ensures.0.1, tt));
      refusals = more-refusals loaders c.args.step c.loop-name.next c.number_after-next.result ns i _ _ _ under is c.number_after-next.ensures c.in-Ok.ensures.1 c.loop-name.invariant.refusals;
      small = omega (arith, c.number_after-next.ensures, after-is loaders c.args.step c.loop-name.next _ _ is, small);
    }

pub returns : goal.returns
returns c =
    let loaders = map loaded c.args.loaders.now in
    let ns = c.args.names.now in
    let past : length ns ≤ c.loop-name.name-index = omega arith in
    let all = sym (append-nil c.loop-name.made.items) ∙ ap (λ z. c.loop-name.made.items ++ z) (sym (stubs-end loaders c.args.step c.loop-name.next ns c.loop-name.name-index past)) ∙ c.loop-name.invariant.all in
    ((all, c.loop-name.invariant.each), sym c.loop-name.invariant.refusals ∙ refusals-end loaders c.args.step c.loop-name.next ns c.loop-name.name-index past)
