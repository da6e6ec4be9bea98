-- Each turn is past one cut.
use Rattle.std.proofs.Common.{◌≡◌, ◌-◌, suc, refl, sym, ap, ◌∙◌, arith}
use Rattle.pef_lines.proofs.Laws.{cut_at-shorter}
use Rattle.pef_script.specs.Text.Places.{after_cuts}
use Rattle.pef_script.proofs.TextProofs.PlaceLemmas.{after_cuts-last, after_cuts-next, after_cuts-none}
use Rattle.pef_script.proofs.text.places.after_cuts.Goals as goal

pub cuts-init : goal.cuts-init
cuts-init c = record { same = refl; shorter = omega arith }

pub cuts-preserved : goal.cuts-preserved
cuts-preserved c =
    let step = after_cuts-next c.args.byte (c.cuts.left - 1) c.cuts.rest.now c.in-Some.field-0-0.now c.in-Some.behind.now (sym c.in-Some.ensures) in
    let shorter = cut_at-shorter c.args.byte c.cuts.rest.now c.in-Some.field-0-0.now c.in-Some.behind.now (sym c.in-Some.ensures) in
    let some : suc (c.cuts.left - 1) ≡ c.cuts.left = omega arith in
    record {
      same = sym step ∙ ap (λ n. after_cuts c.args.byte n c.cuts.rest.now) some ∙ c.cuts.invariant.same;
      shorter = omega (arith, shorter);
    }

pub returns-in-None-clause-cut : goal.returns-in-None-clause-cut
returns-in-None-clause-cut c =
    let some : suc (c.cuts.left - 1) ≡ c.cuts.left = omega arith in
    sym (after_cuts-last c.args.byte (c.cuts.left - 1) c.cuts.rest.now (sym c.in-None.ensures)) ∙ ap (λ n. after_cuts c.args.byte n c.cuts.rest.now) some ∙ c.cuts.invariant.same

pub returns-clause-cut : goal.returns-clause-cut
returns-clause-cut c =
    let none : c.cuts.left ≡ 0 = omega arith in
    sym (after_cuts-none c.args.byte c.cuts.rest.now) ∙ ap (λ n. after_cuts c.args.byte n c.cuts.rest.now) (sym none) ∙ c.cuts.invariant.same
