use Rattle.std.proofs.Common.{sym, ◌∙◌, arith}
use Rattle.std.proofs.lemmas.Result.{err_from_is_err_and}
use Rattle.pef_pidata.specs.Pattern.{output}
use Rattle.pef_pidata.proofs.Verifying.{length-output, refused_begun, refused_here, refused_next, refused_nowhere}
use Rattle.pef_pidata.proofs.packed.verify.Goals as goal

pub loop-at-init : goal.loop-at-init
loop-at-init c = record { inside = omega arith; left = refused_begun c.args.packed.now c.args.len }

pub returns-in_err-step : goal.returns-in_err-step
returns-in_err-step c =
    let p = err_from_is_err_and c.from_residual.result c.from_residual.ensures.1 in
    rw (p.1, p.2) (refused_here c.args.packed.now c.loop-at.rest.now c.args.len c.loop-at.at _ c.loop-at.invariant.left c.loop-at-test.true (sym c.in_err-step.ensures.step))

pub loop-at-preserved : goal.loop-at-preserved
loop-at-preserved c =
    let step = c.in_ok-step.step in
    let room = c.in_ok-step.ensures.target.1 in
    let len = length-output step.instruction step.bytes.now c.in_ok-step.ensures.bytes ∙ sym c.in_ok-step.ensures.target.0 in
    record {
      inside = omega (arith, room);
      left = refused_next c.args.packed.now c.loop-at.rest.now step.rest.now (output step.instruction step.bytes.now) c.args.len c.loop-at.at step.len c.loop-at.invariant.left c.loop-at-test.true (sym c.in_ok-step.ensures.step) c.in_ok-step.ensures.shorter len (omega (arith, room));
    }

pub returns : goal.returns
returns c = refused_nowhere c.args.packed.now c.loop-at.rest.now c.args.len c.loop-at.at c.loop-at.invariant.left (omega (arith, c.loop-at-test.false))
