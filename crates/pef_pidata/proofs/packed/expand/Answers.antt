use Rattle.std.proofs.Common.{◌≡◌, ◌+◌, ◌-◌, ◌++◌, length, take, sym, ap, ◌∙◌, arith}
use Rattle.std.proofs.lemmas.Slice.{take-put_mid}
use Rattle.std.proofs.lemmas.Result.{err_from_is_err_and}
use borrow.Rule.Slice.PartMut.{put_mid}
use Rattle.pef_pidata.specs.Pattern.{output, pattern_text}
use Rattle.pef_pidata.proofs.Steps.{left_begun, left_next, left_refused, part_len, written_len}
use Rattle.pef_pidata.proofs.packed.expand.Goals as goal

pub loop-at-init : goal.loop-at-init
loop-at-init c = record { inside = omega arith; left = left_begun c.args.packed.now c.args.out.now }

pub returns-in_err-step : goal.returns-in_err-step
returns-in_err-step c =
    let p = err_from_is_err_and c.from_residual.result c.from_residual.ensures.1 in
    let refused = left_refused c.args.packed.now c.loop-at.out c.loop-at.rest.now c.loop-at.at _ c.loop-at.invariant.left c.loop-at-test.true (sym c.in_err-step.ensures.step) in
    rw (p.1, p.2) (sym refused ∙ ap (pattern_text c.args.packed.now) c.loop-at.auto.out)

pub loop-at-preserved : goal.loop-at-preserved
loop-at-preserved c =
    let room = c.in_ok-step.ensures.target.1 in
    let under = c.loop-at-test.true in
    let piece : length c.write.new.target ≡ c.in_ok-step.step.len = c.write.auto.target ∙ part_len c.loop-at.out c.loop-at.at _ c.in_ok-step.step.len (omega (arith, room)) (omega arith) in
    let same : length (put_mid c.loop-at.at (c.loop-at.at + c.in_ok-step.step.len - c.loop-at.at) c.loop-at.out c.write.new.target) ≡ length c.loop-at.out = written_len c.loop-at.out c.write.new.target c.loop-at.at _ c.in_ok-step.step.len (omega (arith, room)) (omega arith) piece in
    record {
      inside = omega (arith, same, room);
      left = left_next c.args.packed.now c.loop-at.out _ c.loop-at.rest.now c.in_ok-step.step.rest.now (output c.in_ok-step.step.instruction c.in_ok-step.step.bytes.now) c.loop-at.at c.in_ok-step.step.len
          c.loop-at.invariant.left c.loop-at-test.true (sym c.in_ok-step.ensures.step) c.in_ok-step.ensures.shorter same (sym piece ∙ ap length c.write.ensures)
          (take-put_mid c.loop-at.at _ c.loop-at.out c.write.new.target _ (omega (arith, piece)) c.loop-at.invariant.inside ∙ ap (λ xs. take c.loop-at.at c.loop-at.out ++ xs) c.write.ensures);
    }
