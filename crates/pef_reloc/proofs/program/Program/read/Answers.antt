use Rattle.std.proofs.Common.{◌≡◌, Some, sym, refl, ◌∙◌, arith}
use Rattle.std.proofs.lemmas.Result.{err_from_is_err_and}
use Rattle.pef_reloc.specs.Unrolled.{program_fault}
use Rattle.pef_reloc.proofs.Readings.{counted-end, fault-end, fault-here, fault-none, read-more, read-start}
use Rattle.pef_reloc.proofs.program.Program.read.Goals as goal

pub loop-at-init : goal.loop-at-init
loop-at-init c =
    record {
      inside = omega arith;
      under = omega (arith, c.new-reader.ensures.steps);
      left = read-start _ _ c.new-reader.ensures.marks c.new-reader.ensures.steps;
    }

pub returns-in_err-instr : goal.returns-in_err-instr
returns-in_err-instr c =
    let p = err_from_is_err_and c.from_residual.result c.from_residual.ensures.1 in
    let left = c.loop-at.invariant.left in
    let fault : program_fault c.args.bytes.now ≡ Some c.in_err-instr.field-0.0 = sym left.rest ∙ fault-none _ _ left.before _ _ c.loop-at-test.true (sym c.in_err-instr.ensures.value) in
    rw (p.1, p.2, fault) refl

pub returns-in_err-pass : goal.returns-in_err-pass
returns-in_err-pass c =
    let p = err_from_is_err_and c.from_residual-in_err-pass.result c.from_residual-in_err-pass.ensures.1 in
    let left = c.loop-at.invariant.left in
    let passes = c.in_err-pass.ensures left.before left.stands left.marks in
    let fault : program_fault c.args.bytes.now ≡ Some c.in_err-pass.field-0.0 = sym left.rest ∙ fault-here _ _ _ left.before _ _ c.loop-at-test.true (sym c.in_ok-instr.ensures.value) (sym passes.fault) in
    rw (p.1, p.2, fault) refl

pub loop-at-preserved : goal.loop-at-preserved
loop-at-preserved c =
    let left = c.loop-at.invariant.left in
    let passes = c.in_ok-pass.ensures left.before left.stands left.marks in
    rw c.length.ensures (record {
      inside = c.in_ok-instr.ensures.inside;
      under = passes.under refl;
      left = read-more _ _ _ _ _ left c.loop-at-test.true (sym c.in_ok-instr.ensures.value) passes;
    })

pub invariant_of-result : goal.invariant_of-result
invariant_of-result c =
    let left = c.loop-at.invariant.left in
    record {
      readable = sym left.rest ∙ fault-end _ _ left.before _ c.loop-at-test.false;
      counted = c.steps-steps.ensures ∙ counted-end c.args.bytes.now c.loop-at.at c.loop-at.reader.steps left.before c.loop-at-test.false left.counted;
    }
