use Rattle.std.proofs.Common.{◌≡◌, true, false, ap, sym, ◌∙◌, arith}
use Rattle.std.specs.Option.{is_some}
use Rattle.pef_reloc.specs.Instrs.{repeat_of}
use Rattle.pef_reloc.proofs.CodeLemmas.{some_length}
use Rattle.pef_reloc.proofs.Windows.{count-begins, count-end, count-more, count-nested}
use Rattle.pef_reloc.proofs.recent.flat_count.Goals as goal

pub returns-in_err-instr-clause-value : goal.returns-in_err-instr-clause-value
returns-in_err-instr-clause-value c =
    λ block spans. absurd (count-begins _ _ _ _ _ _ (c.loop-at.invariant.left block spans) c.loop-at-test.true (sym c.in_err-instr.ensures.value))

pub returns-then-is_some-clause-value : goal.returns-then-is_some-clause-value
returns-then-is_some-clause-value c =
    let nested : is_some (repeat_of c.in_ok-instr.instr) ≡ true = ap is_some (sym c.repeat.ensures) ∙ sym c.if-is_some.ensures in
    λ block spans. sym (count-nested _ _ _ _ _ _ (c.loop-at.invariant.left block spans) c.loop-at-test.true (sym c.in_ok-instr.ensures.value) nested)

pub loop-at-preserved : goal.loop-at-preserved
loop-at-preserved c =
    let some = some_length c.in_ok-instr.instr in
    let plain : is_some (repeat_of c.in_ok-instr.instr) ≡ false = ap is_some (sym c.repeat.ensures) ∙ sym c.if-is_some.ensures in
    rw c.length.ensures (record {
      inside = c.in_ok-instr.ensures.inside;
      passed = omega (arith, some, c.loop-at.invariant.passed);
      few = omega (arith, c.requires.short, c.loop-at.invariant.passed, c.loop-at-test.true);
      left = λ block spans. count-more _ _ _ _ _ _ (c.loop-at.invariant.left block spans) c.loop-at-test.true (sym c.in_ok-instr.ensures.value) plain;
    })

pub returns-clause-value : goal.returns-clause-value
returns-clause-value c =
    λ block spans. sym (count-end _ _ _ _ _ (c.loop-at.invariant.left block spans) c.loop-at-test.false)
