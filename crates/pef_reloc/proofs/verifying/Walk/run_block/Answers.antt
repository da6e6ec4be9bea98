use Rattle.std.proofs.Common.{sym, arith}
use Rattle.std.proofs.lemmas.Result.{err_from_is_err_and}
use Rattle.pef_reloc.proofs.CodeLemmas.{some_length, most_length}
use Rattle.pef_reloc.proofs.WalkLemmas.{block-begins, block-begun, block-end, block-fault, block-more, moves-more}
use Rattle.pef_reloc.proofs.verifying.Walk.run_block.Goals as goal

pub loop-at-init : goal.loop-at-init
loop-at-init c = record {
  inside = omega arith;
  ahead = omega arith;
  short = omega arith;
  moves = record { position = omega arith; imports = omega arith };
  left = λ instrs spans. block-begun _ _ _ _ _ instrs spans;
}

pub returns-in_err-instr-clause-walks : goal.returns-in_err-instr-clause-walks
returns-in_err-instr-clause-walks c =
    λ instrs spans. absurd (block-begins _ _ _ _ _ _ _ _ (c.loop-at.invariant.left instrs spans) c.loop-at-test.true (sym c.in_err-instr.ensures.value))

pub returns-in_err-step_at-clause-walks : goal.returns-in_err-step_at-clause-walks
returns-in_err-step_at-clause-walks c =
    λ instrs spans. let p = err_from_is_err_and c.from_residual-in_err-step_at.result c.from_residual-in_err-step_at.ensures.1 in
    rw (p.1, p.2) (block-fault _ _ _ _ _ _ _ _ _ _ (c.loop-at.invariant.left instrs spans) c.loop-at-test.true (sym c.in_ok-instr.ensures.value) c.in_err-step_at.ensures.walks)

pub loop-at-preserved : goal.loop-at-preserved
loop-at-preserved c =
    let some = some_length c.in_ok-instr.instr in
    let most = most_length c.in_ok-instr.instr in
    rw c.length.ensures (record {
      inside = c.in_ok-instr.ensures.inside;
      ahead = omega arith;
      short = omega (arith, c.loop-at-test.true, most);
      moves = moves-more _ _ _ _ _ _ c.loop-at.invariant.moves c.in_ok-step_at.ensures.moves (omega (arith, some, c.loop-at.invariant.ahead));
      left = λ instrs spans. block-more _ _ _ _ _ _ _ _ _ (c.loop-at.invariant.left instrs spans) c.loop-at-test.true (sym c.in_ok-instr.ensures.value) c.in_ok-step_at.ensures.walks;
    })

pub returns-clause-walks : goal.returns-clause-walks
returns-clause-walks c =
    λ instrs spans. block-end _ _ _ _ _ _ _ (c.loop-at.invariant.left instrs spans) c.loop-at-test.false
