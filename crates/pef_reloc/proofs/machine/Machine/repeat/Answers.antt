use Rattle.std.proofs.Common.{◌<◌, arith}
use Rattle.std.proofs.lemmas.Result.{err_from_is_err_and}
use Rattle.pef_reloc.proofs.Blocks.{passes-start, passes-end, passes-fault, passes-more, moves-more}
use Rattle.pef_reloc.proofs.machine.Machine.repeat.Goals as goal

pub passes-init : goal.passes-init
passes-init c = record {
  moves = record { position = omega arith; imports = omega arith };
  left = λ instrs spans. passes-start _ _ _ _ _;
}

pub returns-in_err-run_block-clause-runs : goal.returns-in_err-run_block-clause-runs
returns-in_err-run_block-clause-runs c =
    λ instrs spans. let p = err_from_is_err_and c.from_residual.result c.from_residual.ensures.1 in
    let under : c.passes.counter < c.args.passes = omega arith in
    rw (p.1, p.2) (passes-fault _ _ _ _ _ _ _ _ _ _ _ (c.passes.invariant.left instrs spans) under (c.in_err-run_block.ensures.runs instrs spans))

pub passes-preserved : goal.passes-preserved
passes-preserved c =
    let under : c.passes.counter < c.args.passes = omega arith in
    record {
      moves = moves-more _ _ _ _ _ _ c.passes.invariant.moves c.in_ok-run_block.ensures.moves (omega arith);
      left = λ instrs spans. passes-more _ _ _ _ _ _ _ _ _ _ (c.passes.invariant.left instrs spans) under (c.in_ok-run_block.ensures.runs instrs spans);
    }

pub returns-clause-runs : goal.returns-clause-runs
returns-clause-runs c =
    λ instrs spans. passes-end _ _ _ _ _ _ _ _ (c.passes.invariant.left instrs spans) (omega arith)
