use Rattle.std.proofs.Common.{◌<◌, arith}
use Rattle.std.proofs.lemmas.Result.{err_from_is_err_and}
use Rattle.pef_reloc.specs.Kept.Walks.{walked}
use Rattle.pef_reloc.specs.Unrolled.{steps_from}
use Rattle.pef_reloc.proofs.WalkLemmas.{passes-start, passes-end, passes-fault, passes-more, moves-more}
use Rattle.pef_reloc.proofs.verifying.Walk.pass_each.Goals as goal

pub passes-init : goal.passes-init
passes-init c = record {
  moves = record { position = omega arith; imports = omega arith };
  left = λ instrs spans. passes-start c.args.sizes (walked c.args.self.now) c.args.passes (steps_from c.args.block.from instrs);
}

pub returns-in_err-run_block-clause-walks : goal.returns-in_err-run_block-clause-walks
returns-in_err-run_block-clause-walks c =
    λ instrs spans. let p = err_from_is_err_and c.from_residual.result c.from_residual.ensures.1 in
    let under : c.passes.counter < c.args.passes = omega arith in
    rw (p.1, p.2) (passes-fault _ _ _ _ _ _ _ _ (c.passes.invariant.left instrs spans) under (c.in_err-run_block.ensures.walks instrs spans))

pub passes-preserved : goal.passes-preserved
passes-preserved c =
    let under : c.passes.counter < c.args.passes = omega arith in
    record {
      moves = moves-more _ _ _ _ _ _ c.passes.invariant.moves c.in_ok-run_block.ensures.moves (omega arith);
      left = λ instrs spans. passes-more _ _ _ _ _ _ _ (c.passes.invariant.left instrs spans) under (c.in_ok-run_block.ensures.walks instrs spans);
    }

pub returns-clause-walks : goal.returns-clause-walks
returns-clause-walks c =
    λ instrs spans. passes-end c.args.sizes (walked c.passes.self) c.args.passes c.passes.counter (steps_from c.args.block.from instrs) (walked c.args.self.now) (c.passes.invariant.left instrs spans) (omega arith)
