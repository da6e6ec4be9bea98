-- A pass is refused, or all passes after it are tested by the last one, or one after the other.
use Rattle.std.proofs.Common.{◌<◌, ◌∙◌, ap, refl, arith}
use Rattle.std.proofs.lemmas.Result.{err_from_is_err_and}
use Rattle.pef_reloc.specs.Kept.Walks.{walked}
use Rattle.pef_reloc.specs.Steps.{state_after}
use Rattle.pef_reloc.specs.Unrolled.{steps_from}
use Rattle.pef_reloc.proofs.Execution.{instrs_in-steps}
use Rattle.pef_reloc.proofs.WalkLemmas.{passes-fault, passes-start, passes-then}
use Rattle.pef_reloc.proofs.verifying.Walk.repeat.Goals as goal

pub returns-in_err-run_block-clause-walks : goal.returns-in_err-run_block-clause-walks
returns-in_err-run_block-clause-walks c instrs spans =
    let p = err_from_is_err_and c.from_residual.result c.from_residual.ensures.1 in
    let some : 0 < c.args.passes = omega arith in
    let start = passes-start c.args.sizes (walked c.args.self.now) c.args.passes (steps_from c.args.block.from instrs) in
    rw (p.1, p.2) (passes-fault _ _ _ _ _ _ _ _ start some (c.in_err-run_block.ensures.walks instrs spans))

pub returns-in-Some-clause-walks : goal.returns-in-Some-clause-walks
returns-in-Some-clause-walks c instrs spans =
    let first = c.in_ok-run_block.ensures.walks instrs spans in
    let start = walked c.args.self.now in
    let settled = first.after refl ∙ ap (λ xs. state_after xs start) (instrs_in-steps c.args.block.from instrs) in
    passes-then c.args.sizes start (walked c.run_block.new.self) (walked c.in-Some.after) c.args.passes (steps_from c.args.block.from instrs) _ (omega arith) first (c.in-Some.ensures.walks instrs spans start settled)

pub returns-in-None-clause-walks : goal.returns-in-None-clause-walks
returns-in-None-clause-walks c instrs spans =
    passes-then c.args.sizes (walked c.args.self.now) (walked c.run_block.new.self) (walked c.pass_each-in-None.new.self) c.args.passes (steps_from c.args.block.from instrs) _ (omega arith) (c.in_ok-run_block.ensures.walks instrs spans) (c.pass_each-in-None.ensures.walks instrs spans)
