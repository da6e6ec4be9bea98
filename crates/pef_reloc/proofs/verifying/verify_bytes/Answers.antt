use Rattle.std.proofs.Common.{sym, arith}
use Rattle.std.proofs.lemmas.Result.{err_from_is_err_and}
use Rattle.pef_reloc.proofs.Applying.{fine-begins, fine-here, room}
use Rattle.pef_reloc.proofs.WalkLemmas.{program-end, program-fault, program-more, program-start}
use Rattle.pef_reloc.proofs.verifying.verify_bytes.Goals as goal

pub loop-at-init : goal.loop-at-init
loop-at-init c = record { inside = omega arith; left = program-start _ _ _ c.requires c.start-walk.ensures }

pub returns-in_err-instr : goal.returns-in_err-instr
returns-in_err-instr c =
    let left = c.loop-at.invariant.left in
    absurd (fine-begins _ _ left.before left.steps _ c.loop-at-test.true (sym c.in_err-instr.ensures.value) left.fine)

pub execute-requires-clause-near : goal.execute-requires-clause-near
execute-requires-clause-near c =
    let left = c.loop-at.invariant.left in
    record { position = omega (arith, left.position, left.under); imports = omega (arith, left.imports, left.under) }

pub execute-requires-clause-room : goal.execute-requires-clause-room
execute-requires-clause-room c =
    let left = c.loop-at.invariant.left in
    let fine = fine-here _ _ c.in_ok-instr.instr left.before left.steps c.loop-at-test.true (sym c.in_ok-instr.ensures.value) left.fine in
    room _ left.before _ _ left.stands fine.block

pub returns-in_err-execute : goal.returns-in_err-execute
returns-in_err-execute c =
    let p = err_from_is_err_and c.from_residual-in_err-execute.result c.from_residual-in_err-execute.ensures.1 in
    let left = c.loop-at.invariant.left in
    let here = sym c.in_ok-instr.ensures.value in
    let fine = fine-here _ _ c.in_ok-instr.instr left.before left.steps c.loop-at-test.true here left.fine in
    rw (p.1, p.2) (program-fault _ _ _ _ _ c.in_ok-instr.instr _ left c.loop-at-test.true here (c.in_err-execute.ensures.walks left.before left.stands fine.block))

pub loop-at-preserved : goal.loop-at-preserved
loop-at-preserved c =
    let left = c.loop-at.invariant.left in
    let here = sym c.in_ok-instr.ensures.value in
    let fine = fine-here _ _ c.in_ok-instr.instr left.before left.steps c.loop-at-test.true here left.fine in
    rw c.length.ensures (record {
      inside = c.in_ok-instr.ensures.inside;
      left = program-more _ _ _ _ _ c.in_ok-instr.instr left c.loop-at-test.true here (c.in_ok-execute.ensures.walks left.before left.stands fine.block) c.in_ok-execute.ensures.moves;
    })

pub returns : goal.returns
returns c = program-end _ _ _ _ c.loop-at.invariant.left c.loop-at-test.false
