use Rattle.std.proofs.Common.{◌∙◌}
use Rattle.std.proofs.lemmas.Result.{err_from_is_err_and}
use Rattle.pef_reloc.proofs.Verifications.{first-goes, first-none, first-stops}
use Rattle.pef_reloc.proofs.verifying.Walk.section_word.Goals as goal

pub returns-in_err-section-clause-fault : goal.returns-in_err-section-clause-fault
returns-in_err-section-clause-fault c =
    let p = err_from_is_err_and c.from_residual.result c.from_residual.ensures.1 in
    rw (p.1, p.2) (first-stops _ _ _ _ c.in_err-section.ensures)

pub returns-in_err-word-clause-fault : goal.returns-in_err-word-clause-fault
returns-in_err-word-clause-fault c =
    let p = err_from_is_err_and c.from_residual-in_err-word.result c.from_residual-in_err-word.ensures.1 in
    rw (p.1, p.2) (first-goes _ _ _ c.in_ok-section.ensures ∙ first-stops _ _ _ _ (c.in_err-word.ensures c.args.section))

pub returns-clause-fault : goal.returns-clause-fault
returns-clause-fault c = first-goes _ _ _ c.in_ok-section.ensures ∙ (first-goes _ _ _ (c.in_ok-word.ensures c.args.section) ∙ first-none _)
