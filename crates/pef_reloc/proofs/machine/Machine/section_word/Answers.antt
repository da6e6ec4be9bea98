use Rattle.std.proofs.Common.{◌∙◌}
use Rattle.std.proofs.lemmas.Result.{err_from_is_err_and}
use Rattle.pef_reloc.specs.declared.fixup.Base.TheVariants.{Section}
use Rattle.pef_reloc.proofs.Acts.{need-there, need-fault, section_stands, word-next, word-fault}
use Rattle.pef_reloc.proofs.Rows.{nothing_done}
use Rattle.pef_reloc.proofs.machine.Machine.section_word.Goals as goal

pub returns-in_err-address-clause-does : goal.returns-in_err-address-clause-does
returns-in_err-address-clause-does c =
    let p = err_from_is_err_and c.from_residual.result c.from_residual.ensures.1 in
    rw (p.1, p.2, c.in_err-address.ensures.1) (record { is = need-fault _ _ _ _ _ c.in_err-address.ensures.0 })

pub returns-in_err-add_word-clause-does : goal.returns-in_err-add_word-clause-does
returns-in_err-add_word-clause-does c =
    let p = err_from_is_err_and c.from_residual-in_err-add_word.result c.from_residual-in_err-add_word.ensures.1 in
    let stands = section_stands _ _ _ c.in_ok-address.ensures.1 in
    rw (p.1, p.2) (record { is = need-there _ _ _ _ _ c.in_ok-address.ensures.0 ∙ word-fault _ (Section _) _ _ _ _ _ _ stands c.in_err-add_word.ensures })

pub returns-clause-does : goal.returns-clause-does
returns-clause-does c =
    let stands = section_stands _ _ _ c.in_ok-address.ensures.1 in
    record { is = need-there _ _ _ _ _ c.in_ok-address.ensures.0 ∙ (word-next _ (Section _) _ _ _ _ _ stands c.in_ok-add_word.ensures ∙ nothing_done _ _) }
