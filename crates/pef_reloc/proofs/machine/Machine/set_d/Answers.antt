use Rattle.std.proofs.Common.{refl, ◌∙◌}
use Rattle.std.proofs.lemmas.Result.{err_from_is_err_and}
use Rattle.pef_reloc.proofs.Acts.{need-there, need-fault}
use Rattle.pef_reloc.proofs.Rows.{nothing_done}
use Rattle.pef_reloc.proofs.machine.Machine.set_d.Goals as goal

pub returns-in_err-self : goal.returns-in_err-self
returns-in_err-self c =
    let p = err_from_is_err_and c.from_residual.result c.from_residual.ensures.1 in
    rw (p.1, p.2, c.in_err-self.ensures.1) (record { does = λ memory. record { is = need-fault _ _ _ _ memory c.in_err-self.ensures.0 }; after = refl })

pub returns : goal.returns
returns c =
    rw c.in_ok-self.ensures.1 (record { does = λ memory. record { is = need-there _ _ _ _ memory c.in_ok-self.ensures.0 ∙ nothing_done _ memory }; after = refl })
