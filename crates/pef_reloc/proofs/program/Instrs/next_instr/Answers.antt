use Rattle.std.proofs.Common.{sym, ap}
use Rattle.pef_reloc.specs.Decoding.{Code}
use Rattle.pef_reloc.proofs.CodeLemmas.{code-end, code-next, code-fault}
use Rattle.pef_reloc.proofs.program.Instrs.next_instr.Goals as goal

pub returns-then-self-clause-takes : goal.returns-then-self-clause-takes
returns-then-self-clause-takes c =
    let e = ap (λ (k : Code). k.instrs) (code-end _ _ c.if-self.true) in (e, e)

pub returns-in-Ok-clause-takes : goal.returns-in-Ok-clause-takes
returns-in-Ok-clause-takes c =
    rw c.length.ensures (ap (λ (k : Code). k.instrs) (code-next _ _ c.in-Ok.instr c.if-self.false (sym c.in-Ok.ensures.value)))

pub returns-in-Err-clause-takes : goal.returns-in-Err-clause-takes
returns-in-Err-clause-takes c =
    let e = ap (λ (k : Code). k.instrs) (code-fault _ _ _ c.if-self.false (sym c.in-Err.ensures.value)) in (e, e)
