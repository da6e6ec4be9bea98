-- A repeat begins its passes, and any other instruction is given.
use Rattle.std.proofs.Common.{◌∙◌, sym}
use Rattle.pef_reloc.proofs.Executing.{begun-first, begun-only, begun-plain, begun-repeat}
use Rattle.pef_reloc.proofs.executed.Executed.next_instr.Goals as goal

pub blocks-2-preserved : goal.blocks-2-preserved
blocks-2-preserved c =
    let over = c.in-None.ensures.takes in
    let here = c.in-Some-next_instr.ensures in
    begun-only _ _ _ _ _ _ over.0 over.1 c.if-self-gt0.false (begun-repeat _ _ _ _ _ here.takes here.passes (sym c.repeat.ensures ∙ c.in-Some-repeat.is) (rw (← c.place-place.ensures) c.behind-self.ensures.listed))
    ∙ c.blocks-2.invariant

pub returns-in-None-repeat-clause-takes : goal.returns-in-None-repeat-clause-takes
returns-in-None-repeat-clause-takes c =
    let over = c.in-None.ensures.takes in
    let here = c.in-Some-next_instr.ensures in
    sym c.blocks-2.invariant
    ∙ begun-first _ _ _ _ _ _ _ over.0 over.1 c.if-self-gt0.false (begun-plain _ _ _ here.takes here.passes (sym c.repeat.ensures ∙ c.in-None-repeat.is))
