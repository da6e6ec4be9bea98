use Rattle.pef_reloc.proofs.Blocks.{repeat-reach}
use Rattle.pef_reloc.proofs.Windows.{before_length}
use Rattle.pef_reloc.proofs.verifying.Walk.execute.Goals as goal

pub returns-in-Some-clause-walks : goal.returns-in-Some-clause-walks
returns-in-Some-clause-walks c =
    λ before stands none.
    let place = before_length _ before _ stands in
    rw (← c.in-Some.ensures, ← place) (c.repeat-in-Some.ensures.walks _ (repeat-reach _ before c.in-Some.repeat _ stands (rw (← c.in-Some.ensures) at none)).spans)

pub returns-in-None-clause-walks : goal.returns-in-None-clause-walks
returns-in-None-clause-walks c =
    λ before stands none.
    let place = before_length _ before _ stands in
    rw (← c.in-None.ensures, ← place) c.step_at.ensures.walks
