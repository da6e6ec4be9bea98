use Rattle.pef_reloc.proofs.WalkLemmas.{walks-one}
use Rattle.pef_reloc.proofs.verifying.Walk.step_at.Goals as goal

pub returns-in-Ok-clause-walks : goal.returns-in-Ok-clause-walks
returns-in-Ok-clause-walks c = walks-one _ _ _ _ _ _ c.in-Ok.ensures.fault (λ none. c.in-Ok.ensures.after)

pub returns-in-Err-clause-walks : goal.returns-in-Err-clause-walks
returns-in-Err-clause-walks c = rw c.fault.ensures (walks-one _ _ _ _ _ _ c.in-Err.ensures.fault (λ none. absurd (cc none)))
