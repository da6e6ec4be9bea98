use Rattle.std.proofs.Common.{rules}
use Rattle.pef_reloc.proofs.Windows.{before_length}
use Rattle.pef_reloc.proofs.recent.Reader.pass.Goals as goal

pub returns-then-self-steps-gt-MAX_STEPS : goal.returns-then-self-steps-gt-MAX_STEPS
returns-then-self-steps-gt-MAX_STEPS c =
    λ before stands marks.
    let place = before_length _ before _ stands in
    rw place (search rules)

pub returns : goal.returns
returns c =
    λ before stands marks.
    let kept = c.mark.ensures.marks before (before_length _ before _ stands) marks in
    search rules
