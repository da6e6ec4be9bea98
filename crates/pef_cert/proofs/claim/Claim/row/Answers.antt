use Rattle.std.proofs.Common.{take, ap, ◌∙◌}
use Rattle.pef_cert.proofs.ClaimLemmas.{row-kept}
use Rattle.pef_cert.proofs.claim.Claim.row.Goals as goal

pub returns-clause-is : goal.returns-clause-is
returns-clause-is c = λ j row.
    let s = c.args.self in
    c.split_at-2.ensures.front
    ∙ (ap (take s.kept.width) c.split_at.ensures.back
    ∙ row-kept s.kept.width c.args.row j s.kept.ends.now s.kept.values.now c.requires.shaped.full row)
