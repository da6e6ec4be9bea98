use Rattle.pef_cert.proofs.ClaimLemmas.{value-end}
use Rattle.pef_cert.specs.Kept.Claims.{labels_claimed}
use Rattle.pef_cert.proofs.claim.CheckedSuffix.value.Goals as goal

pub returns-in-None-clause-is : goal.returns-in-None-clause-is
returns-in-None-clause-is c =
    value-end (labels_claimed c.args.self.claim) c.args.self.claim.fixups.now c.args.at c.args.position c.args.c c.args.d c.in-None.ensures.lookup.3
