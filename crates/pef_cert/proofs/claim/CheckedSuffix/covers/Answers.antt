use Rattle.std.proofs.Common.{◌+◌, arith}
use Rattle.pef_cert.proofs.ClaimLemmas.{knows-sees}
use Rattle.pef_cert.proofs.claim.CheckedSuffix.covers.Goals as goal

pub label-requires-clause-sees : goal.label-requires-clause-sees
label-requires-clause-sees c =
    knows-sees c.args.self (c.args.tested.at + 1) c.args.at c.requires.tests.knows (omega (arith, c.requires.from)) (omega (arith, c.requires.before)) c.requires.inside
