use Rattle.std.proofs.Common.{◌∙◌, refl, arith}
use Rattle.pef_cert.proofs.ClaimLemmas.{get_under}
use Rattle.pef_cert.proofs.KindLemmas.{single-here, under-sees}
use Rattle.pef_cert.proofs.claim.CheckedSuffix.single_holds.Goals as goal

pub value-requires-clause-sees : goal.value-requires-clause-sees
value-requires-clause-sees c = under-sees c.args.self c.args.under c.requires.under

pub returns : goal.returns
returns c =
    let b = c.args.self in
    let u = c.args.under in
    let label = c.label-label.ensures u.at c.requires.under.row (omega (arith, get_under b.claim.fixups.now u.at u.fixup c.requires.under.here)) in
    single-here b.claim u c.args.c c.args.d c.args.cost c.from.result c.from-2.result c.from-position.result c.value.result _ c.requires.under.here (c.from.ensures ∙ label) c.from-2.ensures c.from-position.ensures c.value.ensures.is refl
