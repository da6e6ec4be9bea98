use Rattle.std.proofs.Common.{◌+◌, ◌-◌, ◌<◌, ◌∙◌, ap, arith, sym, ◌≢◌}
use Rattle.pef_cert.proofs.ClaimLemmas.{value-away, value-here, value-past}
use Rattle.pef_cert.specs.Extension.{moved_value}
use Rattle.pef_cert.specs.Kept.Claims.{labels_claimed, word_end}
use Rattle.pef_cert.proofs.claim.CheckedSuffix.value_before.Goals as goal

pub returns-then-state-offset-clause-is : goal.returns-then-state-offset-clause-is
returns-then-state-offset-clause-is c =
    let b = c.args.self in
    value-here (labels_claimed b.claim) b.claim.fixups.now c.args.at c.args.fixup c.args.state.position c.args.state.c c.args.state.d c.from.result c.requires.fixup (c.if-state-offset.true ∙ c.from-offset.ensures) (c.from.ensures ∙ c.label-label.ensures)

pub returns-then-state-offset-2-clause-is : goal.returns-then-state-offset-2-clause-is
returns-then-state-offset-2-clause-is c =
    let b = c.args.self in
    value-past (labels_claimed b.claim) b.claim.fixups.now c.args.at c.args.fixup c.args.state.position c.args.state.c c.args.state.d c.label-label.result (2 + c.from-then-state-offset-2.result) c.requires.fixup
    (omega (arith, c.if-state-offset-2.true, c.from-offset.ensures)) c.label-label.ensures (ap (λ n. 2 + n) c.from-then-state-offset-2.ensures)

pub returns-clause-is : goal.returns-clause-is
returns-clause-is c =
    let b = c.args.self in
    let away : c.args.state.position ≢ c.args.fixup.offset = λ same. c.if-state-offset.false (same ∙ sym c.from-offset.ensures) in
    let gap : word_end b.claim.fixups.now c.args.at < c.args.fixup.offset = omega (arith, away, c.requires.after, c.if-state-offset-2.false, c.from-offset.ensures) in
    value-away (labels_claimed b.claim) b.claim.fixups.now c.args.at c.args.fixup c.args.state.position c.args.state.c c.args.state.d c.label-label.result c.moved_value.result c.offer-offer.result c.requires.fixup away
    c.label-label.ensures
    (c.offer-offer.ensures.is gap)
    (c.moved_value.ensures.is ∙ ap (λ n. moved_value (n - c.args.state.position) c.label-label.result c.offer-offer.result) c.from-offset.ensures)
