use Rattle.std.proofs.Common.{◌+◌, drop, take}
use Rattle.pef_reloc.specs.Deliveries.{index_after}
use Rattle.pef_cert.specs.Kept.Claims.{labels_claimed}
use Rattle.pef_cert.proofs.KindLemmas.{section-fails, section-says}
use Rattle.pef_cert.proofs.claim.CheckedSuffix.section_holds.Goals as goal

pub returns-then-not-singles_hold : goal.returns-then-not-singles_hold
returns-then-not-singles_hold c =
    let b = c.args.self in
    let u = c.args.under in
    section-fails (labels_claimed b.claim) (index_after (take u.at b.claim.fixups.now) 0) c.args.section u.fixup (drop (u.at + 1) b.claim.fixups.now) c.requires.base c.if-not-singles_hold.ensures

pub returns : goal.returns
returns c =
    let b = c.args.self in
    let u = c.args.under in
    section-says (labels_claimed b.claim) (index_after (take u.at b.claim.fixups.now) 0) c.args.section u.fixup (drop (u.at + 1) b.claim.fixups.now) c.section_runs_hold.result c.requires.base c.if-not-singles_hold.ensures c.section_runs_hold.ensures
