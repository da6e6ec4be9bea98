use Rattle.std.proofs.Common.{◌+◌, ◌%◌, [], drop, arith, slice_index}
use Rattle.std.specs.Prelude.{slice_index_or}
use Rattle.pef_words.proofs.Laws.Lists.{drop-here}
use Rattle.pef_cert.specs.Kept.Claims.{labels_claimed}
use Rattle.pef_cert.proofs.ClaimLemmas.{offer-kept_import, offer-kept_section, shaped-few}
use Rattle.pef_cert.proofs.FeasibleLemmas.{section-counts}
use Rattle.pef_cert.proofs.claim.CheckedSuffix.offer.Goals as goal

pub bounds-self-c : goal.bounds-self-c
bounds-self-c c =
    let few = shaped-few c.args.self.claim c.requires.sees.shaped in
    omega (arith, few, c.requires.c)

pub change-change-requires-clause-counts : goal.change-change-requires-clause-counts
change-change-requires-clause-counts c = section-counts c.args.self.claim c.args.at c.in-Section.section c.args.fixup c.requires.sees.shaped c.requires.fixup c.in-Section.is

pub returns-in-Section-clause-is : goal.returns-in-Section-clause-is
returns-in-Section-clause-is c = λ gap.
    let b = c.args.self in
    let fixups = b.claim.fixups.now in
    let rest = drop (c.args.at + 1) fixups in
    offer-kept_section (labels_claimed b.claim) c.args.fixup rest c.args.c c.args.d (slice_index (slice_index_or b.skips.now (c.args.at % 1024) []) c.args.c) c.in-Section.section c.change-change.result c.from.result
    c.in-Section.is (c.requires.sees.known.offer c.args.fixup rest (drop-here fixups c.args.at c.args.fixup c.requires.fixup) gap c.args.c c.args.d c.requires.c c.requires.d)
    c.change-change.ensures c.from.ensures

pub returns-in-Import-clause-is : goal.returns-in-Import-clause-is
returns-in-Import-clause-is c = λ gap.
    let fixups = c.args.self.claim.fixups.now in
    let rest = drop (c.args.at + 1) fixups in
    offer-kept_import (labels_claimed c.args.self.claim) c.args.fixup rest c.args.c c.args.d _ c.in-Import.field-0
    c.in-Import.is (c.requires.sees.known.offer c.args.fixup rest (drop-here fixups c.args.at c.args.fixup c.requires.fixup) gap c.args.c c.args.d c.requires.c c.requires.d)
