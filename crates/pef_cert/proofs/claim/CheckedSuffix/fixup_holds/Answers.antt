use Rattle.std.proofs.Common.{true, refl}
use Rattle.pef_cert.specs.Kept.Claims.{row_at}
use Rattle.pef_cert.proofs.FeasibleLemmas.{fixup-fails, fixup-says}
use Rattle.pef_cert.proofs.claim.CheckedSuffix.fixup_holds.Goals as goal

pub returns-then-not-row_sets_hold : goal.returns-then-not-row_sets_hold
returns-then-not-row_sets_hold c = fixup-fails c.args.self c.args.under (row_at c.args.self.claim c.args.under.at) c.requires refl c.if-not-row_sets_hold.ensures

pub returns : goal.returns
returns c = fixup-says c.args.self c.args.under (row_at c.args.self.claim c.args.under.at) true c.all_additions_hold.result c.requires refl c.if-not-row_sets_hold.ensures c.all_additions_hold.ensures
