use Rattle.std.proofs.Common.{◌+◌, drop, ◌∷◌, []}
use Rattle.pef_cert.proofs.SweepLemmas.{import-offers}
use Rattle.pef_cert.proofs.claim.CheckedSuffix.least_skips.Goals as goal

pub returns-in-Import : goal.returns-in-Import
returns-in-Import c = import-offers c.args.self.claim c.in-Import.field-0 c.args.fixup (drop (c.args.at + 1) c.args.self.claim.fixups.now) (0 ∷ 0 ∷ 0 ∷ 0 ∷ 0 ∷ 0 ∷ 0 ∷ 0 ∷ 0 ∷ 0 ∷ 0 ∷ 0 ∷ 0 ∷ 0 ∷ 0 ∷ 0 ∷ 0 ∷ []) c.in-Import.is
