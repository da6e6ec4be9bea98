use Rattle.std.proofs.Common.{ℕ, ◌+◌, List, length, refl, subst}
use Rattle.pef_cert.specs.Fixups.Answers.{Says}
use Rattle.pef_cert.specs.Kept.Sets.{RowHolds}
use Rattle.pef_cert.proofs.SharedLemmas.{sets-shared}
use Rattle.pef_cert.proofs.claim.CheckedSuffix.row_sets_hold.Goals as goal

pub returns-then-shares_row : goal.returns-then-shares_row
returns-then-shares_row c = (λ e. sets-shared c.args.self c.args.under c.requires (c.if-shares_row.ensures refl), λ holds. refl)

pub returns : goal.returns
returns c =
    let is = c.row.ensures.is c.args.under.at c.requires.row in
    subst (λ (r : List ℕ). Says c.sets_hold.result (RowHolds r (length c.args.self.claim.registers.now + 1))) is
    (subst (λ (n : ℕ). Says c.sets_hold.result (RowHolds c.row.result.now n)) c.classes.ensures c.sets_hold.ensures)
