use Rattle.std.proofs.Common.{◌≡◌, ◌+◌, ◌∙◌, ap, length, sym, true}
use Rattle.pef_plan.specs.Runs.Tables.{IsRow, begin_at}
use Rattle.pef_plan.proofs.RunsProofs.KnownLemmas.{near_copied}
use Rattle.pef_plan.proofs.runs.suffix.SolvedSuffix.fill_after.Goals as goal

pub returns-else-not-begin_at-clause-is : goal.returns-else-not-begin_at-clause-is
returns-else-not-begin_at-clause-is c = λ l agrees x y under_x under_y.
    let a = c.args in
    let at : begin_at (a.at.first.offset + 4) a.at.others.now ≡ true = ap (λ n. begin_at (n + 4) a.at.others.now) (sym c.from-position.ensures) ∙ (sym c.begin_at.ensures ∙ c.if-not-begin_at.false) in
    let row : IsRow a.self (length a.at.others.now) c.copy_row.new.row = record { is = c.copy_row.ensures; wide = c.copy_row.auto.row ∙ c.requires.len } in
    near_copied l a.self a.at.others.now (a.at.first.offset + 4) x y c.copy_row.new.row at agrees row under_x under_y
