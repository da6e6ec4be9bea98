use Rattle.std.proofs.Common.{◌+◌}
use Rattle.pef_cert.proofs.KindLemmas.{singles-near, under-sees}
use Rattle.pef_cert.proofs.claim.CheckedSuffix.near_singles_hold.Goals as goal

pub row-later-requires-clause-row : goal.row-later-requires-clause-row
row-later-requires-clause-row c = (under-sees c.args.self c.args.under c.requires.under).known.row.kept

pub returns : goal.returns
returns c =
    let b = c.args.self in
    let u = c.args.under in
    let sees = under-sees b u c.requires.under in
    singles-near b u c.args.next c.args.cost c.row-row.result.now c.row-later.result.now c.row_within.result c.requires.under c.requires.next c.requires.near
    (c.row-row.ensures.is u.at c.requires.under.row)
    (c.row-later.ensures.is (u.at + 1) sees.known.row)
    c.row-row.ensures.len
    c.row_within.ensures
