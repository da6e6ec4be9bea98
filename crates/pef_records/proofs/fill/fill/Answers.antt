-- One place more, none left, or no row left.
use Rattle.std.proofs.Common.{arith, refl}
use Rattle.pef_records.proofs.RowLemmas.{filled_all, filled_first, filled_full, filled_next, len_set}
use Rattle.pef_records.proofs.fill.fill.Goals as goal

pub filled-init : goal.filled-init
filled-init g c = record { filled = filled_first _ _ _; within = omega arith }

pub filled-preserved : goal.filled-preserved
filled-preserved g c =
    let len = len_set c.filled.places c.filled.count c.in-Some.row in
    record {
      filled = filled_next _ _ _ c.filled.count _ _ _ c.filled.places c.in-Some.row c.filled.invariant.filled c.filled-test.true c.in-Some.ensures refl;
      within = omega (arith, len, c.filled-test.true);
    }

pub returns-in-None : goal.returns-in-None
returns-in-None g c =
    filled_all _ _ _ c.filled.count _ c.filled.places c.filled.invariant.filled c.filled.invariant.within c.in-None.ensures.0

pub returns : goal.returns
returns g c =
    filled_full _ _ _ c.filled.count _ c.filled.places c.filled.invariant.filled c.filled.invariant.within c.filled-test.false
