-- One is passed, or none is left.
use Rattle.std.proofs.Common.{◌∙◌, sym, arith}
use Rattle.pef_records.proofs.RowLemmas.{passed_all, passed_more}
use Rattle.pef_records.proofs.fill.pass.Goals as goal

pub passed-preserved : goal.passed-preserved
passed-preserved g c = passed_more _ c.passed.counter _ _ (sym c.passed.invariant ∙ c.in-Some.ensures)

pub returns-in-None : goal.returns-in-None
returns-in-None g c =
    c.in-None.ensures.1 ∙ sym (passed_all _ c.passed.counter c.args.count (omega arith) (sym c.passed.invariant ∙ c.in-None.ensures.0))
