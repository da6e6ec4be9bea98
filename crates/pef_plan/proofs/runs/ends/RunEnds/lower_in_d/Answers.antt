use Rattle.std.proofs.Common.{arith, slice_index}
use Rattle.pef_plan.proofs.runs.ends.RunEnds.lower_in_d.Goals as goal

pub returns-clause-best : goal.returns-clause-best
returns-clause-best c = λ x under.
    let len = c.lower.ensures.len in
    record {
      between = slice_index c.lower.new.line x;
      one = λ width limit rows w. c.lower.ensures.best width limit rows x w under;
      other = λ width limit rows w. c.lower-2.ensures.best width limit rows x w (omega (arith, under, len));
    }
