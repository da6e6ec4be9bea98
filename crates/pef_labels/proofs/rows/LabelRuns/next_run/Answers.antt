use Rattle.pef_labels.proofs.RowLemmas.{runs-next, runs-whole}
use Rattle.pef_labels.proofs.rows.LabelRuns.next_run.Goals as goal

pub invariant_of-self : goal.invariant_of-self
invariant_of-self c =
    let s = c.self.inside in
    rw c.split_at.ensures.back
    (runs-next s.width s.passed c.in_ok-end.end.now s.ends.now c.in_ok-end.ends.now s.values.now c.self.invariant c.in_ok-end.ensures.cases.0)

pub returns-clause-whole : goal.returns-clause-whole
returns-clause-whole c =
    let s = c.self.inside in
    rw (c.split_at.ensures.front, c.split_at.ensures.back)
    (runs-whole s.width s.passed c.in_ok-end.end.now s.ends.now c.in_ok-end.ends.now s.values.now c.self.invariant c.in_ok-end.ensures.cases.0)
