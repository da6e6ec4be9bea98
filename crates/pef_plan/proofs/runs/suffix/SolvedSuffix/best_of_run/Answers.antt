use Rattle.std.proofs.Common.{◌+◌, ◌<◌, ap, arith, subst, sym, ◌∙◌}
use Rattle.pef_plan.specs.declared.runs.state.Choice.{Choice}
use Rattle.pef_plan.specs.Runs.Kept.Runs.{SoFar}
use Rattle.pef_plan.specs.Runs.Runs.{limit}
use Rattle.pef_plan.proofs.RunsProofs.RunFacts.{along-after, along-next, after-shaped, so_far-better, so_far-same, so_far-stop}
use Rattle.pef_plan.proofs.runs.suffix.SolvedSuffix.best_of_run.Goals as goal
use Rattle.pef_plan.proofs.runs.suffix.SolvedSuffix.best_of_run.Goals.{then-value-best, else-value-best}

pub returns-in-None-clause-ends : goal.returns-in-None-clause-ends
returns-in-None-clause-ends c = λ l value agrees low above.
    let a = c.args in
    so_far-stop a.self a.here a.run a.from c.ends.done c.ends.next a.first c.ends.best c.ends.invariant c.in-None.ensures l value agrees low

pub value-value-requires-clause-shaped : goal.value-value-requires-clause-shaped
value-value-requires-clause-shaped c =
    let a = c.args in
    after-shaped a.self a.here a.run a.from (c.ends.done + 1) c.in-Some.next c.requires.here
    (along-after a.self a.here a.run a.from c.ends.done c.in-Some.next c.requires.here (along-next a.run a.here.place c.ends.next c.in-Some.next a.from c.ends.done c.ends.invariant.along c.in-Some.ensures))

pub ends-preserved : goal.ends-preserved
ends-preserved c =
    let a = c.args in
    let under : c.ends.done < limit a.run = (let e = c.limit-done-end.ensures in let t = c.ends-test.true in omega (arith, e, t)) in
    elim c.if-value-best.branch [
      | then-value-best w ↦ (let low = w.if-value-best in
          subst (λ (best : Choice). SoFar a.self a.here a.run a.from (c.ends.done + 1) c.in-Some.next a.first best)
          (ap (λ x. record { step = record { instr = x; next = c.in-Some.next }; value = 1 + c.value-value.result }) (sym w.instr-instr.ensures) ∙ sym w.best-is)
          (so_far-better a.self a.here a.run a.from c.ends.done c.ends.next c.in-Some.next a.first c.ends.best c.value-value.result c.requires.here c.requires.run c.ends.invariant under c.in-Some.ensures c.value-value.ensures.is (let above = c.if-best-label.false in omega (arith, above)) (omega (arith, low))))
      | else-value-best w ↦ (let low = w.if-value-best in
          subst (λ (best : Choice). SoFar a.self a.here a.run a.from (c.ends.done + 1) c.in-Some.next a.first best) (sym w.best-is)
          (so_far-same a.self a.here a.run a.from c.ends.done c.ends.next c.in-Some.next a.first c.ends.best c.value-value.result c.requires.here c.ends.invariant under c.in-Some.ensures c.value-value.ensures.is (omega (arith, low))))
    ]
