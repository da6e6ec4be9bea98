use Rattle.pef_plan.proofs.RunsProofs.EndBest.{RunBest, place_inside, run_low}
use Rattle.pef_plan.proofs.runs.ends.RunEnds.low_of_run.Goals as goal

low : (c : goal.After-best) → RunBest c.args.known c.args.here c.args.run c.args.first c.best.result
low c =
    let a = c.args in
    let r = c.requires in
    run_low a.known a.here a.run a.first c.best.result c.place_in-place.result a.self.now c.window.result.now r.here r.at r.run r.begins r.ends c.place_in-place.ensures c.window.ensures c.best.ensures

pub best-requires : goal.best-requires
best-requires c =
    let a = c.args in
    let r = c.requires in
    rw (c.place_in-place.ensures, c.window.ensures) (place_inside a.known a.here a.run a.self.now r.here r.ends)

pub returns-clause-led : goal.returns-clause-led
returns-clause-led c = (low c).led

pub returns-clause-better : goal.returns-clause-better
returns-clause-better c = (low c).better

pub returns-clause-attained : goal.returns-clause-attained
returns-clause-attained c = (low c).one

pub returns-clause-ends : goal.returns-clause-ends
returns-clause-ends c = (low c).ends
