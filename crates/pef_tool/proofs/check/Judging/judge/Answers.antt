-- The next certificate is judged if it is for the next section.
use Rattle.std.proofs.Common.{arith}
use Rattle.pef_tool.proofs.CheckLemmas.{judged_next, judged_other}
use Rattle.pef_tool.proofs.check.Judging.judge.Goals as goal

pub returns-in_ok-push-in-Some : goal.returns-in_ok-push-in-Some
returns-in_ok-push-in-Some c = λ before so_far.
    let judging = c.args.self.now in
    judged_next c.args.script.now before c.args.certificate.now judging.differ judging.verdicts.items _ c.len.result c.in-Some.fixups.now c.verdict_on.result so_far c.if-self.false
    (omega (arith, c.len.ensures, judging.verdicts.ok.0)) c.in-Some.ensures.value c.verdict_on.ensures c.in_ok-push-in-Some.ensures.items

pub returns-in-None : goal.returns-in-None
returns-in-None c = λ before so_far.
    let judging = c.args.self.now in
    judged_other c.args.script.now before c.args.certificate.now judging.differ judging.verdicts.items c.len.result so_far c.if-self.false (omega (arith, c.len.ensures, judging.verdicts.ok.0)) c.in-None.ensures.value
