-- There is a certificate for each section, or they differ.
use Rattle.std.proofs.Common.{◌≡◌, ◌≢◌, ◌⊎◌, inl, inr, true, length, arith}
use Rattle.pef_tool.proofs.CheckLemmas.{differs, has_verdicts}
use Rattle.pef_tool.proofs.check.Judging.end.Goals.{then-self-via-else-self+then-len-sections, then-self-via-then-self}
use Rattle.pef_tool.proofs.check.Judging.end.Goals as goal

pub returns-then-self : goal.returns-then-self
returns-then-self c = λ certificates judged texts has.
    let judging = c.args.self in
    let why : (judging.differ ≡ true) ⊎ (length judging.verdicts.items ≢ length c.args.script.now.sections) = elim c.then-self.branch [
      | then-self-via-then-self w ↦ inl w.if-self.true
      | then-self-via-else-self+then-len-sections w ↦ inr (λ same. omega (arith, same, w.if-len-sections.true, w.len.ensures, w.sections.ensures.count, judging.verdicts.ok.0))
    ] in
    differs texts c.args.script.now certificates judging.differ judging.verdicts.items has judged why

pub returns : goal.returns
returns c = λ certificates judged texts has.
    let judging = c.args.self in
    has_verdicts texts c.args.script.now certificates judging.differ judging.verdicts.items has judged c.if-self.false
    (omega (arith, c.if-len-sections.false, c.len.ensures, c.sections.ensures.count, judging.verdicts.ok.0))
