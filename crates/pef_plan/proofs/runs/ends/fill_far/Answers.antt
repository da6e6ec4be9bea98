use Rattle.std.proofs.Common.{◌≡◌, ◌+◌, ◌∙◌, ap, arith, length, sym, true}
use Rattle.pef_cert.specs.Labels.{classes}
use Rattle.pef_plan.specs.Runs.Tables.{begin_at}
use Rattle.pef_plan.proofs.RunsProofs.KnownLemmas.{extension-past}
use Rattle.pef_plan.proofs.runs.ends.fill_far.Goals as goal

pub returns-then-begin_at-clause-is : goal.returns-then-begin_at-clause-is
returns-then-begin_at-clause-is c = λ l agrees x d under is.
    let a = c.args in
    let at : begin_at (a.at.first.offset + 4) a.at.others.now ≡ true = ap (λ n. begin_at (n + 4) a.at.others.now) (sym c.from.ensures) ∙ (sym c.begin_at.ensures ∙ c.if-begin_at.true) in
    let same : classes l ≡ length a.known.registers.now + 1 = ap (λ rs. length rs + 1) agrees.same.registers_are in
    let len = c.requires.far_len in
    c.fill_past.ensures.are x (omega (arith, same, under, len))
    ∙ (ap (λ n. 2 + n) (c.requires.column l agrees x d under is)
    ∙ sym (extension-past l a.at.others.now a.at.first.offset x d at))
