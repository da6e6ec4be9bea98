use Rattle.std.proofs.Common.{◌≡◌, ◌+◌, ◌<◌, ◌∙◌, ap, arith, length, subst, sym, true}
use Rattle.pef_cert.specs.Labels.{class_of, classes}
use Rattle.pef_plan.specs.Runs.Places.{Counts}
use Rattle.pef_plan.specs.Runs.Tables.{begin_at, label_in}
use Rattle.pef_plan.proofs.RunsProofs.KnownLemmas.{value-label}
use Rattle.pef_plan.proofs.runs.suffix.SolvedSuffix.fill_beyond.Goals as goal

pub returns-else-not-begin_at-clause-is : goal.returns-else-not-begin_at-clause-is
returns-else-not-begin_at-clause-is c = λ l agrees x d under is.
    let a = c.args in
    let at : begin_at (a.at.first.offset + 8) a.at.others.now ≡ true = ap (λ n. begin_at (n + 8) a.at.others.now) (sym c.from.ensures) ∙ (sym c.begin_at.ensures ∙ c.if-not-begin_at.false) in
    let same : classes l ≡ length a.self.registers.now + 1 = ap (λ rs. length rs + 1) agrees.same.registers_are in
    let class : d ≡ class_of a.self.registers.now a.section = is ∙ ap (λ rs. class_of rs a.section) agrees.same.registers_are in
    let counts = subst (λ b. Counts a.self.registers.now b) c.requires.base c.requires.at.counts.0 in
    let under_x : x < length a.self.registers.now + 1 = omega (arith, same, under) in
    value-label l a.self a.at.others.now (a.at.first.offset + 8) x d _ at agrees
    (c.copy_labels.ensures.are x under_x ∙ ap (λ e. label_in (length a.self.registers.now + 1) a.self.labels.now.rows (length a.at.others.now) x e) (c.class_of-class.ensures ∙ sym class))
    under_x (omega (arith, class, counts))
