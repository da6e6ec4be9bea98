-- Kept targets are right, and if none is known, none is wrong.
use Rattle.std.proofs.Common.{◌∙◌, sym, subst}
use Rattle.cfm_closure.specs.Kept.Targets.{AreRight}
use Rattle.cfm_closure.proofs.walk.kept_or_unknown.Goals as goal

pub returns-in_ok-another-in-Some-clause-right : goal.returns-in_ok-another-in-Some-clause-right
returns-in_ok-another-in-Some-clause-right c = λ pairs kept.
    subst (AreRight pairs c.args.p) (sym (c.shared.ensures ∙ c.in_ok-another-in-Some.ensures)) (kept c.args.p c.in-Some.row.now (sym c.in-Some.ensures)).right
