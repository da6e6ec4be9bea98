-- The context that is read is the one that C holds.
use Rattle.std.proofs.Common.{◌≡◌, ◌∙◌, Some, ap, subst, sym}
use Rattle.pef_c.specs.Contexts.Context.{held}
use Rattle.pef_c.specs.Contexts.Exports.{AtAnswers, location_shown}
use Rattle.pef_c.proofs.contexts.location.pef_at.Goals as goal

pub returns-clause-read : goal.returns-clause-read
returns-clause-read c =
    let there : held c.args.context.now ≡ Some c.deref.result.now = sym c.in-Some.ensures.taken ∙ ap Some (sym c.deref.ensures) in
    subst (λ o. AtAnswers c.args.address o (location_shown c.args.location.now) (location_shown c.at_in-answer.new.location) c.at_in-answer.result) (sym there) c.at_in-answer.ensures
