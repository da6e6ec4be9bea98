-- The context that was taken is the one that is prepared in, and that one is put back.
use Rattle.std.proofs.Common.{◌≡◌, Option, Some, sym, ap, subst, ◌∙◌}
use Rattle.cfm_prepare.specs.Contexts.{ContextState}
use Rattle.pef_c.specs.Contexts.Context.{PlacedPrepareAnswers, held, names_shown}
use Rattle.pef_c.proofs.contexts.context.pef_prepare_with_place.Goals as goal

pub returns : goal.returns
returns c =
    let was : Some c.deref_mut.result.now ≡ held c.args.context.now = ap Some c.deref_mut.ensures.value ∙ c.in-Some.ensures.taken in
    let is : held c.put.new.context ≡ Some c.prepare_in-answer.new.context = c.put.ensures in
    let P : Option ContextState → Option ContextState → Type 0 = λ s t.
    PlacedPrepareAnswers c.args.name.now s t c.args.connection.now c.prepare_in-answer.new.connection (names_shown c.args.names.now) (names_shown c.prepare_in-answer.new.names) c.args.place.now c.prepare_in-answer.new.place c.prepare_in-answer.result in
    subst (λ s. P s (held c.put.new.context)) was (subst (λ t. P (Some c.deref_mut.result.now) t) (sym is) c.prepare_in-answer.ensures)
