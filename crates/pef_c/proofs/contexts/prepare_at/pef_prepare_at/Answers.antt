-- The context that was taken is the one that is prepared in, and that one is put back.
use Rattle.std.proofs.Common.{◌≡◌, ℕ, List, Option, Some, sym, ap, subst, ◌∙◌}
use Rattle.cfm_prepare.specs.Contexts.{ContextState}
use Rattle.pef_c.specs.Contexts.Context.{held, names_shown}
use Rattle.pef_c.specs.Contexts.PrepareAt.{PrepareAtAnswers, PreparesAtIn}
use Rattle.pef_c.proofs.contexts.prepare_at.pef_prepare_at.Goals as goal

pub returns : goal.returns
returns c =
    let was : Some c.deref_mut.result.now ≡ held c.args.context.now = ap Some c.deref_mut.ensures.value ∙ c.in-Some.ensures.taken in
    let is : held c.put.new.context ≡ Some c.prepare_at_in-answer.new.context = c.put.ensures in
    let P : Option ContextState → Option ContextState → Type 0 = λ s t.
    PrepareAtAnswers c.args.name.now c.args.addresses.now s t c.args.connection.now c.prepare_at_in-answer.new.connection (names_shown c.args.names.now) (names_shown c.prepare_at_in-answer.new.names) c.args.place.now c.prepare_at_in-answer.new.place c.prepare_at_in-answer.result in
    let Q : List ℕ → List ℕ → Type 0 = λ name addresses.
    PreparesAtIn name addresses c.deref_mut.result.now c.prepare_at_in-answer.new.context c.args.connection.now c.prepare_at_in-answer.new.connection (names_shown c.args.names.now) (names_shown c.prepare_at_in-answer.new.names) c.args.place.now c.prepare_at_in-answer.new.place c.prepare_at_in-answer.result in
    let done : Q c.args.name.now c.args.addresses.now = subst (λ name. Q name c.args.addresses.now) c.given.ensures (subst (Q c.given.result.now) c.given-2.ensures c.prepare_at_in-answer.ensures) in
    subst (λ s. P s (held c.put.new.context)) was (subst (λ t. P (Some c.deref_mut.result.now) t) (sym is) done)
