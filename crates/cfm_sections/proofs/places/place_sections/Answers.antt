-- The sections placed so far are held and apart, so they are released.
use Rattle.std.proofs.Common.{List, sym, ap, subst, ◌∙◌}
use Rattle.cfm_memory.specs.Extents.{AreApart, AreHeld, given_back}
use Rattle.cfm_memory.specs.declared.place.Place.{Place}
use Rattle.cfm_memory.proofs.Laws.{with_apart, with_given_back, with_held}
use Rattle.pef_views.specs.Views.{contained}
use Rattle.cfm_sections.specs.Begun.{placed_at}
use Rattle.cfm_sections.specs.Rules.{rule_of}
use Rattle.cfm_sections.proofs.places.place_sections.Goals as goal

pub give_back-requires-clause-held : goal.give_back-requires-clause-held
give_back-requires-clause-held c =
    let P : List Place → Type 0 = λ ps. AreHeld c.place_each.new.memory ps in
    subst P (sym c.as_slice.ensures.value) (with_held (rule_of c.args.rule) c.args.memory.now _ (placed_at (contained c.args.container.now)) c.place_each.new.places.items c.place_each.new.memory c.in-Err.ensures.so_far.1)

pub give_back-requires-clause-apart : goal.give_back-requires-clause-apart
give_back-requires-clause-apart c =
    let P : List Place → Type 0 = λ ps. AreApart ps in
    subst P (sym c.as_slice.ensures.value) (with_apart (rule_of c.args.rule) c.args.memory.now _ (placed_at (contained c.args.container.now)) c.place_each.new.places.items c.place_each.new.memory c.in-Err.ensures.so_far.1)

pub returns-in-Err-clause-unchanged : goal.returns-in-Err-clause-unchanged
returns-in-Err-clause-unchanged c =
    c.give_back.ensures ∙ ap (given_back c.place_each.new.memory) c.as_slice.ensures.value
    ∙ with_given_back (rule_of c.args.rule) c.args.memory.now _ (placed_at (contained c.args.container.now)) c.place_each.new.places.items c.place_each.new.memory c.in-Err.ensures.so_far.1
