-- The imports of the way have the target, and so has the first one.
use Rattle.std.proofs.Common.{◌≡◌, ◌<◌, Some, Ok, Contains, sym, subst}
use Rattle.std.specs.List.{AllByRecursion}
use Rattle.cfm_closure.specs.Fragments.{import_count}
use Rattle.cfm_closure.specs.Kept.Resolutions.{meant}
use Rattle.cfm_closure.specs.Kept.Targets.{IsOnWay, Ordered, led_to}
use Rattle.cfm_closure.proofs.KnownLemmas.{keeps-more}
use Rattle.cfm_closure.proofs.LeadLemmas.{led-target}
use Rattle.cfm_closure.proofs.resolve.Resolver.resolve.Goals as goal

pub note_way-requires : goal.note_way-requires
note_way-requires c =
    let pairs = c.args.bindings.now.pairs in
    let order = c.args.bindings.now.order in
    let on = subst (AllByRecursion (IsOnWay pairs order (led_to pairs (c.args.p, c.args.j)))) (sym c.deref.ensures.value) c.in_ok-resolution.ensures.way in
    subst (λ end. AllByRecursion (IsOnWay pairs order end) c.deref.result.now) (led-target pairs c.args.p c.args.j (meant c.in_ok-resolution.resolution) c.in_ok-resolution.ensures.answer) on

pub note-requires-clause-place : goal.note-requires-clause-place
note-requires-clause-place c = subst (λ (o : Ordered). Contains o.order c.args.p) (sym c.note_way.ensures.keeps.same) c.requires.place

pub note-requires-clause-import : goal.note-requires-clause-import
note-requires-clause-import c = subst (λ (o : Ordered). c.args.j < import_count o.pairs c.args.p) (sym c.note_way.ensures.keeps.same) c.requires.import

pub note-requires-clause-right : goal.note-requires-clause-right
note-requires-clause-right c =
    subst (λ (o : Ordered). led_to o.pairs (c.args.p, c.args.j) ≡ Some (Ok (meant c.in_ok-resolution.resolution))) (sym c.note_way.ensures.keeps.same)
    (led-target c.args.bindings.now.pairs c.args.p c.args.j (meant c.in_ok-resolution.resolution) c.in_ok-resolution.ensures.answer)

pub returns-clause-keeps : goal.returns-clause-keeps
returns-clause-keeps c = keeps-more c.args.bindings.now c.note_way.new.bindings c.note.new.self c.note_way.ensures.keeps c.note.ensures.keeps
