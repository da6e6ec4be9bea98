-- A connection that does decides.
use Rattle.std.proofs.Common.{◌∙◌, ap, sym, subst, None}
use Rattle.cfm_prepare.specs.Steps.{AnyNames}
use Rattle.std.proofs.lemmas.List.{get_or_default}
use Rattle.cfm_closure.specs.Additions.{NamesLibrary}
use Rattle.cfm_closure.specs.Closures.{Closed}
use Rattle.cfm_prepare.specs.Kept.Connections.{Numbered, open_in}
use Rattle.cfm_prepare.specs.declared.connections.Slot.{Slot}
use Rattle.cfm_prepare.proofs.ConnectionLemmas.{names-empty, names-end, names-here, names-other, names-start}
use Rattle.cfm_prepare.proofs.connections.Connections.names_library.Goals as goal
use Rattle.cfm_prepare.proofs.connections.Connections.names_library.Goals.{in-Some+else-names_library, in_default}

pub loop-slot-init : goal.loop-slot-init
loop-slot-init c = names-start c.deref-slot-items.result.now c.args.name.now

pub returns-then-names_library-clause-yes : goal.returns-then-names_library-clause-yes
returns-then-names_library-clause-yes c = λ always.
    let at = ap (λ (s : Slot). s.connected) (get_or_default c.deref-slot-items.result.now c.loop-slot.slot-index (record { number = 0; connected = None }) c.slot-item.result c.loop-slot-test.true) ∙ ap (λ (s : Slot). s.connected) (sym c.slot-item.is) ∙ c.in-Some.is in
    let P : Closed → Type 0 = λ closed. NamesLibrary closed.pairs closed.order c.args.name.now in
    let names = subst P c.closure.ensures.closure (c.names_library.ensures.yes c.if-names_library.true) in
    let any = names-here c.deref-slot-items.result.now c.loop-slot.slot-index c.args.name.now c.loop-slot-test.true c.loop-slot.invariant c.in-Some.connected at names in
    subst (λ os. AnyNames os c.args.name.now) (ap open_in c.deref-slot-items.ensures.value ∙ ap (λ (n : Numbered). n.items) c.self.view_is) any

pub loop-slot-preserved : goal.loop-slot-preserved
loop-slot-preserved c = elim c.match-slot.branch [
  | in-Some+else-names_library w ↦ (
      let at = ap (λ (s : Slot). s.connected) (get_or_default c.deref-slot-items.result.now c.loop-slot.slot-index (record { number = 0; connected = None }) c.slot-item.result c.loop-slot-test.true) ∙ ap (λ (s : Slot). s.connected) (sym c.slot-item.is) ∙ w.in-Some.is in
      let P : Closed → Type 0 = λ closed. NamesLibrary closed.pairs closed.order c.args.name.now → ⊥ in
      names-other c.deref-slot-items.result.now c.loop-slot.slot-index c.args.name.now c.loop-slot-test.true c.loop-slot.invariant w.in-Some.connected at
      (subst P w.closure.ensures.closure (w.names_library.ensures.no w.if-names_library.false)))
  | in_default w ↦ (
      let at = ap (λ (s : Slot). s.connected) (get_or_default c.deref-slot-items.result.now c.loop-slot.slot-index (record { number = 0; connected = None }) c.slot-item.result c.loop-slot-test.true) ∙ ap (λ (s : Slot). s.connected) (sym c.slot-item.is) ∙ w.in_default.is in
      names-empty c.deref-slot-items.result.now c.loop-slot.slot-index c.args.name.now c.loop-slot-test.true c.loop-slot.invariant at)
]

pub returns-clause-no : goal.returns-clause-no
returns-clause-no c = λ never any.
    let whole = ap open_in c.deref-slot-items.ensures.value ∙ ap (λ (n : Numbered). n.items) c.self.view_is in
    names-end c.deref-slot-items.result.now c.loop-slot.slot-index c.args.name.now c.loop-slot-test.false c.loop-slot.invariant (subst (λ os. AnyNames os c.args.name.now) (sym whole) any)
