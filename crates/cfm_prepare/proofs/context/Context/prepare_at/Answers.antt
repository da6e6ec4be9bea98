-- There are as many addresses as new sections, or that is why nothing is prepared.
use Rattle.std.proofs.Common.{◌≡◌, Some, length, sym, subst, arith}
use Rattle.cfm_store.specs.Stores.{place_of}
use Rattle.cfm_memory.specs.Extents.{at_given}
use Rattle.cfm_prepare.specs.Contexts.{ContextState}
use Rattle.cfm_prepare.specs.NewSections.{AreNewSections}
use Rattle.cfm_prepare.specs.Steps.{PreparesBy}
use Rattle.cfm_prepare.proofs.OpenLemmas.{counted-by, miscounted-by}
use Rattle.cfm_prepare.proofs.context.Context.prepare_at.Goals as goal

pub returns-then-count-addresses-clause-refused : goal.returns-then-count-addresses-clause-refused
returns-then-count-addresses-clause-refused c =
    let sections = c.in_ok-new_sections.field-0 in
    miscounted-by c.args.self.now c.args.name.now c.args.addresses.now sections.items c.in_ok-new_sections.ensures.sections (λ same. omega (arith, same, c.len-count.ensures, sections.ok.0, c.if-count-addresses.true))

pub open_root-requires-clause-counted : goal.open_root-requires-clause-counted
open_root-requires-clause-counted c = λ closed closes.
    let sections = c.in_ok-new_sections.field-0 in
    let now = c.new_sections.new.self in
    let P : ContextState → Type 0 = λ s. AreNewSections s c.args.name.now sections.items in
    let told = subst P (sym c.in_ok-new_sections.ensures.unchanged) c.in_ok-new_sections.ensures.sections in
    let count : length c.args.addresses.now ≡ length sections.items = omega (arith, c.len-count.ensures, sections.ok.0, c.if-count-addresses.false) in
    let is : place_of now.pairs c.args.name.now ≡ Some c.in-Some.root = rw (← c.self.view_is) (sym c.in-Some.ensures.place) in
    counted-by now c.args.name.now c.args.addresses.now sections.items told count closed c.in-Some.root is closes

pub returns-clause-prepared : goal.returns-clause-prepared
returns-clause-prepared c =
    let P : ContextState → Type 0 = λ s. PreparesBy (at_given c.args.addresses.now) s c.args.name.now c.in_ok-connection.connection.0 c.open_root.new.self in
    let is : place_of c.new_sections.new.self.pairs c.args.name.now ≡ Some c.in-Some.root = rw (← c.self.view_is) (sym c.in-Some.ensures.place) in
    subst P c.in_ok-new_sections.ensures.unchanged (c.in_ok-connection.ensures.prepared c.args.name.now is)
