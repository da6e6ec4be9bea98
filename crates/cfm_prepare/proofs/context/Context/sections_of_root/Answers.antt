-- The closure is that of the store.
use Rattle.std.proofs.Common.{◌≡◌, ◌<◌, List, Some, sym, ap, subst, ◌∙◌}
use Rattle.std.proofs.lemmas.Result.{err_from_is_err_and}
use Rattle.cfm_closure.specs.Closures.{closed_of}
use Rattle.cfm_store.specs.Stores.{Pair, place_of}
use Rattle.cfm_closure.specs.Faults.{FailsAs}
use Rattle.cfm_closure.proofs.Laws.{closed-store}
use Rattle.cfm_prepare.specs.Contexts.{ContextState}
use Rattle.cfm_prepare.specs.Fragments.{new_among}
use Rattle.cfm_prepare.specs.NewSections.{MayNotTellSections, new_sections_of}
use Rattle.cfm_prepare.specs.Steps.{HasRoot}
use Rattle.cfm_prepare.proofs.OpenLemmas.{past-tells, within-of}
use Rattle.cfm_prepare.proofs.context.Context.sections_of_root.Goals as goal

pub returns-in_err-closure-clause-refused : goal.returns-in_err-closure-clause-refused
returns-in_err-closure-clause-refused c = λ name is.
    let p = err_from_is_err_and c.from_residual.result c.from_residual.ensures.1 in
    let has : HasRoot c.args.self.now name = record { left = c.requires.left; root = c.args.root; is = is } in
    let fails : FailsAs c.in_err-closure.field-0.0 (closed_of c.args.self.now.pairs c.args.root) = rw (← c.self.view_is) c.in_err-closure.ensures.answer in
    rw (p.1, p.2) (has, fails)

pub returns-in_err-test_bounds-clause-refused : goal.returns-in_err-test_bounds-clause-refused
returns-in_err-test_bounds-clause-refused c = λ name is.
    let p = err_from_is_err_and c.from_residual-in_err-test_bounds.result c.from_residual-in_err-test_bounds.ensures.1 in
    let closed = c.in_ok-closure.closure in
    let of_store = closed-store c.self.inside.store c.args.root closed c.in_ok-closure.ensures.answer in
    let Q : ContextState → Type 0 = λ s. place_of s.pairs name ≡ Some c.args.root in
    let R : ContextState → Type 0 = λ s. s.given < s.bounds.connections in
    let why : MayNotTellSections c.args.self.now name c.in_err-test_bounds.field-0.0 = rw (← c.self.view_is) (past-tells _ name (record { has = record { left = subst R (sym c.self.view_is) c.requires.left; root = c.args.root; is = subst Q (sym c.self.view_is) is }; closed = closed; is = c.in_ok-closure.ensures.answer }) closed.pairs c.in_err-test_bounds.field-0.0 of_store c.in_err-test_bounds.ensures.refused) in
    rw (p.1, p.2) why

pub returns-clause-sections : goal.returns-clause-sections
returns-clause-sections c = λ name is.
    let closed = c.in_ok-closure.closure in
    let of_store = closed-store c.self.inside.store c.args.root closed c.in_ok-closure.ensures.answer in
    let there = c.self.inside.fragments.present in
    let memory = c.self.inside.fragments.memory in
    let within = within-of c.self.inside.store closed.pairs there memory c.self.inside.options closed.order of_store c.in_ok-test_bounds.ensures.bytes c.in_ok-test_bounds.ensures.steps in
    let Q : ContextState → Type 0 = λ s. place_of s.pairs name ≡ Some c.args.root in
    let R : ContextState → Type 0 = λ s. s.given < s.bounds.connections in
    rw (← c.self.view_is) (record {
      closure = record { has = record { left = subst R (sym c.self.view_is) c.requires.left; root = c.args.root; is = subst Q (sym c.self.view_is) is }; closed = closed; is = c.in_ok-closure.ensures.answer };
      within = record { bytes = within.0; steps = within.1 };
      are = c.in_ok-sections.ensures ∙ ap (λ (ps : List Pair). new_sections_of ps memory.granule (new_among there closed.order)) of_store;
    })
