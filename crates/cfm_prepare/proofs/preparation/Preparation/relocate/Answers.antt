-- One more fragment is relocated, and the others don't change.
use Rattle.std.proofs.Common.{◌≤◌, ℕ, List, Err, Option, get_or, length, refl, sym, ap, subst, ◌∙◌, arith}
use Rattle.std.proofs.lemmas.List.{drop_all}
use Rattle.std.proofs.lemmas.Result.{err_from_is_err_and}
use Rattle.cfm_memory.specs.Extents.{AreHeld, Stand}
use Rattle.pef_loader.specs.declared.program_fault.ProgramFault.{ProgramFault}
use Rattle.cfm_store.specs.Stores.{Pair}
use Rattle.cfm_prepare.specs.Addresses.{addresses_of, first_bad_program}
use Rattle.cfm_prepare.specs.Fragments.{Present, named, places_of, reloc_refusal_in, section_filled}
use Rattle.cfm_prepare.specs.Kept.Ready.{IsLaidOut, RelocatesUpTo, found_in}
use Rattle.cfm_prepare.proofs.FoundLemmas.{found-here, length-found}
use Rattle.cfm_prepare.proofs.StepLemmas.{changed-next, changes-one, first-here, first-next, relocates-first}
use Rattle.cfm_prepare.proofs.preparation.Preparation.relocate.Goals as goal

-- why a fragment isn't relocated
abbrev refusal-of : List Pair → List Present → Present → Option (List ℕ × ProgramFault)
refusal-of pairs all f = named pairs f.position (reloc_refusal_in pairs (addresses_of pairs all f) f.position)

pub relocate_fragment-requires-clause-laid : goal.relocate_fragment-requires-clause-laid
relocate_fragment-requires-clause-laid c =
    let i = c.loop-position.position-index in
    let here = found-here c.args.present.now.items c.args.self.now.new.now i (places_of c.args.present.now.items (get_or c.args.self.now.new.now i 0)) c.loop-position-test.true refl in
    subst (λ (f : Present). IsLaidOut c.args.self.now.closure.now.pairs f) (sym here.1) (c.requires.laid.each i here.0)

pub relocate_fragment-requires-clause-held : goal.relocate_fragment-requires-clause-held
relocate_fragment-requires-clause-held c =
    let at = c.loop-position in
    let i = at.position-index in
    let here = found-here c.args.present.now.items c.args.self.now.new.now i (places_of c.args.present.now.items (get_or c.args.self.now.new.now i 0)) c.loop-position-test.true refl in
    subst (λ (f : Present). AreHeld at.memory f.places) (sym here.1) (at.invariant.1.changes.held c.requires.held i here.0)

pub relocate_fragment-requires-clause-filled : goal.relocate_fragment-requires-clause-filled
relocate_fragment-requires-clause-filled c =
    let at = c.loop-position in
    let i = at.position-index in
    let here = found-here c.args.present.now.items c.args.self.now.new.now i (places_of c.args.present.now.items (get_or c.args.self.now.new.now i 0)) c.loop-position-test.true refl in
    subst (λ (f : Present). Stand at.memory f.places (section_filled c.args.self.now.closure.now.pairs f.position)) (sym here.1) (at.invariant.1.left i (omega arith) here.0)

pub loop-position-preserved : goal.loop-position-preserved
loop-position-preserved c =
    let at = c.loop-position in
    let i = at.position-index in
    let pairs = c.args.self.now.closure.now.pairs in
    let all = c.args.present.now.items in
    let fs = found_in all c.args.self.now.new.now in
    let here = found-here all c.args.self.now.new.now i (places_of all (get_or c.args.self.now.new.now i 0)) c.loop-position-test.true refl in
    let given = c.in_ok-relocate_fragment.ensures in (
      first-next (first_bad_program pairs all) (refusal-of pairs all) fs i _ (λ g gs. refl) here.0 here.1 given.refused at.invariant.0,
      changed-next c.args.memory.now at.memory c.relocate_fragment.new.memory fs _ _ i _ c.requires.laid.apart here.0 here.1 given.changes given.relocated at.invariant.1,
    )

pub returns-in_err-relocate_fragment-clause-changes : goal.returns-in_err-relocate_fragment-clause-changes
returns-in_err-relocate_fragment-clause-changes c =
    let at = c.loop-position in
    let i = at.position-index in
    let here = found-here c.args.present.now.items c.args.self.now.new.now i (places_of c.args.present.now.items (get_or c.args.self.now.new.now i 0)) c.loop-position-test.true refl in
    changes-one c.args.memory.now at.memory c.relocate_fragment.new.memory _ i _ c.requires.laid.apart here.0 here.1 c.in_err-relocate_fragment.ensures.changes at.invariant.1.changes

pub returns-in_err-relocate_fragment-clause-refused : goal.returns-in_err-relocate_fragment-clause-refused
returns-in_err-relocate_fragment-clause-refused c =
    let at = c.loop-position in
    let i = at.position-index in
    let pairs = c.args.self.now.closure.now.pairs in
    let all = c.args.present.now.items in
    let here = found-here all c.args.self.now.new.now i (places_of all (get_or c.args.self.now.new.now i 0)) c.loop-position-test.true refl in
    let fault = c.in_err-relocate_fragment.field-0.0 in
    let p = err_from_is_err_and c.from_residual.result c.from_residual.ensures.1 in
    rw (p.1, p.2) (first-here (RelocatesUpTo {A = Unit {0}} (Err fault)) (first_bad_program pairs all) (refusal-of pairs all) _ i _ (λ g gs. refl) (relocates-first fault) here.0 here.1 c.in_err-relocate_fragment.ensures.refused at.invariant.0)

pub returns-clause-refused : goal.returns-clause-refused
returns-clause-refused c =
    let at = c.loop-position in
    let all = c.args.present.now.items in
    let fs = found_in all c.args.self.now.new.now in
    let past : length fs ≤ at.position-index = omega (arith, c.loop-position-test.false, length-found all c.args.self.now.new.now) in
    sym at.invariant.0 ∙ ap (first_bad_program c.args.self.now.closure.now.pairs all) (drop_all at.position-index fs past)

pub returns-clause-relocated : goal.returns-clause-relocated
returns-clause-relocated c = λ j under.
    c.loop-position.invariant.1.done j (omega (arith, under, c.loop-position-test.false, length-found c.args.present.now.items c.args.self.now.new.now))
