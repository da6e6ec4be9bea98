-- One more fragment is filled, and the others don't change.
use Rattle.std.proofs.Common.{◌≤◌, ℕ, List, Err, Option, length, refl, sym, ap, subst, ◌∙◌, arith}
use Rattle.std.proofs.lemmas.List.{drop_all}
use Rattle.std.proofs.lemmas.Result.{err_from_is_err_and}
use Rattle.cfm_memory.specs.Extents.{Stand}
use Rattle.cfm_store.specs.Stores.{Pair}
use Rattle.cfm_prepare.specs.Fragments.{Present, first_bad_image, image_refusal_in, named}
use Rattle.cfm_sections.specs.declared.image_fault.ImageFault.{ImageFault}
use Rattle.cfm_prepare.specs.Kept.Begun.{section_placed}
use Rattle.cfm_prepare.specs.Kept.Ready.{FillsUpTo, IsLaidOut, found_in}
use Rattle.cfm_prepare.proofs.FoundLemmas.{found-here, length-found}
use Rattle.cfm_prepare.proofs.StepLemmas.{changed-next, changes-one, fills-first, first-here, first-next}
use Rattle.cfm_prepare.proofs.preparation.Preparation.fill.Goals as goal

-- why a fragment isn't filled
abbrev refusal-of : List Pair → Present → Option (List ℕ × ImageFault)
refusal-of pairs f = named pairs f.position (image_refusal_in pairs f.position)

pub fill_fragment-requires-clause-laid : goal.fill_fragment-requires-clause-laid
fill_fragment-requires-clause-laid c =
    let here = found-here c.args.present.now.items c.args.self.now.new.now c.loop-position.position-index c.places.result.now c.loop-position-test.true c.places.ensures in
    subst (λ (f : Present). IsLaidOut c.args.self.now.closure.now.pairs f) (sym here.1) (c.requires.laid.each c.loop-position.position-index here.0)

pub fill_fragment-requires-clause-first : goal.fill_fragment-requires-clause-first
fill_fragment-requires-clause-first c =
    let at = c.loop-position in
    let here = found-here c.args.present.now.items c.args.self.now.new.now at.position-index c.places.result.now c.loop-position-test.true c.places.ensures in
    subst (λ (f : Present). Stand at.memory f.places (section_placed c.args.self.now.closure.now.pairs f.position)) (sym here.1) (at.invariant.1.left at.position-index (omega arith) here.0)

pub loop-position-preserved : goal.loop-position-preserved
loop-position-preserved c =
    let at = c.loop-position in
    let pairs = c.args.self.now.closure.now.pairs in
    let fs = found_in c.args.present.now.items c.args.self.now.new.now in
    let here = found-here c.args.present.now.items c.args.self.now.new.now at.position-index c.places.result.now c.loop-position-test.true c.places.ensures in
    let given = c.in_ok-fill_fragment.ensures in (
      first-next (first_bad_image pairs) (refusal-of pairs) fs at.position-index _ (λ g gs. refl) here.0 here.1 given.refused at.invariant.0,
      changed-next c.args.memory.now at.memory c.fill_fragment.new.memory fs _ _ at.position-index _ c.requires.laid.apart here.0 here.1 given.changes given.filled at.invariant.1,
    )

pub returns-in_err-fill_fragment-clause-changes : goal.returns-in_err-fill_fragment-clause-changes
returns-in_err-fill_fragment-clause-changes c =
    let at = c.loop-position in
    let here = found-here c.args.present.now.items c.args.self.now.new.now at.position-index c.places.result.now c.loop-position-test.true c.places.ensures in
    changes-one c.args.memory.now at.memory c.fill_fragment.new.memory _ at.position-index _ c.requires.laid.apart here.0 here.1 c.in_err-fill_fragment.ensures.changes at.invariant.1.changes

pub returns-in_err-fill_fragment-clause-refused : goal.returns-in_err-fill_fragment-clause-refused
returns-in_err-fill_fragment-clause-refused c =
    let at = c.loop-position in
    let pairs = c.args.self.now.closure.now.pairs in
    let here = found-here c.args.present.now.items c.args.self.now.new.now at.position-index c.places.result.now c.loop-position-test.true c.places.ensures in
    let fault = c.in_err-fill_fragment.field-0.0 in
    let p = err_from_is_err_and c.from_residual.result c.from_residual.ensures.1 in
    rw (p.1, p.2) (first-here (FillsUpTo {A = Unit {0}} (Err fault)) (first_bad_image pairs) (refusal-of pairs) _ at.position-index _ (λ g gs. refl) (fills-first fault) here.0 here.1 c.in_err-fill_fragment.ensures.refused at.invariant.0)

pub returns-clause-refused : goal.returns-clause-refused
returns-clause-refused c =
    let at = c.loop-position in
    let fs = found_in c.args.present.now.items c.args.self.now.new.now in
    let past : length fs ≤ at.position-index = omega (arith, c.loop-position-test.false, length-found c.args.present.now.items c.args.self.now.new.now) in
    sym at.invariant.0 ∙ ap (first_bad_image c.args.self.now.closure.now.pairs) (drop_all at.position-index fs past)

pub returns-clause-filled : goal.returns-clause-filled
returns-clause-filled c = λ j under.
    c.loop-position.invariant.1.done j (omega (arith, under, c.loop-position-test.false, length-found c.args.present.now.items c.args.self.now.new.now))
