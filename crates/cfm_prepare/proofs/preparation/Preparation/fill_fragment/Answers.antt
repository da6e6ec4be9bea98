-- The fragment's sections are those of its container.
use Rattle.std.proofs.Common.{◌≡◌, Some, length, sym, ap, ◌∙◌, arith}
use Rattle.pef_views.specs.Views.{contained}
use Rattle.cfm_closure.specs.Fragments.{container_at}
use Rattle.cfm_sections.proofs.Laws.{size-fragment}
use Rattle.cfm_prepare.specs.Fragments.{named}
use Rattle.cfm_prepare.proofs.FragmentLemmas.{begun-there, image-there, length-there, placed-there}
use Rattle.cfm_prepare.proofs.preparation.Preparation.fill_fragment.Goals as goal

pub fill_sections-requires-clause-there : goal.fill_sections-requires-clause-there
fill_sections-requires-clause-there c =
    let is : container_at c.args.self.now.closure.now.pairs c.args.position ≡ Some (contained c.container-container.result) = c.container-container.ensures in
    let fits = c.requires.laid.fits in
    let len = length-there fits.rule c.args.self.now.closure.now.pairs c.args.position (contained c.container-container.result) fits.before fits.after c.args.places.now is fits.placed in
    omega (arith, len)

pub fill_sections-requires-clause-sizes : goal.fill_sections-requires-clause-sizes
fill_sections-requires-clause-sizes c =
    let container = contained c.container-container.result in
    let is : container_at c.args.self.now.closure.now.pairs c.args.position ≡ Some container = c.container-container.ensures in
    let fits = c.requires.laid.fits in
    (size-fragment fits.rule container fits.before fits.after c.args.places.now (placed-there fits.rule c.args.self.now.closure.now.pairs c.args.position container fits.before fits.after c.args.places.now is fits.placed))

pub fill_sections-requires-clause-first : goal.fill_sections-requires-clause-first
fill_sections-requires-clause-first c =
    begun-there c.args.self.now.closure.now.pairs c.args.position (contained c.container-container.result) c.args.memory.now c.args.places.now c.container-container.ensures c.requires.first

pub returns-in-Ok-clause-refused : goal.returns-in-Ok-clause-refused
returns-in-Ok-clause-refused c =
    let container = contained c.container-container.result in
    let p = c.args.position in
    let is : container_at c.args.self.now.closure.now.pairs p ≡ Some container = c.container-container.ensures in
    let fits = c.requires.laid.fits in
    let len = length-there fits.rule c.args.self.now.closure.now.pairs p container fits.before fits.after c.args.places.now is fits.placed in
    ap (λ o. named c.args.self.now.closure.now.pairs p o) (image-there c.args.self.now.closure.now.pairs p container (length c.args.places.now) is len ∙ sym c.in-Ok.ensures.refused)

pub returns-in-Err-clause-refused : goal.returns-in-Err-clause-refused
returns-in-Err-clause-refused c =
    let container = contained c.container-container.result in
    let p = c.args.position in
    let is : container_at c.args.self.now.closure.now.pairs p ≡ Some container = c.container-container.ensures in
    let fits = c.requires.laid.fits in
    let len = length-there fits.rule c.args.self.now.closure.now.pairs p container fits.before fits.after c.args.places.now is fits.placed in
    ap (λ o. named c.args.self.now.closure.now.pairs p o) (image-there c.args.self.now.closure.now.pairs p container (length c.args.places.now) is len ∙ sym c.in-Err.ensures.refused)
    ∙ ap (λ n. Some (n, c.in-Err.image)) (sym c.name.ensures)
