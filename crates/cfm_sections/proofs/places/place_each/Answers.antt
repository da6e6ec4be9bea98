-- The sections placed so far, and the refusal after them.
use Rattle.std.proofs.Common.{◌≡◌, ◌+◌, ℕ, List, IsTrue, Some, length, sym, ap, subst, ◌∙◌, arith}
use Rattle.std.specs.Option.{option_map_or}
use Rattle.std.proofs.lemmas.Result.{err_from_is_err_and}
use Rattle.cfm_memory.specs.Extents.{ArePlacedWith, Extent, IsPlaceBy, Rule, with_one}
use Rattle.cfm_memory.specs.Instances.{Layout, holds_place, with_instances, without}
use Rattle.cfm_memory.specs.declared.place.Place.{Place}
use Rattle.cfm_memory.proofs.Laws.{one_given_back, one_held}
use Rattle.pef_views.specs.Container.{Contained, Section, section_of}
use Rattle.pef_views.specs.Views.{contained, seen}
use Rattle.cfm_sections.specs.Begun.{placed_at, placed_in}
use Rattle.cfm_sections.specs.Kept.Unplaced.{MayRefuseFor}
use Rattle.cfm_sections.specs.Rules.{rule_of}
use Rattle.cfm_sections.specs.Images.{extent_at, extent_in, extents_from}
use Rattle.cfm_sections.proofs.ImageLemmas.{placed_there}
use Rattle.cfm_sections.proofs.PlaceLemmas.{none_placed, placed_with_next, refused_with}
use Rattle.cfm_sections.proofs.places.place_each.Goals as goal

-- the memory that a section needs
extent_there : (c : Contained) (k : ℕ) (s : Section) → Some s ≡ section_of c k → extent_in s ≡ extent_at c k
extent_there c k s is = ap (λ o. option_map_or extent_in o (record { size = 0; alignment = 0 })) is

pub loop-i-init : goal.loop-i-init
loop-i-init c = none_placed (rule_of c.args.rule) c.args.memory.now (placed_at (contained c.args.container.now)) c.args.places.now.items c.requires

pub returns-in_err-place-clause-refused : goal.returns-in_err-place-clause-refused
returns-in_err-place-clause-refused c =
    let at = c.loop-i in
    let container = contained c.args.container.now in
    let count : c.from-count.result ≡ c.args.container.now.header.instantiated_section_count = c.from-count.ensures ∙ ap (λ h. h.instantiated_section_count) c.header.ensures.value in
    let is = extent_there container at.i (seen c.in-Some.section) c.in-Some.ensures.value in
    let p = err_from_is_err_and c.from_residual.result c.from_residual.ensures.1 in
    let P : Extent → Type 0 = λ e. MayRefuseFor (rule_of c.after-rest.result) at.memory e at.i c.in_err-place.field-0.0 in
    let R : Rule → Type 0 = λ r. MayRefuseFor r at.memory (extent_at container at.i) at.i c.in_err-place.field-0.0 in
    rw (p.1, p.2) (refused_with c.in_err-place.field-0.0 (rule_of c.args.rule) container (placed_at container) c.args.memory.now at.memory at.places.items at.i c.args.container.now.header.instantiated_section_count
    (omega (arith, c.loop-i-test.true, count)) at.invariant (subst R c.after-rest.ensures (subst P is c.in_err-place.ensures.refused)))

pub keep-requires : goal.keep-requires
keep-requires c =
    let place = c.in_ok-place.place in
    let bytes = placed_in (seen c.in-Some.section) in
    subst (λ (m : Layout). IsTrue (holds_place m place)) (sym c.in_ok-place.ensures.placed) (one_held c.loop-i.memory place bytes c.in_ok-place.ensures.size)

pub returns-in_err-keep-clause-so_far : goal.returns-in_err-keep-clause-so_far
returns-in_err-keep-clause-so_far c =
    let at = c.loop-i in
    let container = contained c.args.container.now in
    let given = c.in_err-keep.ensures.refused in
    let place = c.in_ok-place.place in
    let back : c.keep.new.memory ≡ at.memory = given.0 ∙ ap (λ (m : Layout). with_instances m (without m.instances place.address)) c.in_ok-place.ensures.placed ∙ one_given_back at.memory place (placed_in (seen c.in-Some.section)) in
    let Q : Layout → Type 0 = λ m. ArePlacedWith (rule_of c.args.rule) c.args.memory.now (extents_from container 0 at.i) (placed_at container) c.keep.new.places.items m in
    let R : List Place → Type 0 = λ ps. ArePlacedWith (rule_of c.args.rule) c.args.memory.now (extents_from container 0 at.i) (placed_at container) ps at.memory in
    (at.i, subst Q (sym back) (subst R (sym given.1) at.invariant))

pub loop-i-preserved : goal.loop-i-preserved
loop-i-preserved c =
    let at = c.loop-i in
    let container = contained c.args.container.now in
    let place = c.in_ok-place.place in
    let section = seen c.in-Some.section in
    let is = extent_there container at.i section c.in-Some.ensures.value in
    let here = sym (placed_there container at.i section c.in-Some.ensures.value) in
    let P : Extent → Type 0 = λ e. IsPlaceBy (rule_of c.after-rest.result) at.memory e place in
    let S : Rule → Type 0 = λ r. IsPlaceBy r at.memory (extent_at container at.i) place in
    let size : length (placed_at container at.i) ≡ place.size = sym (ap (λ (b : List ℕ). length b) here) ∙ c.in_ok-place.ensures.size in
    let placed = placed_with_next (rule_of c.args.rule) container (placed_at container) c.args.memory.now at.memory at.places.items at.i place at.invariant (subst S c.after-rest.ensures (subst P is c.in_ok-place.ensures.place)) size in
    let kept = c.in_ok-keep.ensures.kept in
    let after : c.keep.new.memory ≡ with_one at.memory place (placed_at container at.i) = kept.0 ∙ c.in_ok-place.ensures.placed ∙ ap (with_one at.memory place) here in
    let Q : Layout → Type 0 = λ m. ArePlacedWith (rule_of c.args.rule) c.args.memory.now (extents_from container 0 (at.i + 1)) (placed_at container) c.keep.new.places.items m in
    let R : List Place → Type 0 = λ ps. ArePlacedWith (rule_of c.args.rule) c.args.memory.now (extents_from container 0 (at.i + 1)) (placed_at container) ps (with_one at.memory place (placed_at container at.i)) in
    subst Q (sym after) (subst R (sym kept.1) placed)
