-- One more section is filled, or it is the first that is refused.
use Rattle.std.proofs.Common.{◌≡◌, ◌<◌, ℕ, Some, length, refl, sym, ap, subst, ◌∙◌, inl, inr, arith, rules}
use Rattle.std.proofs.lemmas.Bool.{cases_lt}
use Rattle.std.specs.Prelude.{option_map}
use Rattle.cfm_memory.specs.Extents.{place_at}
use Rattle.cfm_memory.specs.Instances.{bytes_at}
use Rattle.pef_views.specs.Views.{contained, seen}
use Rattle.pef_views.proofs.Laws.{counts}
use Rattle.pef_words.proofs.Laws.Refusals.{first_among-here, first_among-next}
use Rattle.cfm_sections.specs.Images.{fault_in_image, filled_at, image_refusal}
use Rattle.cfm_sections.proofs.ImageLemmas.{filled_there, refusal_there}
use Rattle.cfm_sections.proofs.images.fill_sections.Goals as goal

pub unreachable-requires : goal.unreachable-requires
unreachable-requires c =
    let fewer = counts (contained c.args.container.now) c.args.container.now.accepted in
    let under : c.loop-k.k < c.args.container.now.header.section_count = omega (arith, c.loop-k-test.true, c.requires.there, fewer) in
    search (rules, under)

pub returns-in-Err-clause-refused : goal.returns-in-Err-clause-refused
returns-in-Err-clause-refused c =
    let at = c.loop-k in
    let container = contained c.args.container.now in
    let here =
    refusal_there container at.k (seen c.in-Some.section) c.in-Some.ensures.value
    ∙ ap (option_map (fault_in_image container at.k)) (sym c.in-Err.ensures.refused)
    ∙ ap Some (sym c.new.ensures) in
    sym (first_among-here (image_refusal container) at.k (length c.args.places.now) c.new.result c.loop-k-test.true here) ∙ at.invariant.left

pub loop-k-preserved : goal.loop-k-preserved
loop-k-preserved c =
    let at = c.loop-k in
    let places = c.args.places.now in
    let container = contained c.args.container.now in
    let done = c.in-Ok.ensures in
    let unrefused = refusal_there container at.k (seen c.in-Some.section) c.in-Some.ensures.value ∙ ap (option_map (fault_in_image container at.k)) (sym done.refused) in
    record {
      left = sym (first_among-next (image_refusal container) at.k (length places) c.loop-k-test.true unrefused) ∙ at.invariant.left;
      filled = λ j low under. elim (cases_lt j at.k) [
        | inl less ↦ done.elsewhere (place_at places j).address (c.requires.apart j at.k less c.loop-k-test.true) ∙ at.invariant.filled j less under
        | inr more ↦ (
            let same : at.k ≡ j = omega (arith, low, more) in
            let P : ℕ → Type 0 = λ i. bytes_at c.fill_section.new.memory.instances (place_at places i).address ≡ Some (filled_at container i) in
            subst P same (done.here ∙ ap Some (sym (filled_there container at.k (seen c.in-Some.section) c.in-Some.ensures.value))))
      ];
      first = λ j low under. done.elsewhere (place_at places j).address (λ same. c.requires.apart at.k j (omega (arith, low)) under (sym same)) ∙ at.invariant.first j (omega (arith, low)) under;
      others = done.others places at.k c.loop-k-test.true refl ∙ at.invariant.others;
      held = λ before i d low. done.held _ (at.invariant.held before i d low);
    }
