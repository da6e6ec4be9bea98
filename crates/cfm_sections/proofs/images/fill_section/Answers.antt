-- The memory is filled, and put back in its place.
use Rattle.std.proofs.Common.{◌≡◌, ℕ, List, [], Some, length, replicate, sym, ap, ◌∙◌, arith}
use Rattle.std.specs.Result.{result_unwrap_or}
use Rattle.cfm_memory.proofs.Laws.{fitted_same, written_given_back, written_here, written_holds, written_other}
use Rattle.pef_format.specs.Sections.{is_packed}
use Rattle.pef_views.specs.Views.{seen}
use Rattle.pef_words.specs.Bytes.{filled}
use Rattle.pef_words.specs.Refusals.{result_map}
use Rattle.std.proofs.lemmas.Option.{same_Some}
use Rattle.cfm_sections.specs.Images.{image_of}
use Rattle.cfm_sections.proofs.ImageLemmas.{filling_done, filling_refused, on_ok, packed_zeros}
use Rattle.cfm_sections.proofs.images.fill_section.Goals as goal

pub returns-clause-refused : goal.returns-clause-refused
returns-clause-refused c = filling_refused c.expand_image.result c.expand_image.new.memory c.part_mut-part.result.now (image_of (seen c.args.section.now)) c.expand_image.ensures

pub returns-clause-here : goal.returns-clause-here
returns-clause-here c =
    let part = c.part_mut-part.result.now in
    let section = seen c.args.section.now in
    let placed = same_Some _ _ (sym c.part_mut-part.ensures.bytes ∙ c.requires.first) in
    let packed = sym (c.is_packed.ensures ∙ ap is_packed c.kind.ensures) ∙ c.if-not-is_packed.false in
    let zeros = placed ∙ packed_zeros section packed ∙ ap (λ size. replicate size 0) (sym c.requires.size) in
    let kept : length c.expand_image.new.memory ≡ length part = omega (arith, c.expand_image.auto.memory) in
    let here = written_here c.args.memory.now.instances c.args.place.address c.expand_image.new.memory part c.part_mut-part.ensures.bytes ∙ ap Some (fitted_same part c.expand_image.new.memory kept) in
    on_ok c.expand_image.result (λ done. here ∙ ap Some (done ∙ ap (λ size. result_unwrap_or (result_map (λ (i : List ℕ). filled i size) (image_of section)) []) c.requires.size))
    (filling_done c.expand_image.result c.expand_image.new.memory part (image_of section) c.args.place.size c.expand_image.ensures zeros)

pub returns-clause-elsewhere : goal.returns-clause-elsewhere
returns-clause-elsewhere c = λ address other. written_other c.args.memory.now.instances c.args.place.address address c.expand_image.new.memory (λ same. other (sym same))

pub returns-clause-others : goal.returns-clause-others
returns-clause-others c = λ places k under is. written_given_back c.args.memory.now c.args.place.address c.expand_image.new.memory places k under is

pub returns-clause-held : goal.returns-clause-held
returns-clause-held c = λ other held. written_holds c.args.memory.now.instances c.args.place.address other.address other.size c.expand_image.new.memory ∙ held
