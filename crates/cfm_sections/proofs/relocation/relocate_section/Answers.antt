-- The section's memory, relocated by the program, is put back in its place.
use Rattle.std.proofs.Common.{◌≡◌, ℕ, List, Some, length, sym, ap, ◌∙◌, arith}
use Rattle.cfm_memory.proofs.Laws.{fitted_same, written_given_back, written_here, written_holds, written_other}
use Rattle.pef_reloc.specs.declared.fault.RelocFault.{RelocFault}
use Rattle.pef_reloc.specs.Applied.{Addresses, Done}
use Rattle.pef_reloc.specs.Headers.{program_done}
use Rattle.std.proofs.lemmas.Option.{same_Some}
use Rattle.cfm_sections.proofs.relocation.relocate_section.Goals as goal

pub returns-clause-here : goal.returns-clause-here
returns-clause-here c = λ bytes there.
    let a : Addresses = record { sections = c.args.sections.now; imports = c.args.imports.now } in
    let part = c.part_mut-part.result.now in
    let same = same_Some part bytes (sym c.part_mut-part.ensures.bytes ∙ there) in
    let kept : length c.relocate_whole.new.memory ≡ length part = omega (arith, c.relocate_whole.auto.memory) in
    written_here c.args.memory.now.instances c.args.place.address c.relocate_whole.new.memory part c.part_mut-part.ensures.bytes
    ∙ ap Some (fitted_same part c.relocate_whole.new.memory kept ∙ ap (λ (d : Done RelocFault). d.memory) (sym c.relocate_whole.ensures) ∙ ap (λ (b : List ℕ). (program_done a c.args.program.now b).memory) same)

pub returns-clause-fault : goal.returns-clause-fault
returns-clause-fault c = λ bytes there.
    let a : Addresses = record { sections = c.args.sections.now; imports = c.args.imports.now } in
    let same = same_Some c.part_mut-part.result.now bytes (sym c.part_mut-part.ensures.bytes ∙ there) in
    ap (λ (d : Done RelocFault). d.fault) (sym c.relocate_whole.ensures) ∙ ap (λ (b : List ℕ). (program_done a c.args.program.now b).fault) same

pub returns-clause-elsewhere : goal.returns-clause-elsewhere
returns-clause-elsewhere c = λ address other. written_other c.args.memory.now.instances c.args.place.address address c.relocate_whole.new.memory (λ same. other (sym same))

pub returns-clause-others : goal.returns-clause-others
returns-clause-others c = λ places k under is. written_given_back c.args.memory.now c.args.place.address c.relocate_whole.new.memory places k under is

pub returns-clause-held : goal.returns-clause-held
returns-clause-held c = λ other held. written_holds c.args.memory.now.instances c.args.place.address other.address other.size c.relocate_whole.new.memory ∙ held
