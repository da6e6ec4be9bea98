-- The fragment's sections and its imports' targets have the addresses that it is relocated with.
use Rattle.std.proofs.Common.{◌≡◌, ℕ, List, Some, length, map, sym, ap, ap₂, subst, ◌∙◌}
use Rattle.cfm_memory.specs.Extents.{Stand}
use Rattle.cfm_memory.specs.declared.place.Place.{Place}
use Rattle.std.specs.Prelude.{option_map}
use Rattle.std.proofs.lemmas.Option.{same_Some}
use Rattle.pef_views.specs.Container.{Contained}
use Rattle.pef_views.specs.Views.{contained}
use Rattle.pef_loader.specs.Programs.{fault_in_program}
use Rattle.pef_loader.specs.declared.program_fault.ProgramFault.{ProgramFault}
use Rattle.cfm_sections.specs.declared.relocation.HeaderFault.{HeaderFault}
use Rattle.pef_loader.specs.Loader.{reloc_of}
use Rattle.pef_loader.specs.Views.{loaded}
use Rattle.pef_reloc.specs.Applied.{Addresses}
use Rattle.pef_reloc.specs.Headers.{relocated_by}
use Rattle.cfm_closure.specs.Fragments.{import_count, loader_at}
use Rattle.cfm_sections.specs.Images.{filled_at}
use Rattle.cfm_sections.specs.Prepared.{first_header_refusal, prepared_at}
use Rattle.cfm_prepare.specs.Addresses.{addresses_from, addresses_of}
use Rattle.cfm_prepare.specs.Fragments.{named, places_of, present_of}
use Rattle.cfm_prepare.proofs.FragmentLemmas.{container-of, length-there, prepared-there, program-there, stand-there}
use Rattle.cfm_prepare.proofs.preparation.Preparation.relocate_fragment.Goals as goal

pub relocate_sections-requires-clause-count : goal.relocate_sections-requires-clause-count
relocate_sections-requires-clause-count c =
    let p = c.args.position in
    let loader = loaded c.loader-loader.result in
    let is : loader_at c.args.self.now.closure.now.pairs p ≡ Some loader = c.loader-loader.ensures in
    let t = container-of c.args.self.now.closure.now.pairs p loader is in
    let fits = c.requires.laid.fits in
    t.2 ∙ sym (length-there fits.rule c.args.self.now.closure.now.pairs p t.0 fits.before fits.after (places_of c.args.present.now.items c.args.position) t.1 fits.placed) ∙ ap length (sym c.places-places.ensures)

pub returns-in-Ok-clause-relocated : goal.returns-in-Ok-clause-relocated
returns-in-Ok-clause-relocated c =
    let store = c.args.self.now.closure.now.pairs in
    let all = c.args.present.now.items in
    let f = present_of all c.args.position in
    let p = f.position in
    let loader = loaded c.loader-loader.result in
    let is : loader_at store p ≡ Some loader = c.loader-loader.ensures in
    let t = container-of store p loader is in
    let a : Addresses = record { sections = c.deref.result.now; imports = c.deref-2.result.now } in
    let sections_are = c.deref.ensures.value ∙ c.in_ok-sections.ensures ∙ ap (λ ps. map (λ (q : Place). q.address) ps) c.places-places.ensures in
    let imports_are : c.deref-2.result.now ≡ addresses_from store all p 0 (import_count store p) = (c.deref-2.ensures.value ∙ c.in_ok-imports.ensures) in
    let same : a ≡ addresses_of store all f = ap₂ (λ s i. record { sections = s; imports = i }) sections_are imports_are in
    let after = c.relocate_sections.new.memory in
    let R : List Place → Type 0 = λ ps. (bytes : ℕ → List ℕ) → Stand c.args.memory.now ps bytes → Stand after ps (λ k. (relocated_by a k (reloc_of loader) 0 loader.header.reloc_count (bytes k)).memory) in
    let done : Stand after f.places (prepared_at t.0 loader a) = subst R c.places-places.ensures c.in-Ok.ensures.relocated (filled_at t.0) (stand-there store p t.0 c.args.memory.now f.places t.1 c.requires.filled) in
    let D : Addresses → Type 0 = λ b. Stand after f.places (prepared_at t.0 loader b) in
    prepared-there store p t.0 loader (addresses_of store all f) after f.places t.1 is (subst D same done)

pub returns-clause-refused : goal.returns-clause-refused
returns-clause-refused c =
    let store = c.args.self.now.closure.now.pairs in
    let all = c.args.present.now.items in
    let f = present_of all c.args.position in
    let p = f.position in
    let loader = loaded c.loader-loader.result in
    let is : loader_at store p ≡ Some loader = c.loader-loader.ensures in
    let t = container-of store p loader is in
    let a : Addresses = record { sections = c.deref.result.now; imports = c.deref-2.result.now } in
    let sections_are = c.deref.ensures.value ∙ c.in_ok-sections.ensures ∙ ap (λ ps. map (λ (q : Place). q.address) ps) c.places-places.ensures in
    let imports_are : c.deref-2.result.now ≡ addresses_from store all p 0 (import_count store p) = (c.deref-2.ensures.value ∙ c.in_ok-imports.ensures) in
    let same : a ≡ addresses_of store all f = ap₂ (λ s i. record { sections = s; imports = i }) sections_are imports_are in
    let R : List Place → Type 0 = λ ps. (bytes : ℕ → List ℕ) → Stand c.args.memory.now ps bytes → Some c.in-Err.refused ≡ first_header_refusal a bytes (reloc_of loader) loader.header.reloc_count in
    let done = subst R c.places-places.ensures c.in-Err.ensures.refused (filled_at t.0) (stand-there store p t.0 c.args.memory.now f.places t.1 c.requires.filled) in
    let D : Addresses → Type 0 = λ b. Some c.in-Err.refused ≡ first_header_refusal b (filled_at t.0) (reloc_of loader) loader.header.reloc_count in
    let h = c.in-Err.refused in
    let placed : Contained → ProgramFault = λ d. fault_in_program d h.header h.section h.fault in
    let one : t.0 ≡ contained c.container-container.result = same_Some _ _ (sym t.1 ∙ c.container-container.ensures) in
    ap (λ o. named store p o) (program-there store p t.0 loader (addresses_of store all f) t.1 is ∙ ap (option_map (λ (h : HeaderFault). fault_in_program t.0 h.header h.section h.fault)) (sym (subst D same done)) ∙ ap (λ d. Some (placed d)) one ∙ ap Some (sym c.new-program.ensures))
    ∙ ap (λ n. Some (n, c.new-program.result)) (sym c.name.ensures)
