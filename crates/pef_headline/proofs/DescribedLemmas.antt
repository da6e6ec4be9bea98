-- A container that was linked from a script, placed, filled and relocated with any addresses of its imports'
-- targets, has the memory that the script describes under these addresses. Nothing of it is refused.
use Rattle.std.proofs.Common.{◌≡◌, ℕ, suc, ◌+◌, ◌<◌, ◌^◌, Bool, true, false, List, [], ◌∷◌, None, Some, get_or, length, map, option_map, take, refl, sym, ap, ap₂, subst, ◌∙◌, arith}
use Rattle.std.specs.List.{slice_get}
use Rattle.std.specs.Option.{option_and_then, option_map_or}
use Rattle.std.specs.Prelude.{Ok, if◌then◌else◌}
use Rattle.std.specs.Result.{result_err, result_unwrap_or}
use Rattle.std.proofs.lemmas.List.{length-map, take_all}
use Rattle.std.proofs.lemmas.Option.{slice_get-get_or}
use Rattle.cfm_memory.specs.Extents.{ArePlacedBy, Rule}
use Rattle.cfm_memory.specs.Instances.{Layout}
use Rattle.cfm_memory.specs.declared.place.Place.{Place}
use Rattle.cfm_memory.proofs.Laws.{length-placed}
use Rattle.cfm_sections.specs.Images.{extent_at, extent_in, extents_from, extents_of, fault_in_image, filled_at, filled_in, first_image_refusal, image_of, image_refusal}
use Rattle.cfm_sections.specs.Prepared.{addresses_at, first_reloc_refusal, prepared_at}
use Rattle.cfm_sections.proofs.Laws.{headers-unrefused}
use Rattle.pef_format.specs.declared.section.SectionKind.TheVariants as kind
use Rattle.pef_format.specs.declared.section.Share.TheVariants as share
use Rattle.pef_format.specs.Sections.{is_packed}
use Rattle.pef_format.proofs.Laws.{kind-again}
use Rattle.pef_loader.specs.Loader.{Loaded, reloc_of}
use Rattle.pef_pidata.specs.Packing.{packed_of}
use Rattle.pef_pidata.specs.Pattern.{pattern_text}
use Rattle.pef_pidata.proofs.Laws.{packed-expands}
use Rattle.pef_reloc.specs.declared.instr.Instr.{Instr}
use Rattle.pef_reloc.specs.Additions.{AreInside}
use Rattle.pef_reloc.specs.declared.fault.RelocFault.{RelocFault}
use Rattle.pef_reloc.specs.Applied.{Addresses, Done, address_of}
use Rattle.pef_reloc.specs.Headers.{program_done, refusal_at, relocated_by, untouched}
use Rattle.pef_reloc.specs.Instrs.{spelled}
use Rattle.pef_reloc.proofs.Laws.{count-length, fixups_fit-parts}
use Rattle.pef_reloc.proofs.Laws.Headers.{program-described, programs-sound, refusal-of}
use Rattle.pef_script.specs.Described.{described_at, described_memory}
use Rattle.pef_script.specs.Script.{DescribedScript, DescribedSection}
use Rattle.pef_script.specs.WellFormed.{SectionHolds}
use Rattle.pef_views.specs.Container.{Contained}
use Rattle.pef_words.specs.Bytes.{filled}
use Rattle.pef_words.specs.Refusals.{result_map}
use Rattle.pef_words.proofs.Laws.Images.{length-filled}
use Rattle.pef_words.proofs.Laws.Lists.{all-get}
use Rattle.pef_words.proofs.Laws.Refusals.{first_among-none}
use Rattle.pef_write.specs.Containers.{raw_of, section_header}
use Rattle.pef_write.specs.Linked.{IsLinked, IsProgramFor, LinkedContainer, programs_from}
use Rattle.pef_write.specs.ReadBack.{program_read}
use Rattle.pef_write.proofs.Laws.{section_programs}
use Rattle.pef_headline.specs.Now.{described_extent, described_extents}
use Rattle.pef_headline.proofs.LinkedLemmas.{IsContainerOf}
use Rattle.pef_headline.proofs.ProgramLemmas.{Owns, fixups_inside, owns-program, section_made}

-- raw bytes are packed, and expand to the image, or are the image
raw_expands : (packed : Bool) (image : List ℕ) → length image < 2 ^ 32
    → let raw = if packed then packed_of image else image in
    (if packed then pattern_text raw (length image) else Ok (take (length image) raw)) ≡ Ok image
raw_expands true image small = packed-expands image small
raw_expands false image small = ap Ok (take_all (length image) image (omega arith))

-- so the image of a section of a script comes from its raw bytes
image_whole : (m n : ℕ) (s : DescribedSection) (at : ℕ) → SectionHolds m n s → image_of (record { header = section_header s at; raw = raw_of s }) ≡ Ok s.image
unfolding image_of
image_whole m n s at holds = rw (kind-again s.header.kind holds.kind) (raw_expands (is_packed s.header.kind) s.image (omega (arith, holds.image, holds.total)))

-- the extents are those that a script's sections need, if each section of a container is one of the script
extents_same : (c : Contained) (sections : List DescribedSection) (from : ℕ) → ((k : ℕ) (s : DescribedSection) → slice_get sections k ≡ Some s → extent_at c (from + k) ≡ described_extent s)
    → extents_from c from (length sections) ≡ map described_extent sections
extents_same c [] from each = refl
extents_same c (s ∷ sections) from each =
    let here : from ≡ from + 0 = omega arith in
    let next : (k : ℕ) → from + 1 + k ≡ from + suc k = λ k. omega arith in
    ap₂ (λ e es. e ∷ es) (ap (extent_at c) here ∙ each 0 s refl) (extents_same c sections (from + 1) (λ k t there. ap (extent_at c) (next k) ∙ each (suc k) t there))

-- the addresses of a script's sections, and of its imports
pub record AreAddresses (script : DescribedScript) (a : Addresses) : Type 0 where
  pub sections : length a.sections ≡ length script.sections
  pub imports : length a.imports ≡ length script.imports

module _ (script : DescribedScript) (k : LinkedContainer) (linked : IsLinked script k) (c : Contained) (l : Loaded) (of : IsContainerOf script k linked c l) where
  -- the extents are those that the script describes
  pub extents_are : extents_of c ≡ described_extents script
  extents_are =
      let from_0 : (i : ℕ) → 0 + i ≡ i = λ i. omega arith in
      let each : (i : ℕ) (s : DescribedSection) → slice_get script.sections i ≡ Some s → extent_at c (0 + i) ≡ described_extent s = λ i s there.
      ap (extent_at c) (from_0 i) ∙ ap (λ o. option_map_or extent_in o (record { size = 0; alignment = 0 })) (of.sections.each i s there).is in
      ap (extents_from c 0) of.sections.instantiated ∙ extents_same c script.sections 0 each

  -- a section holds
  held : (i : ℕ) (s : DescribedSection) → slice_get script.sections i ≡ Some s → SectionHolds (length script.sections) (length script.imports) s
  held i s there = all-get (SectionHolds (length script.sections) (length script.imports)) script.sections i s linked.holds.sections.each there

  -- and is filled with its image
  filled_is : (i : ℕ) (s : DescribedSection) → slice_get script.sections i ≡ Some s → filled_at c i ≡ filled s.image s.header.total
  filled_is i s there =
      let part = of.sections.each i s there in
      ap (λ o. option_map_or (λ t. result_unwrap_or (filled_in t) []) o []) part.is
      ∙ ap (λ r. result_unwrap_or (result_map (λ (image : List ℕ). filled image s.header.total) r) []) (image_whole (length script.sections) (length script.imports) s part.at (held i s there))

  image_sound : (i : ℕ) (s : DescribedSection) → slice_get script.sections i ≡ Some s → image_refusal c i ≡ None
  image_sound i s there =
      let part = of.sections.each i s there in
      ap (option_and_then (λ t. option_map (fault_in_image c i) (result_err (image_of t)))) part.is ∙ ap (λ r. option_map (fault_in_image c i) (result_err r)) (image_whole (length script.sections) (length script.imports) s part.at (held i s there))

  -- section i becomes what the script describes
  made : (a : Addresses) → AreAddresses script a → (i : ℕ) (s : DescribedSection) → slice_get script.sections i ≡ Some s
      → relocated_by a i (reloc_of l) 0 l.header.reloc_count (filled s.image s.header.total) ≡ untouched (described_memory (address_of a) s)
  made a there_are i s there =
      let holds = held i s there in
      let memory = filled s.image s.header.total in
      let full : length memory ≡ s.header.total = length-filled s.image s.header.total holds.image in
      let H : ℕ → Type 0 = λ n. SectionHolds n (length a.imports) s in
      let H' : ℕ → Type 0 = λ n. SectionHolds (length script.sections) n s in
      let inside = fixups_inside a s (subst H (sym there_are.sections) (subst H' (sym there_are.imports) holds)) in
      let I : ℕ → Type 0 = λ n. AreInside a n s.fixups in
      let P : ℕ → Type 0 = λ n. (instrs : List Instr) → IsProgramFor n s.fixups instrs → program_done a (spelled instrs) memory ≡ untouched (described_memory (address_of a) s) in
      let parts = fixups_fit-parts s.fixups holds.fixups in
      let makes : P (length a.sections) = λ instrs program. program-described a s.fixups instrs memory program.flat program.makes program.names (omega (arith, program.short, parts.count, count-length instrs)) parts.apart (subst I (sym full) inside) in
      let entries = programs_from 0 script.sections linked.programs in
      let from_0 : 0 + i ≡ i = omega arith in
      let owns : Owns (length script.sections) i s.fixups entries = subst (λ j. Owns (length script.sections) j s.fixups entries) from_0 (owns-program (length script.sections) i 0 script.sections linked.programs s linked.are there) in
      ap (λ n. relocated_by a i (reloc_of l) 0 n memory) of.tables.reloc_count
      ∙ section_made a (reloc_of l) entries (length script.sections) i s.fixups memory of.tables.relocs owns (subst P there_are.sections makes)

  pub prepared_is : (a : Addresses) → AreAddresses script a → (i : ℕ) → i < length script.sections → prepared_at c l a i ≡ described_at (address_of a) script i
  prepared_is a there_are i under =
      let d : DescribedSection = record { header = record { name = []; kind = kind.Code; share = share.Process; align = 0; total = 0 }; image = []; fixups = [] } in
      let s = get_or script.sections i d in
      let there = slice_get-get_or script.sections i d under in
      ap (λ (m : List ℕ). (relocated_by a i (reloc_of l) 0 l.header.reloc_count m).memory) (filled_is i s there)
      ∙ ap (λ (done : Done RelocFault). done.memory) (made a there_are i s there)
      ∙ sym (ap (λ o. option_map_or (described_memory (address_of a)) o []) there)

  -- no relocation header is refused
  header_sound : (a : Addresses) → AreAddresses script a → (i : ℕ) → i < l.header.reloc_count → refusal_at a (filled_at c) (reloc_of l) i ≡ None
  header_sound a there_are i under =
      let entries = programs_from 0 script.sections linked.programs in
      let low : i < length entries = omega (arith, under, of.tables.reloc_count) in
      let p = get_or entries i (record { section = 0; bytes = [] }) in
      let there = slice_get-get_or entries i (record { section = 0; bytes = [] }) low in
      let source = section_programs script k linked i p there in
      let header : reloc_of l i ≡ Some (p.section, p.bytes) = of.tables.relocs i ∙ ap (option_map program_read) there in
      let from_0 : 0 + i ≡ i = omega arith in
      let sound : (relocated_by a p.section (reloc_of l) 0 l.header.reloc_count (filled_at c p.section)).fault ≡ None =
      ap (λ (m : List ℕ). (relocated_by a p.section (reloc_of l) 0 l.header.reloc_count m).fault) (filled_is p.section source.section source.there)
      ∙ ap (λ (done : Done RelocFault). done.fault) (made a there_are p.section source.section source.there) in
      refusal-of a (filled_at c) (reloc_of l) i p.section p.bytes header
      ∙ programs-sound a p.section (reloc_of l) i 0 l.header.reloc_count p.bytes (filled_at c p.section) under (ap (reloc_of l) from_0 ∙ header) sound

  pub headers_sound : (a : Addresses) → AreAddresses script a → first_reloc_refusal c l a ≡ None
  headers_sound a there_are = headers-unrefused c l a (λ i under. header_sound a there_are i under)

  pub images_sound : first_image_refusal c c.header.instantiated_section_count ≡ None
  images_sound =
      let d : DescribedSection = record { header = record { name = []; kind = kind.Code; share = share.Process; align = 0; total = 0 }; image = []; fixups = [] } in
      first_among-none (image_refusal c) 0 c.header.instantiated_section_count
      (λ i low high. image_sound i (get_or script.sections i d) (slice_get-get_or script.sections i d (omega (arith, high, of.sections.instantiated))))

  pub length-extents : length (extents_of c) ≡ length script.sections
  length-extents = ap length extents_are ∙ length-map script.sections described_extent

  -- places of its sections give addresses, one for each import
  pub addresses_are : (rule : Rule) (before empty : Layout) (imports : List ℕ) (places : List Place) → length imports ≡ length script.imports → ArePlacedBy rule before (extents_of c) places empty → AreAddresses script (addresses_at places imports)
  addresses_are rule before empty imports places count placed = record {
    sections = length-map places (λ (p : Place). p.address) ∙ length-placed rule before (extents_of c) places empty placed ∙ length-extents;
    imports = count;
  }
