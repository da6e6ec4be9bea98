-- A container of which no image and no relocation header is refused, with some addresses, is sound.
use Rattle.std.proofs.Common.{◌≡◌, ◌∙◌, ℕ, ◌<◌, Bool, true, false, cond, List, length, take, Option, None, Some, Ok, refl, sym, ap, arith}
use Rattle.std.specs.Prelude.{option_map, nat_le, ◌&&◌, if◌then◌else◌}
use Rattle.std.specs.Option.{option_and_then, option_or}
use Rattle.std.specs.Result.{result_err}
use Rattle.std.proofs.lemmas.Bool.{lt-ltb}
use Rattle.pef_words.specs.Refusals.{◌>>=◌}
use Rattle.pef_words.proofs.Laws.Refusals.{none_among}
use Rattle.pef_format.specs.Sections.{is_packed, kind_of}
use Rattle.pef_views.specs.Container.{Contained, container_of, section_in}
use Rattle.pef_views.specs.Section.{raw_of}
use Rattle.pef_views.specs.declared.section.SectionHeader.{SectionHeader}
use Rattle.pef_loader.specs.Loader.{Loaded, loaded_of, reloc_of}
use Rattle.pef_loader.specs.Partial.{RelocationRow, relocation_row}
use Rattle.pef_loader.proofs.Laws.{loaded_of-ok, reloc_row, reloc_section}
use Rattle.pef_pidata.specs.Pattern.{pattern_text}
use Rattle.pef_reloc.specs.Applied.{Addresses}
use Rattle.pef_reloc.specs.Headers.{refusal_at}
use Rattle.pef_reloc.specs.Unrolled.{program_fault}
use Rattle.pef_reloc.specs.Verified.{program_verified, sizes_of, verified}
use Rattle.pef_reloc.specs.declared.fault.RelocFault.{RelocFault}
use Rattle.pef_reloc.specs.declared.verifying.Sizes.{Sizes}
use Rattle.pef_reloc.proofs.Laws.{refusal_at-verified}
use Rattle.cfm_sections.specs.Images.{fault_in_image, filled_at, first_image_refusal, image_of, image_refusal}
use Rattle.cfm_sections.specs.Prepared.{first_header_refusal, first_reloc_refusal, header_refusal}
use Rattle.pef_loader.specs.Programs.{fault_in_program}
use Rattle.pef_inspect.specs.Errors.{image_fault, packed_at, program_at, run_at, run_of, sizes_at}
use Rattle.pef_inspect.specs.Sound.{IsSound}
use Rattle.cfm_sound.proofs.ReadLemmas.{filled-len, header, header-in, section-is}

none-parts : (f g : Option RelocFault) → option_or f g ≡ None → (f ≡ None) × (g ≡ None)
none-parts None g none = (refl, none)
none-parts (Some fault) g none = absurd (cc none)

none-of : {A B : Type 0} (f : A → B) (o : Option A) → option_map f o ≡ None → o ≡ None
none-of f None none = refl
none-of f (Some x) none = absurd (cc none)

none-inner : {A B H : Type 0} (f : H → A → B) (o : Option H) (h : H) (r : Option A) → o ≡ Some h → option_and_then (λ x. option_map (f x) r) o ≡ None → r ≡ None
none-inner f o h r is none = none-of (f h) r (sym (ap (option_and_then (λ x. option_map (f x) r)) is) ∙ none)

abbrev with_section : ℕ → List ℕ → ℕ × List ℕ
with_section section program = (section, program)

module _ (bytes : List ℕ) (c : Contained) (contained : container_of bytes ≡ Ok c) (unrefused : first_image_refusal c c.header.instantiated_section_count ≡ None) where
  module _ (k : ℕ) (under : k < c.header.instantiated_section_count) where
    abbrev section : SectionHeader
    section = header bytes c contained k under

    image-read : result_err (image_of (section_in c.bytes section)) ≡ None
    image-read =
        let here = none_among (image_refusal c) 0 c.header.instantiated_section_count k unrefused (omega arith) (omega (arith, under)) in
        none-of (fault_in_image c k) (result_err (image_of (section_in c.bytes section)))
        (sym (ap (option_and_then (λ t. option_map (fault_in_image c k) (result_err (image_of t)))) (section-is bytes c contained k under)) ∙ here)

    -- so its packed data spell its image
    pub image-spelled : option_and_then (image_fault c) (packed_at c k) ≡ None
    unfolding image_of
    image-spelled = ap (λ (o : Option SectionHeader). option_and_then (image_fault c) (o >>= packed)) (header-in bytes c contained k under) ∙ by (is_packed (kind_of section.section_kind)) image-read (nat_le section.packed_size (length (raw_of c.bytes section)))
      where
        packed : SectionHeader → Option SectionHeader
        packed s = if is_packed (kind_of s.section_kind) && nat_le s.packed_size (length (raw_of c.bytes s)) then Some s else None

        by : (b : Bool) → result_err (cond b (pattern_text (raw_of c.bytes section) section.unpacked_size) (Ok (take section.unpacked_size (raw_of c.bytes section)))) ≡ None
            → (whole : Bool) → option_and_then (image_fault c) (cond (b && whole) (Some section) None) ≡ None
        by true none true = none
        by true none false = refl
        by false none whole = refl

    read-len : length (filled_at c k) ≡ section.total_size
    read-len = filled-len bytes c contained k under image-read

  -- with a loader section of which no relocation header is refused, with some addresses
  module _ (l : Loaded) (loaded : loaded_of c.header.instantiated_section_count c.loader ≡ Ok l) (a : Addresses) (sections : length a.sections ≡ c.header.instantiated_section_count) (imports : length a.imports ≡ l.header.import_count)
      (relocated : first_reloc_refusal c l a ≡ None) where
    abbrev sizes : ℕ → Sizes
    sizes section = sizes_of a (length (filled_at c section))

    -- the program of relocation header k
    module _ (k : ℕ) (under : k < l.header.reloc_count) (r : RelocationRow) (row : relocation_row l k ≡ Some r) (program : List ℕ) (is : r.program ≡ Some program) where
      header-there : reloc_of l k ≡ Some (with_section r.section program)
      header-there = reloc_row l k ∙ ap (λ o. o >>= (λ (r : RelocationRow). option_map (with_section r.section) r.program)) row ∙ ap (option_map (with_section r.section)) is

      header-unrefused : refusal_at a (filled_at c) (reloc_of l) k ≡ None
      header-unrefused =
          let none = none-of (λ h. fault_in_program c h.header h.section h.fault) (first_header_refusal a (filled_at c) (reloc_of l) l.header.reloc_count) relocated in
          let here = none_among (header_refusal a (filled_at c) (reloc_of l)) 0 l.header.reloc_count k none (omega arith) (omega (arith, under)) in
          none-inner _ (reloc_of l k) (with_section r.section program) (refusal_at a (filled_at c) (reloc_of l) k) header-there here

      program-unrefused : program_verified (sizes r.section) program ≡ None
      program-unrefused =
          sym (ap (option_and_then (λ (h : ℕ × List ℕ). program_verified (sizes h.0) h.1)) header-there)
          ∙ sym (refusal_at-verified a (filled_at c) (reloc_of l) k)
          ∙ header-unrefused

      readable : program_fault program ≡ None
      readable = (none-parts (program_fault program) (verified (sizes r.section) program) program-unrefused).0

      section-low : r.section < c.header.instantiated_section_count
      section-low =
          let is_loader = loaded_of-ok c.header.instantiated_section_count c.loader l loaded in
          let low = reloc_section l k r.section program is_loader.0 header-there in
          let same = is_loader.1 in
          omega (arith, low, same)

      sizes-are : sizes_at c l r.section ≡ Some (sizes r.section)
      sizes-are =
          let len = read-len r.section section-low in
          rw (lt-ltb r.section c.header.instantiated_section_count section-low, header-in bytes c contained r.section section-low, sections, imports, len) refl

      run-there : run_at c l k ≡ Some (sizes r.section, program)
      run-there = ap (λ o. o >>= run_of c l) row ∙ rw (is, readable, sizes-are) refl

      run-unrefused : option_and_then (λ (t : Sizes × List ℕ). verified t.0 t.1) (run_at c l k) ≡ None
      run-unrefused = ap (option_and_then (λ (t : Sizes × List ℕ). verified t.0 t.1)) run-there ∙ (none-parts (program_fault program) (verified (sizes r.section) program) program-unrefused).1

    pub program-sound : (k : ℕ) → k < l.header.reloc_count → option_and_then program_fault (program_at l k) ≡ None
    program-sound k under = by (relocation_row l k) refl
      where
        at : (r : RelocationRow) (o : Option (List ℕ)) → relocation_row l k ≡ Some r → r.program ≡ o → option_and_then program_fault o ≡ None
        at r None row is = refl
        at r (Some program) row is = readable k under r row program is

        by : (o : Option RelocationRow) → relocation_row l k ≡ o → option_and_then program_fault (option_and_then (λ (r : RelocationRow). r.program) o) ≡ None
        by None row = refl
        by (Some r) row = at r r.program row refl

    pub run-sound : (k : ℕ) → k < l.header.reloc_count → option_and_then (λ (t : Sizes × List ℕ). verified t.0 t.1) (run_at c l k) ≡ None
    run-sound k under = by (relocation_row l k) refl
      where
        none-run : (r : RelocationRow) → r.program ≡ None → run_of c l r ≡ None
        none-run r is = rw is refl

        at : (r : RelocationRow) (o : Option (List ℕ)) → relocation_row l k ≡ Some r → r.program ≡ o → option_and_then (λ (t : Sizes × List ℕ). verified t.0 t.1) (run_at c l k) ≡ None
        at r None row is = ap (option_and_then (λ (t : Sizes × List ℕ). verified t.0 t.1)) (ap (λ o. o >>= run_of c l) row ∙ none-run r is)
        at r (Some program) row is = run-unrefused k under r row program is

        by : (o : Option RelocationRow) → relocation_row l k ≡ o → option_and_then (λ (t : Sizes × List ℕ). verified t.0 t.1) (run_at c l k) ≡ None
        by None row = ap (option_and_then (λ (t : Sizes × List ℕ). verified t.0 t.1)) (ap (λ o. o >>= run_of c l) row)
        by (Some r) row = at r r.program row refl

    unfoldable pub prepared-sound : IsSound bytes
    prepared-sound = record {
      container = c;
      contained = contained;
      loader = l;
      loaded = loaded;
      images = image-spelled;
      programs = program-sound;
      runs = run-sound;
    }
