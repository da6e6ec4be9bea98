-- A fragment whose container is sound is read, and none of its images and relocation headers is refused.
use Rattle.std.proofs.Common.{◌≡◌, ◌∙◌, ℕ, ◌<◌, Bool, true, false, cond, List, length, take, Option, None, Some, Ok, refl, sym, ap, arith}
use Rattle.std.specs.Prelude.{option_map, nat_le}
use Rattle.std.specs.Option.{option_and_then, option_map_or, option_or}
use Rattle.std.specs.Result.{result_err, result_ok}
use Rattle.std.proofs.lemmas.Bool.{le-leb, lt-ltb}
use Rattle.std.proofs.lemmas.List.{length-map}
use Rattle.pef_words.specs.Refusals.{◌>>=◌}
use Rattle.pef_words.proofs.Laws.Refusals.{first_among-none}
use Rattle.pef_format.specs.Sections.{is_packed, kind_of}
use Rattle.pef_views.specs.Container.{Contained, section_in}
use Rattle.pef_views.specs.Section.{raw_of}
use Rattle.pef_views.specs.declared.section.SectionHeader.{SectionHeader}
use Rattle.pef_views.proofs.Laws.{raw_whole}
use Rattle.pef_loader.specs.Loader.{IsLoader, Loaded, reloc_of}
use Rattle.pef_loader.specs.Partial.{RelocationRow, relocation_row}
use Rattle.pef_loader.proofs.Laws.{loaded_of-ok, reloc_row, reloc_section}
use Rattle.pef_pidata.specs.Pattern.{pattern_text}
use Rattle.pef_reloc.specs.Applied.{Addresses}
use Rattle.pef_reloc.specs.Headers.{refusal_at}
use Rattle.pef_reloc.specs.Unrolled.{program_fault}
use Rattle.pef_reloc.specs.Verified.{program_verified, sizes_of, verified}
use Rattle.pef_reloc.specs.declared.fault.RelocFault.{RelocFault}
use Rattle.pef_reloc.specs.declared.verifying.Sizes.{Sizes}
use Rattle.pef_reloc.proofs.Laws.{refusal_at-verified}
use Rattle.cfm_store.specs.Stores.{Pair, pair_of}
use Rattle.cfm_closure.specs.Fragments.{Fragment, container_at, fragment_of, import_count, loader_at, with_container, with_loader}
use Rattle.cfm_memory.specs.Extents.{ArePlacedBy, Rule}
use Rattle.cfm_memory.specs.Instances.{Layout}
use Rattle.cfm_memory.specs.declared.place.Place.{Place}
use Rattle.cfm_sound.proofs.ReadLemmas.{filled-len, header, header-at, header-in, is-container, low, section-is}
use Rattle.cfm_prepare.specs.Addresses.{addresses_from, addresses_of}
use Rattle.cfm_prepare.specs.Fragments.{Present, extents_in, image_refusal_in, reloc_refusal_in}
use Rattle.cfm_sections.specs.Images.{filled_at, first_image_refusal, image_of, image_refusal}
use Rattle.cfm_sections.specs.Prepared.{addresses_at, first_reloc_refusal}
use Rattle.cfm_prepare.proofs.Laws.{length-addresses, length-there}
use Rattle.cfm_sections.proofs.Laws.{headers-unrefused}
use Rattle.pef_inspect.specs.Errors.{image_fault, packed_at, program_at, run_at, run_of, sizes_at}
use Rattle.pef_inspect.specs.Sound.{IsSound}

abbrev with_section : ℕ → List ℕ → ℕ × List ℕ
with_section section program = (section, program)

none-either : (f g : Option RelocFault) → f ≡ None → g ≡ None → option_or f g ≡ None
none-either f g none also = rw (none, also) refl

module _ (bytes : List ℕ) (s : IsSound bytes) where
  is-loader : IsLoader s.loader
  is-loader = (loaded_of-ok s.container.header.instantiated_section_count s.container.loader s.loader s.loaded).0

  same-count : s.container.header.instantiated_section_count ≡ s.loader.sections
  same-count = (loaded_of-ok s.container.header.instantiated_section_count s.container.loader s.loader s.loaded).1

  -- section k
  module _ (k : ℕ) (under : k < s.container.header.instantiated_section_count) where
    abbrev section : SectionHeader
    section = header bytes s.container s.contained k under

    -- its image isn't refused
    image-sound : result_err (image_of (section_in s.container.bytes section)) ≡ None
    unfolding image_of
    image-sound = by (is_packed (kind_of section.section_kind)) refl
      where
        whole : nat_le section.packed_size (length (raw_of s.container.bytes section)) ≡ true
        whole = (let len = raw_whole s.container k section (is-container bytes s.container s.contained) (low bytes s.container s.contained k under) (header-at bytes s.container s.contained k under) in le-leb section.packed_size (length (raw_of s.container.bytes section)) (omega (arith, len)))

        there : is_packed (kind_of section.section_kind) ≡ true → packed_at s.container k ≡ Some section
        there packed = rw (header-in bytes s.container s.contained k under, packed, whole) refl

        by : (packed : Bool) → is_packed (kind_of section.section_kind) ≡ packed → result_err (cond packed (pattern_text (raw_of s.container.bytes section) section.unpacked_size) (Ok (take section.unpacked_size (raw_of s.container.bytes section)))) ≡ None
        by true packed = ap (option_and_then (image_fault s.container)) (sym (there packed)) ∙ s.images k under
        by false packed = refl

    image-unrefused : image_refusal s.container k ≡ None
    image-unrefused = rw (section-is bytes s.container s.contained k under, image-sound) refl

    sound-len : length (filled_at s.container k) ≡ section.total_size
    sound-len = filled-len bytes s.container s.contained k under image-sound

  images-sound : first_image_refusal s.container s.container.header.instantiated_section_count ≡ None
  images-sound = first_among-none (image_refusal s.container) 0 s.container.header.instantiated_section_count (λ k low high. image-unrefused k (omega (arith, high)))

  -- relocation header i, under as many addresses as there are sections and imports
  module _ (a : Addresses) (sections : length a.sections ≡ s.container.header.instantiated_section_count) (imports : length a.imports ≡ s.loader.header.import_count) where
    abbrev sizes : ℕ → Sizes
    sizes section = sizes_of a (length (filled_at s.container section))

    abbrev refused : Option (ℕ × List ℕ) → Option RelocFault
    refused header = option_and_then (λ (h : ℕ × List ℕ). program_verified (sizes h.0) h.1) header

    sizes-are : (section : ℕ) → section < s.container.header.instantiated_section_count → sizes_at s.container s.loader section ≡ Some (sizes section)
    sizes-are section under =
        let len = sound-len section under in
        rw (lt-ltb section s.container.header.instantiated_section_count under, header-in bytes s.container s.contained section under, sections, imports, len) refl

    -- the program of a header that is there
    program-sound : (i : ℕ) (r : RelocationRow) (program : List ℕ) → i < s.loader.header.reloc_count → relocation_row s.loader i ≡ Some r → r.program ≡ Some program → r.section < s.container.header.instantiated_section_count → program_verified (sizes r.section) program ≡ None
    program-sound i r program under row is below =
        let at : program_at s.loader i ≡ Some program = ap (option_and_then (λ (r : RelocationRow). r.program)) row ∙ is in
        let readable : program_fault program ≡ None = ap (option_and_then program_fault) (sym at) ∙ s.programs i under in
        let run : run_at s.container s.loader i ≡ Some (sizes r.section, program) = ap (λ o. o >>= run_of s.container s.loader) row ∙ rw (is, readable, sizes-are r.section below) refl in
        let applied : verified (sizes r.section) program ≡ None = ap (option_and_then (λ (t : Sizes × List ℕ). verified t.0 t.1)) (sym run) ∙ s.runs i under in
        none-either (program_fault program) (verified (sizes r.section) program) readable applied

    header-sound : (i : ℕ) → i < s.loader.header.reloc_count → refusal_at a (filled_at s.container) (reloc_of s.loader) i ≡ None
    header-sound i under = refusal_at-verified a (filled_at s.container) (reloc_of s.loader) i ∙ ap refused (reloc_row s.loader i) ∙ by (relocation_row s.loader i) refl
      where
        at : (r : RelocationRow) (o : Option (List ℕ)) → relocation_row s.loader i ≡ Some r → r.program ≡ o → refused (option_map (with_section r.section) o) ≡ None
        at r None row is = refl
        at r (Some program) row is =
            let there : reloc_of s.loader i ≡ Some (with_section r.section program) = reloc_row s.loader i ∙ ap (λ o. o >>= (λ (r : RelocationRow). option_map (with_section r.section) r.program)) row ∙ ap (option_map (with_section r.section)) is in
            let low = reloc_section s.loader i r.section program is-loader there in
            program-sound i r program under row is (omega (arith, low, same-count))

        by : (o : Option RelocationRow) → relocation_row s.loader i ≡ o → refused (o >>= (λ (r : RelocationRow). option_map (with_section r.section) r.program)) ≡ None
        by None row = refl
        by (Some r) row = at r r.program row refl

    headers-sound : first_reloc_refusal s.container s.loader a ≡ None
    headers-sound = headers-unrefused s.container s.loader a header-sound

-- a fragment with such bytes
module _ (pairs : List Pair) (p : ℕ) (s : IsSound (pair_of pairs p).bytes) where
  abbrev pub sound_fragment : Fragment
  sound_fragment = record { name = (pair_of pairs p).name; container = s.container; loader = s.loader }

  pub sound-read : fragment_of pairs p ≡ Ok sound_fragment
  unfolding fragment_of
  sound-read = ap (with_container (pair_of pairs p).name) s.contained ∙ ap (with_loader (pair_of pairs p).name s.container) s.loaded

  container-is : container_at pairs p ≡ Some s.container
  container-is = ap (λ r. option_map (λ (f : Fragment). f.container) (result_ok r)) sound-read

  loader-is : loader_at pairs p ≡ Some s.loader
  loader-is = ap (λ r. option_map (λ (f : Fragment). f.loader) (result_ok r)) sound-read

  pub sound-filled : image_refusal_in pairs p ≡ None
  sound-filled =
      ap (λ o. option_and_then (λ (c : Contained). first_image_refusal c c.header.instantiated_section_count) o) container-is
      ∙ images-sound (pair_of pairs p).bytes s

  pub sound-relocated : (rule : Rule) (all : List Present) (before empty : Layout) (places : List Place) → ArePlacedBy rule before (extents_in pairs p) places empty → reloc_refusal_in pairs (addresses_of pairs all (record { position = p; places = places })) p ≡ None
  sound-relocated rule all before empty places placed =
      let a = addresses_at places (addresses_from pairs all p 0 (import_count pairs p)) in
      let count : import_count pairs p ≡ s.loader.header.import_count = ap (λ o. option_map_or (λ (l : Loaded). l.header.import_count) o 0) loader-is in
      let sections : length a.sections ≡ s.container.header.instantiated_section_count = length-map places (λ (q : Place). q.address) ∙ length-there rule pairs p s.container before empty places container-is placed in
      let imports : length a.imports ≡ s.loader.header.import_count = length-addresses pairs all p 0 (import_count pairs p) ∙ count in
      ap (λ o. option_and_then (λ (c : Contained). option_and_then (λ (l : Loaded). first_reloc_refusal c l a) (loader_at pairs p)) o) container-is
      ∙ ap (λ o. option_and_then (λ (l : Loaded). first_reloc_refusal s.container l a) o) loader-is
      ∙ headers-sound (pair_of pairs p).bytes s a sections imports
