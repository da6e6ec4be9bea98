-- A container that is read: the headers of its instantiated sections, and how much of their memory is filled.
use Rattle.std.proofs.Common.{◌≡◌, ◌∙◌, ℕ, ◌<◌, ◌≤◌, Bool, true, false, cond, List, [], length, take, Option, None, Some, Ok, Err, Result, refl, sym, ap, subst, arith}
use Rattle.std.specs.Option.{option_map_or}
use Rattle.std.specs.Result.{result_err, result_unwrap_or}
use Rattle.std.proofs.lemmas.Bool.{lt-ltb}
use Rattle.std.proofs.lemmas.List.{length-take}
use Rattle.pef_words.specs.Bytes.{filled}
use Rattle.pef_words.specs.Refusals.{first_met, result_map, unless}
use Rattle.pef_words.proofs.Laws.Images.{length-filled}
use Rattle.pef_format.specs.Sections.{is_packed, kind_of}
use Rattle.pef_views.specs.Container.{Contained, IsContainer, IsInstantiable, Section, container_of, section_in, section_of}
use Rattle.pef_views.specs.Header.{header_of, tag_tests}
use Rattle.pef_views.specs.Partial as views
use Rattle.pef_views.specs.Section.{section_at}
use Rattle.pef_views.specs.declared.fault.ViewFault.{ViewFault}
use Rattle.pef_views.specs.declared.fault.ViewFault.TheVariants.{TooShort}
use Rattle.pef_views.specs.declared.header.Header.{Header}
use Rattle.pef_views.specs.declared.section.SectionHeader.{SectionHeader}
use Rattle.pef_views.proofs.Laws.{counts, instantiable, section_header_is, whole_container}
use Rattle.pef_pidata.specs.Pattern.{pattern_text}
use Rattle.pef_pidata.specs.declared.fault.PackFault.{PackFault}
use Rattle.pef_pidata.proofs.Laws.{pattern_text-length}
use Rattle.cfm_sections.specs.Images.{filled_at, filled_in, image_of}

-- what can be read of some bytes has these bytes
opened-bytes : (bytes : List ℕ) (c : Contained) → views.partial_of bytes ≡ Ok c → c.bytes ≡ bytes
unfolding views.partial_of
opened-bytes bytes c is = by (header_of bytes) is
  where
    at : (h : Header) (o : Option ViewFault) → unless o (Ok (views.opened bytes h)) ≡ Ok c → c.bytes ≡ bytes
    at h None is = (let same : views.opened bytes h ≡ c = cc is in sym (ap (λ (k : Contained). k.bytes) same))
    at h (Some fault) is = absurd (cc is)

    by : (o : Option Header) → option_map_or (λ h. unless (first_met (tag_tests h)) (Ok (views.opened bytes h))) o (Err TooShort) ≡ Ok c → c.bytes ≡ bytes
    by None is = absurd (cc is)
    by (Some h) is = at h (first_met (tag_tests h)) is

-- an image that isn't refused is no longer than the header says
image-short : (s : Section) (image : List ℕ) → image_of s ≡ Ok image → length image ≤ s.header.unpacked_size
unfolding image_of
image-short s image is = by (is_packed (kind_of s.header.section_kind)) is
  where
    by : (packed : Bool) → cond packed (pattern_text s.raw s.header.unpacked_size) (Ok (take s.header.unpacked_size s.raw)) ≡ Ok image → length image ≤ s.header.unpacked_size
    by true is = (let len = pattern_text-length s.raw s.header.unpacked_size image is in omega (arith, len))
    by false is = (let same : take s.header.unpacked_size s.raw ≡ image = cc is in let len = ap length same in let most = length-take s.header.unpacked_size s.raw in omega (arith, len, most))

-- so its section fills its memory
filled-whole : (s : Section) → IsInstantiable s → result_err (image_of s) ≡ None → length (result_unwrap_or (filled_in s) []) ≡ s.header.total_size
filled-whole s can none = by (image_of s) refl none
  where
    by : (r : Result (List ℕ) PackFault) → image_of s ≡ r → result_err r ≡ None → length (result_unwrap_or (result_map (λ image. filled image s.header.total_size) r) []) ≡ s.header.total_size
    by (Ok image) was none = (let short = image-short s image was in let fits = can.image in length-filled image s.header.total_size (omega (arith, short, fits)))
    by (Err fault) was none = absurd (cc none)

module _ (bytes : List ℕ) (c : Contained) (contained : container_of bytes ≡ Ok c) where
  pub is-container : IsContainer c
  is-container =
      let same = opened-bytes bytes c (whole_container bytes c contained) in
      subst (λ b. container_of b ≡ Ok c) (sym same) contained

  -- section k
  module _ (k : ℕ) (under : k < c.header.instantiated_section_count) where
    abbrev pub low : k < c.header.section_count
    low = let most = counts c is-container in omega (arith, under, most)

    abbrev pub header : SectionHeader
    header = (section_header_is c k is-container low).0

    pub header-at : section_at c.bytes k ≡ Some header
    header-at = (section_header_is c k is-container low).1

    pub header-in : views.header_in c k ≡ Some header
    header-in = rw (lt-ltb k c.header.section_count low) header-at

    pub section-is : section_of c k ≡ Some (section_in c.bytes header)
    unfolding section_of
    section-is = rw (lt-ltb k c.header.section_count low, header-at) refl

    -- if its image isn't refused, its memory is filled
    pub filled-len : result_err (image_of (section_in c.bytes header)) ≡ None → length (filled_at c k) ≡ header.total_size
    filled-len sound =
        ap (λ o. length (option_map_or (λ t. result_unwrap_or (filled_in t) []) o [])) section-is
        ∙ filled-whole (section_in c.bytes header) (instantiable c k header is-container low header-at under) sound
