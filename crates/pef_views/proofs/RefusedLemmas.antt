-- A container is refused at the place of what is refused.
use Rattle.std.proofs.Common.{◌≡◌, ◌∙◌, ℕ, ◌+◌, ◌^◌, ◌<◌, ◌≤◌, Bool, false, true, cond, List, Option, None, Some, Err, drop, refl, sym, ap, subst, arith, length}
use Rattle.std.specs.Prelude.{◌==◌, ◌&&◌, not, nat_le, nat_lt}
use Rattle.std.specs.Int.{w32}
use Rattle.std.specs.Option.{option_map_or}
use Rattle.byteorder.specs.Endian.{big_number}
use Rattle.std.proofs.lemmas.Bool.{leb-true, lt-ltb}
use Rattle.std.proofs.lemmas.Option.{same_Some}
use Rattle.pef_format.specs.Places.{field_from}
use Rattle.pef_words.specs.Bytes.{number_at, signed_at}
use Rattle.pef_words.specs.Refusals.{◌>>=◌, first_among, first_met, unless}
use Rattle.pef_words.proofs.Laws.Refusals.{some_among}
use Rattle.pef_format.specs.Sections.{is_instantiable, kind_of}
use Rattle.pef_views.specs.declared.header.Header.{Header}
use Rattle.pef_views.specs.declared.section.SectionHeader.{SectionHeader}
use Rattle.pef_views.specs.declared.fault.ViewFault.{ViewFault}
use Rattle.pef_views.specs.declared.fault.ViewFault.TheVariants.{TooShort, BadTag, BadArchitecture, BadFormatVersion, BadSectionCounts, SectionOutside, BadSectionKind, BadSizes, BadAlignment, NoLoader}
use Rattle.pef_views.specs.Header.{header_of, header_tests, joy, names_from, peff, pwpc, section_header_from, version_1}
use Rattle.pef_views.specs.Section.{greatest_alignment, is_inside, section_at, section_tests, sizes_fit}
use Rattle.pef_views.specs.Container.{container_of, is_instantiated, judged, loader_of, section_refusal, with_loader}
use Rattle.pef_views.specs.Refused.{HasField, IsOfSection, IsPlaced, RefusalsHavePlaces}

-- what is there of a chain is there of its first part
bound : {A B : Type 0} (o : Option A) (f : A → Option B) (x : B) → (o >>= f) ≡ Some x → (a : A) × (o ≡ Some a) × (f a ≡ Some x)
bound None f x is = absurd (cc)
bound (Some a) f x is = (a, refl, is)

-- the fields of a header that an error is about
record HasHeader (bytes : List ℕ) (h : Header) : Type 0 where
  pub tag : number_at 4 bytes 0 ≡ Some h.tag_1
  pub architecture : number_at 4 bytes 8 ≡ Some h.architecture
  pub version : number_at 4 bytes 12 ≡ Some h.format_version
  pub count : number_at 2 bytes 34 ≡ Some h.instantiated_section_count

header-fields : (bytes : List ℕ) (h : Header) → header_of bytes ≡ Some h → HasHeader bytes h
unfolding header_of
header-fields bytes h is =
    let a = bound (number_at 4 bytes 0) _ h is in
    let b = bound (number_at 4 bytes 4) _ h a.2 in
    let c = bound (number_at 4 bytes 8) _ h b.2 in
    let d = bound (number_at 4 bytes 12) _ h c.2 in
    let e = bound (number_at 4 bytes 16) _ h d.2 in
    let f = bound (number_at 4 bytes 20) _ h e.2 in
    let g = bound (number_at 4 bytes 24) _ h f.2 in
    let i = bound (number_at 4 bytes 28) _ h g.2 in
    let j = bound (number_at 2 bytes 32) _ h i.2 in
    let k = bound (number_at 2 bytes 34) _ h j.2 in
    let l = bound (number_at 4 bytes 36) _ h k.2 in
    let same = same_Some _ h l.2 in
    record {
      tag = a.1 ∙ ap (λ (h : Header). Some h.tag_1) same;
      architecture = c.1 ∙ ap (λ (h : Header). Some h.architecture) same;
      version = d.1 ∙ ap (λ (h : Header). Some h.format_version) same;
      count = k.1 ∙ ap (λ (h : Header). Some h.instantiated_section_count) same;
    }

-- .. and those of a section's
record HasSection (bytes : List ℕ) (i : ℕ) (s : SectionHeader) : Type 0 where
  pub unpacked : number_at 4 bytes (section_header_from i + 12) ≡ Some s.unpacked_size
  pub offset : number_at 4 bytes (section_header_from i + 20) ≡ Some s.container_offset
  pub kind : number_at 1 bytes (section_header_from i + 24) ≡ Some s.section_kind
  pub alignment : number_at 1 bytes (section_header_from i + 26) ≡ Some s.alignment

section-fields : (bytes : List ℕ) (i : ℕ) (s : SectionHeader) → section_at bytes i ≡ Some s → HasSection bytes i s
unfolding section_at
section-fields bytes i s is =
    let a = bound (signed_at w32 4 bytes (section_header_from i)) _ s is in
    let b = bound (number_at 4 bytes (section_header_from i + 4)) _ s a.2 in
    let c = bound (number_at 4 bytes (section_header_from i + 8)) _ s b.2 in
    let d = bound (number_at 4 bytes (section_header_from i + 12)) _ s c.2 in
    let e = bound (number_at 4 bytes (section_header_from i + 16)) _ s d.2 in
    let f = bound (number_at 4 bytes (section_header_from i + 20)) _ s e.2 in
    let g = bound (number_at 1 bytes (section_header_from i + 24)) _ s f.2 in
    let h = bound (number_at 1 bytes (section_header_from i + 25)) _ s g.2 in
    let j = bound (number_at 1 bytes (section_header_from i + 26)) _ s h.2 in
    let k = bound (number_at 1 bytes (section_header_from i + 27)) _ s j.2 in
    let same = same_Some _ s k.2 in
    record {
      unpacked = d.1 ∙ ap (λ (s : SectionHeader). Some s.unpacked_size) same;
      offset = f.1 ∙ ap (λ (s : SectionHeader). Some s.container_offset) same;
      kind = g.1 ∙ ap (λ (s : SectionHeader). Some s.section_kind) same;
      alignment = j.1 ∙ ap (λ (s : SectionHeader). Some s.alignment) same;
    }

-- a number that is there ends inside
number-inside : (n at : ℕ) (bytes : List ℕ) (x : ℕ) → number_at n bytes at ≡ Some x → at + n ≤ length bytes
unfolding number_at
number-inside n at bytes x is = by (big_number n (drop at bytes)) (nat_le (at + n) (length bytes)) refl is
  where
    by : (y : ℕ) (b : Bool) → nat_le (at + n) (length bytes) ≡ b → cond b (Some y) None ≡ Some x → at + n ≤ length bytes
    by y true within is = leb-true (at + n) (length bytes) within
    by y false within is = absurd (cc)

-- so its place is that of its field
field-here : (n from field x : ℕ) (bytes : List ℕ) → length bytes < 2 ^ 64 → number_at n bytes (from + field) ≡ Some x → (field_from (Some from) field >>= number_at n bytes) ≡ Some x
field-here n from field x bytes fits is =
    let inside = number-inside n (from + field) bytes x is in
    let low : nat_lt (from + field) (2 ^ 64) ≡ true = lt-ltb (from + field) (2 ^ 64) (omega (arith, inside, fits)) in
    ap (λ b. cond b (Some (from + field)) None >>= number_at n bytes) low ∙ is

module _ (bytes : List ℕ) (fits : length bytes < 2 ^ 64) (h : Header) (read : header_of bytes ≡ Some h) (fault : ViewFault) where
  -- the header breaks a rule
  header-placed : first_met (header_tests h (length bytes)) ≡ Some fault → IsPlaced bytes fault
  unfolding header_tests
  header-placed is =
      by (not (h.tag_1 == joy && h.tag_2 == peff)) (not (h.architecture == pwpc)) (not (h.format_version == version_1)) (nat_lt h.section_count h.instantiated_section_count) (nat_lt (length bytes) (names_from h)) is
    where
      fields : HasHeader bytes h
      fields = header-fields bytes h read

      -- with this refusal
      named : (named : ViewFault) → named ≡ fault → first_met (header_tests h (length bytes)) ≡ Some named
      named name same = is ∙ ap Some (sym same)

      by : (a b c d e : Bool) → cond a (Some BadTag) (cond b (Some BadArchitecture) (cond c (Some BadFormatVersion) (cond d (Some BadSectionCounts) (cond e (Some TooShort) None)))) ≡ Some fault → IsPlaced bytes fault
      by true b c d e met = (let same = same_Some BadTag fault met in subst (IsPlaced bytes) same (record { header = h; read = read; refused = named BadTag same; here = fields.tag }))
      by false true c d e met = (let same = same_Some BadArchitecture fault met in subst (IsPlaced bytes) same (record { header = h; read = read; refused = named BadArchitecture same; here = fields.architecture }))
      by false false true d e met = (let same = same_Some BadFormatVersion fault met in subst (IsPlaced bytes) same (record { header = h; read = read; refused = named BadFormatVersion same; here = fields.version }))
      by false false false true e met = (let same = same_Some BadSectionCounts fault met in subst (IsPlaced bytes) same (record { header = h; read = read; refused = named BadSectionCounts same; here = fields.count }))
      by false false false false true met = subst (IsPlaced bytes) (same_Some TooShort fault met) refl
      by false false false false false met = absurd (cc)

  -- a section does
  module _ (i : ℕ) (below : i < h.section_count) (before : (k : ℕ) → k < i → section_refusal bytes h k ≡ None) (refused : section_refusal bytes h i ≡ Some fault) where
    fields-placed : (s : SectionHeader) → section_at bytes i ≡ Some s → first_met (section_tests i (is_instantiated h i) s (length bytes)) ≡ Some fault → IsPlaced bytes fault
    unfolding section_tests
    fields-placed s there is =
        by (not (is_inside s (length bytes))) (is_instantiated h i && not (is_instantiable (kind_of s.section_kind))) (is_instantiated h i && not (sizes_fit s)) (is_instantiated h i && nat_lt greatest_alignment s.alignment) is
      where
        fields : HasSection bytes i s
        fields = section-fields bytes i s there

        at : (name : ViewFault) → name ≡ fault → (size : ℕ) (field : SectionHeader → ℕ) → HasField bytes name size (field s) → IsOfSection bytes name i size field
        at name same size field here = record { header = h; read = read; below = below; before = before; refused = refused ∙ ap Some (sym same); fields = s; there = there; here = here }

        by : (a b c d : Bool) → cond a (Some (SectionOutside i)) (cond b (Some (BadSectionKind i)) (cond c (Some (BadSizes i)) (cond d (Some (BadAlignment i)) None))) ≡ Some fault → IsPlaced bytes fault
        by true b c d met = (let same = same_Some (SectionOutside i) fault met in subst (IsPlaced bytes) same (at (SectionOutside i) same 4 (λ s. s.container_offset) (field-here 4 (section_header_from i) 20 s.container_offset bytes fits fields.offset)))
        by false true c d met = (let same = same_Some (BadSectionKind i) fault met in subst (IsPlaced bytes) same (at (BadSectionKind i) same 1 (λ s. s.section_kind) (field-here 1 (section_header_from i) 24 s.section_kind bytes fits fields.kind)))
        by false false true d met = (let same = same_Some (BadSizes i) fault met in subst (IsPlaced bytes) same (at (BadSizes i) same 4 (λ s. s.unpacked_size) (field-here 4 (section_header_from i) 12 s.unpacked_size bytes fits fields.unpacked)))
        by false false false true met = (let same = same_Some (BadAlignment i) fault met in subst (IsPlaced bytes) same (at (BadAlignment i) same 1 (λ s. s.alignment) (field-here 1 (section_header_from i) 26 s.alignment bytes fits fields.alignment)))
        by false false false false met = absurd (cc)

    section-placed : IsPlaced bytes fault
    section-placed = by (section_at bytes i) refl refused
      where
        by : (o : Option SectionHeader) → section_at bytes i ≡ o → option_map_or (λ s. first_met (section_tests i (is_instantiated h i) s (length bytes))) o (Some TooShort) ≡ Some fault → IsPlaced bytes fault
        by None there is = subst (IsPlaced bytes) (same_Some TooShort fault is) refl
        by (Some s) there is = fields-placed s there is

  judged-placed : judged bytes h ≡ Err fault → IsPlaced bytes fault
  judged-placed is = by (first_met (header_tests h (length bytes))) (first_among (section_refusal bytes h) 0 h.section_count) (loader_of bytes h) refl refl is
    where
      by : (a b : Option ViewFault) (loader : Option (List ℕ)) → first_met (header_tests h (length bytes)) ≡ a → first_among (section_refusal bytes h) 0 h.section_count ≡ b → unless a (unless b (with_loader bytes h loader)) ≡ Err fault → IsPlaced bytes fault
      by (Some f) b loader met among is = (let same : Some f ≡ Some fault = cc in header-placed (met ∙ same))
      by None (Some f) loader met among is =
          let same : Some f ≡ Some fault = cc in
          let a = some_among (section_refusal bytes h) 0 h.section_count fault (among ∙ same) in
          section-placed a.at (let high = a.high in omega (arith, high)) (λ k under. a.before k (omega arith) under) a.is
      by None None None met among is = (let same : NoLoader ≡ fault = cc in subst (IsPlaced bytes) same refl)
      by None None (Some loader) met among is = absurd (cc)

pub refusals_have_places : RefusalsHavePlaces
unfolding container_of
refusals_have_places bytes fault fits is = by (header_of bytes) refl is
  where
    by : (o : Option Header) → header_of bytes ≡ o → option_map_or (judged bytes) o (Err TooShort) ≡ Err fault → IsPlaced bytes fault
    by None read is = (let same : TooShort ≡ fault = cc in subst (IsPlaced bytes) same refl)
    by (Some h) read is = judged-placed bytes fits h read fault is
