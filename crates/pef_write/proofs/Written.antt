-- A written container is read back with its parts.
use Rattle.std.proofs.Common.{◌≡◌, ◌∙◌, ℕ, zero, suc, ◌+◌, ◌*◌, ◌-◌, ◌<◌, ◌≤◌, ◌^◌, Bool, true, false, List, [], ◌∷◌, ◌++◌, None, Some, length, take, replicate, get_or, length-append, append_assoc, refl, sym, ap, subst, inl, inr, arith}
use Rattle.std.specs.Prelude.{Ok, IsTrue, ◌==◌, ◌||◌, if◌then◌else◌, nat_le, nat_lt, slice_get}
use Rattle.std.specs.Int.{w32, cast_signed, cast_unsigned, next_multiple_of}
use Rattle.std.specs.List.{All}
use Rattle.std.proofs.Math.Bool.{or-true}
use Rattle.std.proofs.Math.Dec.{leb-suc-suc}
use Rattle.std.proofs.lemmas.Bool.{le-leb, lt-ltb}
use Rattle.std.proofs.lemmas.Bool.Decides.{leb_tells}
use Rattle.std.proofs.lemmas.List.{drop_at, take_all, take_at}
use Rattle.std.proofs.lemmas.Option.{slice_get-get_or, slice_get_past}
use Rattle.pef_words.specs.Refusals.{first_met}
use Rattle.pef_format.specs.Sections.{is_instantiable, is_loader, is_packed, kind_code, kind_of}
use Rattle.pef_format.specs.declared.section.SectionKind.{SectionKind}
use Rattle.pef_format.proofs.Laws.{kind-again, kind-small}
use Rattle.pef_pidata.specs.Packing.{packed_of}
use Rattle.pef_views.specs.declared.header.Header.{Header}
use Rattle.pef_views.specs.declared.section.SectionHeader.{SectionHeader}
use Rattle.pef_views.specs.Header.{header_of}
use Rattle.pef_views.specs.Section.{section_at, section_tests, is_inside, raw_of as raw_in, sizes_fit}
use Rattle.pef_views.specs.Container.{Section, container_of, section_of}
use Rattle.pef_views.proofs.Laws.{IsWritten, container_of-written, header_tests-unmet, section_tests-unmet}
use Rattle.pef_script.specs.declared.parts.Versions.{Versions}
use Rattle.pef_script.specs.Script.{DescribedSection}
use Rattle.pef_write.specs.Fields.{padded, spelled}
use Rattle.pef_write.specs.Containers.{data_from, header_fields, laid_out, loader_header, raw_data, raw_of, section_fields, section_header, spelled_headers, written_container, written_header, written_sections}
use Rattle.pef_write.specs.Kept.Fits.{AllFit, AreWritable, IsWritable, Reads}
use Rattle.pef_write.specs.Kept.Tables.{ReadsBack, contained_in}
use Rattle.pef_write.proofs.Fields.{inward, length-padded, outward, reads}
use Rattle.pef_write.proofs.Containers.{fronts, length-front, length-header, length-headers, length-laid_out, length-written_container}

-- a header whose fields are at the front
header_if : (bytes : List ℕ) (h : Header) → Reads bytes 0 0 (header_fields h) → header_of bytes ≡ Some h
unfolding header_of header_fields
header_if bytes h r0 =
    let r1 = r0.1 in
    let r2 = r1.1 in
    let r3 = r2.1 in
    let r4 = r3.1 in
    let r5 = r4.1 in
    let r6 = r5.1 in
    let r7 = r6.1 in
    let r8 = r7.1 in
    let r9 = r8.1 in
    let r10 = r9.1 in
    rw (r0.0, r1.0, r2.0, r3.0, r4.0, r5.0, r6.0, r7.0, r8.0, r9.0, r10.0) refl

-- a section header whose fields are in its place
section_if : (bytes : List ℕ) (i : ℕ) (s : SectionHeader) → cast_signed w32 (cast_unsigned w32 s.name_offset) ≡ s.name_offset → Reads bytes (40 + 28 * i) 0 (section_fields s) → section_at bytes i ≡ Some s
unfolding section_at section_fields
section_if bytes i s name r0 =
    let here : 40 + 28 * i + 0 ≡ 40 + 28 * i = omega arith in
    let first = rw here at r0.0 in
    let r1 = r0.1 in
    let r2 = r1.1 in
    let r3 = r2.1 in
    let r4 = r3.1 in
    let r5 = r4.1 in
    let r6 = r5.1 in
    let r7 = r6.1 in
    let r8 = r7.1 in
    let r9 = r8.1 in
    rw (first, r1.0, r2.0, r3.0, r4.0, r5.0, r6.0, r7.0, r8.0, r9.0, name) refl

-- the value for a section past the last one
abbrev pub no_section : Section
no_section = record { header = loader_header 0 0; raw = [] }

-- the header of a section among others
record HeaderAt (sections : List Section) (i : ℕ) : Type 0 where
  front : List ℕ
  back : List ℕ
  is : spelled_headers sections ≡ front ++ (spelled (section_fields (get_or sections i no_section).header) ++ back)
  place : length front ≡ 28 * i

header_at : (sections : List Section) (i : ℕ) → i < length sections → HeaderAt sections i
unfolding spelled_headers
header_at [] i under = absurd (omega arith)
header_at (s ∷ sections) zero under = record { front = []; back = spelled_headers sections; is = refl; place = refl }
header_at (s ∷ sections) (suc i) under =
    let later = header_at sections i (omega arith) in
    let own = length-headers (s ∷ []) in
    let first = length-append (spelled (section_fields s.header)) later.front in
    let size : length (spelled (section_fields s.header)) ≡ 28 = omega (arith, own, length-append (spelled (section_fields s.header)) []) in
    record {
      front = spelled (section_fields s.header) ++ later.front;
      back = later.back;
      is = ap (λ z. spelled (section_fields s.header) ++ z) later.is ∙ sym (append_assoc (spelled (section_fields s.header)) later.front _);
      place = omega (arith, later.place, first, size);
    }

-- the facts of a section among written bytes
record IsSound (bytes : List ℕ) (instantiated : Bool) (s : Section) : Type 0 where
  fields : AllFit (section_fields s.header)
  name : cast_signed w32 (cast_unsigned w32 s.header.name_offset) ≡ s.header.name_offset
  raw : raw_in bytes s.header ≡ s.raw
  unmet : (i : ℕ) → first_met (section_tests i instantiated s.header (length bytes)) ≡ None

inside_if : (s : SectionHeader) (len : ℕ) → s.container_offset + s.packed_size ≤ len → IsTrue (is_inside s len)
inside_if s len inside =
    let e = le-leb (s.container_offset + s.packed_size) len inside in
    rw (e, or-true (s.packed_size == 0)) refl

-- the loader section, after all others
loader_sound : (before loader : List ℕ) → length (before ++ loader) < 2 ^ 32 → IsSound (before ++ loader) false (record { header = loader_header (length loader) (length before); raw = loader })
unfolding section_fields
loader_sound before loader small =
    let joined = length-append before loader in
    record {
      fields = (omega arith, (omega arith, (omega arith, (omega arith, (omega arith, (omega arith, (omega arith, (omega arith, (omega arith, (omega arith, tt))))))))));
      name = refl;
      raw = ap (take (length loader)) (drop_at before loader (length before) refl) ∙ take_all (length loader) loader (omega arith);
      unmet = λ i. section_tests-unmet i false (loader_header (length loader) (length before)) (length (before ++ loader)) (inside_if (loader_header (length loader) (length before)) (length (before ++ loader)) (omega arith)) (λ h. absurd (cc));
    }

-- the raw bytes are packed, or no fewer than those of the image
enough_raw : (packed : Bool) (image : List ℕ) → (packed || nat_le (length image) (length (if packed then packed_of image else image))) ≡ true
enough_raw true image = refl
enough_raw false image = le-leb (length image) (length image) (omega arith)

sizes_if : (s : DescribedSection) (at : ℕ) → is_instantiable s.header.kind ≡ true → length s.image ≤ s.header.total → IsTrue (sizes_fit (section_header s at))
sizes_if s at named image =
    rw (le-leb (length s.image) s.header.total image, kind-again s.header.kind named) (enough_raw (is_packed s.header.kind) s.image)

kind_if : (kind : SectionKind) → is_instantiable kind ≡ true → IsTrue (is_instantiable (kind_of (kind_code kind)))
kind_if kind named = rw (kind-again kind named) named

-- a section of a script, with its raw bytes in their place
section_sound : (before rest : List ℕ) (s : DescribedSection) → IsWritable s → length (before ++ (padded 16 (raw_of s) ++ rest)) < 2 ^ 32 → IsSound (before ++ (padded 16 (raw_of s) ++ rest)) true (record { header = section_header s (length before); raw = raw_of s })
unfolding section_fields padded
section_sound before rest s writable small =
    let own = raw_of s in
    let zeros : List ℕ = replicate (next_multiple_of (length own) 16 - length own) 0 in
    let joined = length-append before (padded 16 own ++ rest) in
    let inner = length-append (padded 16 own) rest in
    let whole = length-padded 16 own in
    let total = writable.total in
    let image = writable.image in
    let align = writable.align in
    let share = writable.share in
    let kind = kind-small s.header.kind writable.kind in
    let header = section_header s (length before) in
    let len = length (before ++ (padded 16 own ++ rest)) in
    record {
      fields = (omega arith, (omega arith, (omega arith, (omega arith, (omega arith, (omega arith, (omega arith, (omega arith, (omega arith, (omega arith, tt))))))))));
      name = refl;
      raw = ap (take (length own)) (drop_at before (padded 16 own ++ rest) (length before) refl ∙ append_assoc own zeros rest) ∙ take_at own (zeros ++ rest) (length own) refl;
      unmet = λ i. section_tests-unmet i true header len (inside_if header len (omega arith)) (λ h. (kind_if s.header.kind writable.kind, sizes_if s (length before) writable.kind image, align));
    }

-- the facts of each section
sections_sound : (before : List ℕ) (sections : List DescribedSection) (loader : List ℕ) (i : ℕ) (instantiated : Bool) → All IsWritable sections → length (before ++ raw_data sections loader) < 2 ^ 32 → i < length sections + 1 → instantiated ≡ nat_lt i (length sections)
    → IsSound (before ++ raw_data sections loader) instantiated (get_or (laid_out (length before) sections loader) i no_section)
unfolding laid_out raw_data
sections_sound before [] loader zero instantiated each small under is =
    let P : Bool → Type 0 = λ b. IsSound (before ++ loader) b (record { header = loader_header (length loader) (length before); raw = loader }) in
    subst P (sym is) (loader_sound before loader small)
sections_sound before [] loader (suc i) instantiated each small under is = absurd (omega arith)
sections_sound before (s ∷ sections) loader zero instantiated each small under is =
    let P : Bool → Type 0 = λ b. IsSound (before ++ (padded 16 (raw_of s) ++ raw_data sections loader)) b (record { header = section_header s (length before); raw = raw_of s }) in
    subst P (sym (is ∙ lt-ltb 0 (length (s ∷ sections)) (omega arith))) (section_sound before (raw_data sections loader) s (each 0 s (omega arith)) small)
sections_sound before (s ∷ sections) loader (suc i) instantiated each small under is =
    let assoc : (before ++ padded 16 (raw_of s)) ++ raw_data sections loader ≡ before ++ (padded 16 (raw_of s) ++ raw_data sections loader) = append_assoc before (padded 16 (raw_of s)) (raw_data sections loader) in
    let size : length (before ++ padded 16 (raw_of s)) ≡ length before + next_multiple_of (length (raw_of s)) 16 = length-append before (padded 16 (raw_of s)) ∙ ap (λ n. length before + n) (length-padded 16 (raw_of s)) in
    let small' = rw (← assoc) at small in
    let later = sections_sound (before ++ padded 16 (raw_of s)) sections loader i instantiated (λ k d lt. each (suc k) d (omega arith)) small' (omega arith) (is ∙ leb-suc-suc (suc i) (length sections)) in
    let P : List ℕ → Type 0 = λ bytes. IsSound bytes instantiated (get_or (laid_out (length (before ++ padded 16 (raw_of s))) sections loader) i no_section) in
    let Q : ℕ → Type 0 = λ at. IsSound (before ++ (padded 16 (raw_of s) ++ raw_data sections loader)) instantiated (get_or (laid_out at sections loader) i no_section) in
    subst Q size (subst P assoc later)

-- the last section is the loader section
last_is : (at : ℕ) (sections : List DescribedSection) (loader : List ℕ) → let s = get_or (laid_out at sections loader) (length sections) no_section in IsTrue (is_loader (kind_of s.header.section_kind)) × (s.raw ≡ loader)
unfolding laid_out kind_of
last_is at [] loader = (refl, refl)
last_is at (s ∷ sections) loader = last_is (at + next_multiple_of (length (raw_of s)) 16) sections loader

-- the zeros after all headers
abbrev front_zeros : Versions → List DescribedSection → List ℕ → List ℕ
front_zeros v sections loader = replicate (next_multiple_of (length (fronts v sections loader)) 16 - length (fronts v sections loader)) 0

-- the facts of all written sections
module _ (v : Versions) (sections : List DescribedSection) (loader : List ℕ) (w : AreWritable v sections loader) where
  count : length (written_sections sections loader) ≡ length sections + 1
  unfolding written_sections
  count = length-laid_out (data_from (length sections)) sections loader

  many : (i : ℕ) → i < length sections + 1 → i < length (written_sections sections loader)
  many i under = omega (arith, count)

  few : (i : ℕ) → length sections + 1 ≤ i → length (written_sections sections loader) ≤ i
  few i past = omega (arith, count)

  sound : (i : ℕ) (instantiated : Bool) → i < length sections + 1 → instantiated ≡ nat_lt i (length sections) → IsSound (written_container v sections loader) instantiated (get_or (written_sections sections loader) i no_section)
  unfolding written_container written_sections
  sound i instantiated under is =
      let here = sections_sound (padded 16 (fronts v sections loader)) sections loader i instantiated w.each w.size under is in
      let Q : ℕ → Type 0 = λ at. IsSound (padded 16 (fronts v sections loader) ++ raw_data sections loader) instantiated (get_or (laid_out at sections loader) i no_section) in
      subst Q (length-front v sections loader) here

  header_there : header_of (written_container v sections loader) ≡ Some (written_header v (length sections))
  unfolding written_container padded header_fields
  header_there =
      let h = written_header v (length sections) in
      let current = w.current in
      let old_def = w.old_def in
      let old_imp = w.old_imp in
      let count = w.count in
      let fits : AllFit (header_fields h) = (omega arith, (omega arith, (omega arith, (omega arith, (omega arith, (omega arith, (omega arith, (omega arith, (omega arith, (omega arith, (omega arith, tt))))))))))) in
      let all = outward (spelled (header_fields h)) (spelled_headers (written_sections sections loader)) (front_zeros v sections loader) (raw_data sections loader) in
      let P : List ℕ → Type 0 = λ bytes. Reads bytes 0 0 (header_fields h) in
      header_if (written_container v sections loader) h (subst P (sym all) (reads [] (spelled_headers (written_sections sections loader) ++ (front_zeros v sections loader ++ raw_data sections loader)) (header_fields h) fits))

  section_there : (i : ℕ) → i < length sections + 1 → section_at (written_container v sections loader) i ≡ Some (get_or (written_sections sections loader) i no_section).header
  unfolding written_container padded
  section_there i under =
      let h = written_header v (length sections) in
      let s = get_or (written_sections sections loader) i no_section in
      let here = sound i (nat_lt i (length sections)) under refl in
      let place = header_at (written_sections sections loader) i (many i under) in
      let zeros = front_zeros v sections loader in
      let raw = raw_data sections loader in
      let all : written_container v sections loader ≡ (spelled (header_fields h) ++ place.front) ++ (spelled (section_fields s.header) ++ (place.back ++ (zeros ++ raw))) =
      outward (spelled (header_fields h)) (spelled_headers (written_sections sections loader)) zeros raw
      ∙ ap (λ z. spelled (header_fields h) ++ (z ++ (zeros ++ raw))) place.is
      ∙ inward (spelled (header_fields h)) place.front (spelled (section_fields s.header)) place.back (zeros ++ raw) in
      let far : length (spelled (header_fields h) ++ place.front) ≡ 40 + 28 * i = omega (arith, length-append (spelled (header_fields h)) place.front, length-header h, place.place) in
      let P : List ℕ → Type 0 = λ bytes. Reads bytes (40 + 28 * i) 0 (section_fields s.header) in
      let Q : ℕ → Type 0 = λ at. Reads ((spelled (header_fields h) ++ place.front) ++ (spelled (section_fields s.header) ++ (place.back ++ (zeros ++ raw)))) at 0 (section_fields s.header) in
      let found = reads (spelled (header_fields h) ++ place.front) (place.back ++ (zeros ++ raw)) (section_fields s.header) here.fields in
      section_if (written_container v sections loader) i s.header here.name (subst P (sym all) (subst Q far found))

  whole : data_from (length sections) + length (raw_data sections loader) ≡ length (written_container v sections loader)
  whole = sym (length-written_container v sections loader)

  written : IsWritten (written_container v sections loader) (written_header v (length sections)) (λ i. (get_or (written_sections sections loader) i no_section).header)
  unfolding written_sections
  written = record {
    header = header_there;
    tests = header_tests-unmet (written_header v (length sections)) (length (written_container v sections loader)) refl refl refl refl (omega arith) (omega (arith, whole));
    sections = section_there;
    unmet = λ i under. (sound i (nat_lt i (length sections)) under refl).unmet i;
    more = omega arith;
    loader = (last_is (data_from (length sections)) sections loader).0;
  }

  -- written bytes are the container of their parts
  pub container_of-sections : container_of (written_container v sections loader) ≡ Ok (contained_in v sections loader)
  unfolding written_sections
  container_of-sections =
      let raw = (sound (length sections) (nat_lt (length sections) (length sections)) (omega arith) refl).raw ∙ (last_is (data_from (length sections)) sections loader).1 in
      container_of-written (written_container v sections loader) (written_header v (length sections)) (λ i. (get_or (written_sections sections loader) i no_section).header) written
      ∙ ap (λ loader'. Ok (record (contained_in v sections loader) { loader = loader' })) raw

  -- .. and its sections are those, then the loader section
  pub section_of-sections : (i : ℕ) → section_of (contained_in v sections loader) i ≡ slice_get (written_sections sections loader) i
  unfolding section_of
  section_of-sections i = elim (leb_tells (suc i) (length sections + 1)) [
    | inl below ↦
        let under : i < length sections + 1 = omega arith in
        let here = sound i (nat_lt i (length sections)) under refl in
        let s = get_or (written_sections sections loader) i no_section in
        rw (below.0, section_there i under, slice_get-get_or (written_sections sections loader) i no_section (many i under)) (ap (λ raw. Some (record s { raw = raw })) here.raw)
    | inr past ↦
        let none = slice_get_past (written_sections sections loader) i (few i (omega arith)) in
        rw (past.0, none) refl
  ]

-- the bytes written are read back
pub reads_back : (v : Versions) (sections : List DescribedSection) (loader bytes : List ℕ) → bytes ≡ written_container v sections loader → AreWritable v sections loader → ReadsBack v sections loader bytes
reads_back v sections loader bytes is w = record {
  container = ap container_of is ∙ container_of-sections v sections loader w;
  sections = section_of-sections v sections loader w;
}
