-- The value that a written container is read back as.
use Rattle.std.proofs.Common.{◌≡◌, ◌∙◌, ℕ, Bool, true, false, suc, ◌+◌, ◌*◌, ◌<◌, ◌≤◌, ◌^◌, List, [], ◌∷◌, ◌++◌, length, drop, get_or, length-append, refl, ap, ap₂, arith}
use Rattle.std.specs.Prelude.{if◌then◌else◌}
use Rattle.std.specs.Int.{next_multiple_of}
use Rattle.std.specs.List.{All}
use Rattle.std.proofs.lemmas.List.{drop_more, drop_all}
use Rattle.pef_views.specs.declared.header.Header.{Header}
use Rattle.pef_views.specs.declared.section.SectionHeader.{SectionHeader}
use Rattle.pef_views.specs.Container.{Section}
use Rattle.pef_format.specs.Sections.{is_packed}
use Rattle.pef_pidata.specs.Packing.{packed_of}
use Rattle.pef_pidata.proofs.Laws.{length-packed_of}
use Rattle.pef_reloc.specs.Limits.{most_sections, offset_limit}
use Rattle.pef_script.specs.declared.parts.Versions.{Versions}
use Rattle.pef_script.specs.Script.{DescribedSection}
use Rattle.pef_write.specs.Fields.{padded, spelled}
use Rattle.pef_write.specs.Containers.{data_from, header_fields, laid_out, loader_header, raw_data, raw_of, section_fields, section_header, spelled_headers, written_container, written_header, written_sections}
use Rattle.pef_write.proofs.Fields.{length-padded}

-- raw bytes are at most twice as many as those of the image
pub length-raw_of : (s : DescribedSection) → length (raw_of s) ≤ 2 * length s.image
length-raw_of s = by (is_packed s.header.kind)
  where
    by : (packed : Bool) → length (if packed then packed_of s.image else s.image) ≤ 2 * length s.image
    by true = length-packed_of s.image
    by false = omega arith

-- one section, and those after it
pub raw_data-more : (sections : List DescribedSection) (loader : List ℕ) (i : ℕ) (d : DescribedSection) → i < length sections
    → raw_data (drop i sections) loader ≡ padded 16 (raw_of (get_or sections i d)) ++ raw_data (drop (i + 1) sections) loader
unfolding raw_data
raw_data-more sections loader i d under = ap (λ rest. raw_data rest loader) (drop_more sections i d under)

pub raw_data-end : (sections : List DescribedSection) (loader : List ℕ) (i : ℕ) → length sections ≤ i → raw_data (drop i sections) loader ≡ loader
unfolding raw_data
raw_data-end sections loader i past = ap (λ rest. raw_data rest loader) (drop_all i sections past)

pub length-raw_data-more : (sections : List DescribedSection) (loader : List ℕ) (i : ℕ) (d : DescribedSection) → i < length sections
    → length (raw_data (drop i sections) loader) ≡ next_multiple_of (length (raw_of (get_or sections i d))) 16 + length (raw_data (drop (i + 1) sections) loader)
length-raw_data-more sections loader i d under =
    ap length (raw_data-more sections loader i d under)
    ∙ length-append (padded 16 (raw_of (get_or sections i d))) (raw_data (drop (i + 1) sections) loader)
    ∙ ap (λ n. n + length (raw_data (drop (i + 1) sections) loader)) (length-padded 16 (raw_of (get_or sections i d)))

pub laid_out-more : (at : ℕ) (sections : List DescribedSection) (loader : List ℕ) (i : ℕ) (d : DescribedSection) → i < length sections
    → spelled_headers (laid_out at (drop i sections) loader)
    ≡ spelled (section_fields (section_header (get_or sections i d) at)) ++ spelled_headers (laid_out (at + next_multiple_of (length (raw_of (get_or sections i d))) 16) (drop (i + 1) sections) loader)
unfolding laid_out spelled_headers
laid_out-more at sections loader i d under = ap (λ rest. spelled_headers (laid_out at rest loader)) (drop_more sections i d under)

pub laid_out-end : (at : ℕ) (sections : List DescribedSection) (loader : List ℕ) (i : ℕ) → length sections ≤ i
    → spelled_headers (laid_out at (drop i sections) loader) ≡ spelled (section_fields (loader_header (length loader) at)) ++ []
unfolding laid_out spelled_headers
laid_out-end at sections loader i past = ap (λ rest. spelled_headers (laid_out at rest loader)) (drop_all i sections past)

-- the lengths of headers
pub length-header : (h : Header) → length (spelled (header_fields h)) ≡ 40
unfolding spelled header_fields
length-header h = refl

pub length-section : (s : SectionHeader) → length (spelled (section_fields s)) ≡ 28
unfolding spelled section_fields
length-section s = refl

pub length-headers : (sections : List Section) → length (spelled_headers sections) ≡ 28 * length sections
unfolding spelled_headers
length-headers [] = refl
length-headers (s ∷ sections) =
    omega (arith, length-append (spelled (section_fields s.header)) (spelled_headers sections), length-section s.header, length-headers sections)

pub length-laid_out : (at : ℕ) (sections : List DescribedSection) (loader : List ℕ) → length (laid_out at sections loader) ≡ length sections + 1
unfolding laid_out
length-laid_out at [] loader = refl
length-laid_out at (s ∷ sections) loader =
    let later = length-laid_out (at + next_multiple_of (length (raw_of s)) 16) sections loader in
    omega (arith, later)

-- the sections are laid out from the end of all headers on
pub sections-are : (sections : List DescribedSection) (loader : List ℕ) → laid_out (data_from (length sections)) sections loader ≡ written_sections sections loader
unfolding written_sections
sections-are sections loader = refl

-- all headers
abbrev pub fronts : Versions → List DescribedSection → List ℕ → List ℕ
fronts v sections loader = spelled (header_fields (written_header v (length sections))) ++ spelled_headers (written_sections sections loader)

pub length-fronts : (v : Versions) (sections : List DescribedSection) (loader : List ℕ) → length (fronts v sections loader) ≡ 40 + 28 * (length sections + 1)
unfolding written_sections
length-fronts v sections loader =
    length-append (spelled (header_fields (written_header v (length sections)))) (spelled_headers (written_sections sections loader))
    ∙ ap₂ (λ a b. a + b) (length-header (written_header v (length sections))) (length-headers (written_sections sections loader))
    ∙ ap (λ n. 40 + 28 * n) (length-laid_out (data_from (length sections)) sections loader)

pub length-front : (v : Versions) (sections : List DescribedSection) (loader : List ℕ) → length (padded 16 (fronts v sections loader)) ≡ data_from (length sections)
length-front v sections loader = length-padded 16 (fronts v sections loader) ∙ ap (λ n. next_multiple_of n 16) (length-fronts v sections loader)

-- a written container's length: that of its headers, up to a multiple of 16, and that of its raw bytes
pub length-written_container : (v : Versions) (sections : List DescribedSection) (loader : List ℕ) → length (written_container v sections loader) ≡ data_from (length sections) + length (raw_data sections loader)
unfolding written_container
length-written_container v sections loader =
    length-append (padded 16 (fronts v sections loader)) (raw_data sections loader) ∙ ap (λ n. n + length (raw_data sections loader)) (length-front v sections loader)

-- sections whose images are no longer than fixups reach
length-raw_data-bound : (sections : List DescribedSection) (loader : List ℕ) → All (λ s. length s.image ≤ offset_limit) sections → length (raw_data sections loader) ≤ 2 * offset_limit * length sections + length loader
unfolding raw_data
length-raw_data-bound [] loader each = omega arith
length-raw_data-bound (s ∷ sections) loader each =
    let own = each 0 s (omega arith) in
    let later = length-raw_data-bound sections loader (λ k d under. each (suc k) d (omega arith)) in
    let joined = length-append (padded 16 (raw_of s)) (raw_data sections loader) in
    let padding = length-padded 16 (raw_of s) in
    omega (arith, own, length-raw_of s, later, joined, padding)

-- a container of few and small sections is short enough for its fields
pub container_size : (v : Versions) (sections : List DescribedSection) (loader : List ℕ) → length sections ≤ most_sections → All (λ s. length s.image ≤ offset_limit) sections → length loader < 2 ^ 31 → length (written_container v sections loader) < 2 ^ 32
container_size v sections loader few each small =
    omega (arith, length-written_container v sections loader, length-raw_data-bound sections loader each)
