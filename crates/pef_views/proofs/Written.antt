-- Written bytes are the container of their parts.
use Rattle.std.proofs.Common.{◌≡◌, ℕ, ◌<◌, ◌≤◌, Bool, true, false, List, None, Some, length, refl, zero-add, arith}
use Rattle.std.specs.Prelude.{Ok, IsTrue}
use Rattle.std.proofs.lemmas.Bool.{le-ltb, lt-ltb}
use Rattle.pef_words.specs.Refusals.{first_met}
use Rattle.pef_words.proofs.Laws.Refusals.{first_among-at, first_among-none}
use Rattle.pef_format.specs.Sections.{is_instantiable, is_loader, kind_of}
use Rattle.pef_views.specs.declared.header.Header.{Header}
use Rattle.pef_views.specs.declared.section.SectionHeader.{SectionHeader}
use Rattle.pef_views.specs.Header.{header_of, header_tests, names_from, joy, peff, pwpc, version_1}
use Rattle.pef_views.specs.Section.{section_at, section_tests, is_inside, raw_of, sizes_fit, greatest_alignment}
use Rattle.pef_views.specs.Container.{container_of, is_instantiated, loader_here, section_refusal}
use Rattle.pef_views.proofs.Containers.{accepts}

-- no test of this header holds
pub header_tests-unmet : (h : Header) (len : ℕ) → h.tag_1 ≡ joy → h.tag_2 ≡ peff → h.architecture ≡ pwpc → h.format_version ≡ version_1 → h.instantiated_section_count ≤ h.section_count → names_from h ≤ len → first_met (header_tests h len) ≡ None
unfolding header_tests
header_tests-unmet h len tag_1 tag_2 architecture version counts room =
    rw (tag_1, tag_2, architecture, version, le-ltb h.section_count h.instantiated_section_count counts, le-ltb len (names_from h) room) refl

-- no test of this section holds
pub section_tests-unmet : (i : ℕ) (instantiated : Bool) (s : SectionHeader) (len : ℕ) → IsTrue (is_inside s len) → (IsTrue instantiated → IsTrue (is_instantiable (kind_of s.section_kind)) × IsTrue (sizes_fit s) × (s.alignment ≤ greatest_alignment)) → first_met (section_tests i instantiated s len) ≡ None
unfolding section_tests
section_tests-unmet i false s len inside sound = rw inside refl
section_tests-unmet i true s len inside sound =
    let parts = sound refl in
    rw (inside, parts.0, parts.1, le-ltb greatest_alignment s.alignment parts.2) refl

-- bytes are written with these headers, and none of their tests holds; the first section that isn't
-- instantiated is a loader section
pub record IsWritten (bytes : List ℕ) (h : Header) (section : ℕ → SectionHeader) : Type 0 where
  pub header : header_of bytes ≡ Some h
  pub tests : first_met (header_tests h (length bytes)) ≡ None
  pub sections : (i : ℕ) → i < h.section_count → section_at bytes i ≡ Some (section i)
  pub unmet : (i : ℕ) → i < h.section_count → first_met (section_tests i (is_instantiated h i) (section i) (length bytes)) ≡ None
  pub more : h.instantiated_section_count < h.section_count
  pub loader : IsTrue (is_loader (kind_of (section h.instantiated_section_count).section_kind))

-- written bytes are a container
pub container_of-written : (bytes : List ℕ) (h : Header) (section : ℕ → SectionHeader) → IsWritten bytes h section → container_of bytes ≡ Ok (record { bytes = bytes; header = h; loader = raw_of bytes (section h.instantiated_section_count) })
container_of-written bytes h section w = accepts _ (record {
  header = w.header;
  tests = w.tests;
  sections = first_among-none (section_refusal bytes h) 0 h.section_count (λ i low under. rw (w.sections i (omega arith)) (w.unmet i (omega arith)));
  loader = first_among-at (loader_here bytes h) 0 h.section_count h.instantiated_section_count _ w.more
      (λ i low under. rw (lt-ltb i h.instantiated_section_count (omega arith)) refl)
      (rw (zero-add h.instantiated_section_count, le-ltb h.instantiated_section_count h.instantiated_section_count (omega arith), w.sections h.instantiated_section_count w.more, w.loader) refl);
})
