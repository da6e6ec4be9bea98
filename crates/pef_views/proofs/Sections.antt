-- Facts of a section that isn't refused.
use Rattle.std.proofs.Common.{◌≡◌, ℕ, ◌+◌, ◌<◌, ◌≤◌, Bool, true, false, not, List, Option, None, Some, length, drop, length-drop, length-take, inl, inr, refl, arith}
use Rattle.std.specs.Prelude.{◌==◌, ◌&&◌, ◌||◌, IsTrue, nat_le, nat_lt}
use Rattle.std.proofs.lemmas.Bool.{and_parts, eqb-true, leb-true, ltb-false, not-false, or_cases}
use Rattle.std.specs.Option.{option_map_or}
use Rattle.pef_words.specs.Refusals.{first_met, first_among}
use Rattle.pef_words.proofs.Laws.Refusals.{first_unmet, none_among}
use Rattle.pef_format.specs.Sections.{is_instantiable, is_packed, kind_of}
use Rattle.pef_views.specs.declared.header.Header.{Header}
use Rattle.pef_views.specs.declared.section.SectionHeader.{SectionHeader}
use Rattle.pef_views.specs.declared.fault.ViewFault.TheVariants.{TooShort}
use Rattle.pef_views.specs.Section.{section_at, section_tests, is_inside, raw_of, sizes_fit, greatest_alignment}
use Rattle.pef_views.specs.Container.{IsInstantiable, section_in, section_refusal, is_instantiated}

-- a section that exists and whose tests don't hold
pub record Unrefused (bytes : List ℕ) (h : Header) (i : ℕ) : Type 0 where
  pub header : SectionHeader
  pub at : section_at bytes i ≡ Some header
  pub unmet : first_met (section_tests i (is_instantiated h i) header (length bytes)) ≡ None

unrefused-among : (bytes : List ℕ) (h : Header) (i : ℕ) (s : Option SectionHeader) → section_at bytes i ≡ s → option_map_or (λ s. first_met (section_tests i (is_instantiated h i) s (length bytes))) s (Some TooShort) ≡ None → Unrefused bytes h i
unrefused-among bytes h i None at none = absurd (cc)
unrefused-among bytes h i (Some s) at none = record { header = s; at = at; unmet = none }

-- if no section is refused, each is there
pub unrefused : (bytes : List ℕ) (h : Header) (i : ℕ) → first_among (section_refusal bytes h) 0 h.section_count ≡ None → i < h.section_count → Unrefused bytes h i
unrefused bytes h i none under =
    unrefused-among bytes h i (section_at bytes i) refl (none_among (section_refusal bytes h) 0 h.section_count i none (omega arith) (omega arith))

-- a section whose tests don't hold has its raw bytes inside
pub unmet_inside : (i : ℕ) (inst : Bool) (s : SectionHeader) (len : ℕ) → first_met (section_tests i inst s len) ≡ None → IsTrue (is_inside s len)
unfolding section_tests
unmet_inside i inst s len none = not-false _ (first_unmet _ _ _ none).0

-- if no section is refused, the tests of each one that exists don't hold
pub section_unmet : (bytes : List ℕ) (h : Header) (i : ℕ) (s : SectionHeader) → first_among (section_refusal bytes h) 0 h.section_count ≡ None → i < h.section_count → section_at bytes i ≡ Some s → first_met (section_tests i (is_instantiated h i) s (length bytes)) ≡ None
section_unmet bytes h i s none under there =
    let refused = none_among (section_refusal bytes h) 0 h.section_count i none (omega arith) (omega arith) in
    rw there at refused

-- raw bytes inside have their full length
pub length-raw_of : (bytes : List ℕ) (s : SectionHeader) → IsTrue (is_inside s (length bytes)) → length (raw_of bytes s) ≡ s.packed_size
length-raw_of bytes s inside =
    let whole = length-take s.packed_size (drop s.container_offset bytes) in
    let rest = length-drop s.container_offset bytes in
    elim (or_cases (s.packed_size == 0) (nat_le (s.container_offset + s.packed_size) (length bytes)) inside) [
      | inl none ↦ (let empty = eqb-true s.packed_size 0 none in omega (arith, whole, empty))
      | inr some ↦ (let end = leb-true (s.container_offset + s.packed_size) (length bytes) some in omega (arith, whole, rest, end))
    ]

-- sizes that fit, outside of pattern-initialized data
sizes_are : (pattern : Bool) (total unpacked packed : ℕ) → IsTrue (nat_le unpacked total && (pattern || nat_le unpacked packed)) → (unpacked ≤ total) × (pattern ≡ false → unpacked ≤ packed)
sizes_are pattern total unpacked packed fit =
    let parts = and_parts (nat_le unpacked total) (pattern || nat_le unpacked packed) fit in (
      leb-true unpacked total parts.0,
      λ other. leb-true unpacked packed (rw other at parts.1),
    )

-- an instantiated section whose tests don't hold
pub unmet_instantiable : (i : ℕ) (bytes : List ℕ) (s : SectionHeader) → first_met (section_tests i true s (length bytes)) ≡ None → IsInstantiable (section_in bytes s)
unfolding section_tests
unmet_instantiable i bytes s none =
    let inside = first_unmet (not (is_inside s (length bytes))) _ _ none in
    let kind = first_unmet (not (is_instantiable (kind_of s.section_kind))) _ _ inside.1 in
    let sizes = first_unmet (not (sizes_fit s)) _ _ kind.1 in
    let alignment = first_unmet (nat_lt greatest_alignment s.alignment) _ _ sizes.1 in
    let fit = sizes_are (is_packed (kind_of s.section_kind)) s.total_size s.unpacked_size s.packed_size (not-false _ sizes.0) in
    let whole = length-raw_of bytes s (not-false _ inside.0) in
    record {
      kind = not-false _ kind.0;
      image = fit.0;
      unpacked = λ other. (let enough = fit.1 other in omega (arith, whole, enough));
      alignment = ltb-false greatest_alignment s.alignment alignment.0;
    }
