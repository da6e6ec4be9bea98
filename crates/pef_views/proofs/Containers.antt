-- What it means that a container is accepted, and what that requires.
use Rattle.std.proofs.Common.{◌≡◌, ℕ, ◌<◌, ◌≤◌, false, not, List, Option, None, Some, refl, subst, ap}
use Rattle.std.specs.Prelude.{◌==◌, ◌&&◌, Ok, Err, IsTrue, length, nat_lt}
use Rattle.std.proofs.lemmas.Bool.{lt-ltb, ltb-false}
use Rattle.std.specs.Option.{option_map_or}
use Rattle.pef_words.specs.Refusals.{first_met, first_among}
use Rattle.std.specs.Result.{result_unwrap_or}
use Rattle.pef_views.specs.declared.header.Header.{Header}
use Rattle.pef_views.specs.declared.section.SectionHeader.{SectionHeader}
use Rattle.pef_views.specs.declared.fault.ViewFault.TheVariants.{TooShort}
use Rattle.pef_views.specs.Header.{header_of, header_tests, joy, names_from, peff, pwpc, version_1}
use Rattle.pef_views.specs.Section.{section_at, section_tests, is_inside, raw_of}
use Rattle.pef_views.specs.Container.{Contained, IsContainer, IsInstantiable, is_instantiated, section_in, container_of, judged, loader_of, section_refusal, with_loader}
use Rattle.pef_views.proofs.Sections.{length-raw_of, section_unmet, unmet_inside, unmet_instantiable, unrefused}
use Rattle.pef_words.proofs.Laws.Refusals.{first_unmet, unless_ok}

-- a container's parts are there, and no test holds
pub record IsAccepted (c : Contained) : Type 0 where
  pub header : header_of c.bytes ≡ Some c.header
  pub tests : first_met (header_tests c.header (length c.bytes)) ≡ None
  pub sections : first_among (section_refusal c.bytes c.header) 0 c.header.section_count ≡ None
  pub loader : loader_of c.bytes c.header ≡ Some c.loader

-- what a container with a loader section consists of
pub with_loader_ok : (bytes : List ℕ) (h : Header) (loader : Option (List ℕ)) (c : Contained) → with_loader bytes h loader ≡ Ok c → (loader ≡ Some c.loader) × (h ≡ c.header) × (bytes ≡ c.bytes)
with_loader_ok bytes h None c ok = absurd (cc)
with_loader_ok bytes h (Some loader) c ok =
    let same = ap (λ r. result_unwrap_or r c) ok in
    (ap (λ x. Some x.loader) same, ap (λ x. x.header) same, ap (λ x. x.bytes) same)

judged_ok : (c : Contained) (h : Header) → header_of c.bytes ≡ Some h → judged c.bytes h ≡ Ok c → IsAccepted c
judged_ok c h there ok =
    let a = unless_ok (first_met (header_tests h (length c.bytes))) _ c ok in
    let b = unless_ok (first_among (section_refusal c.bytes h) 0 h.section_count) _ c a.1 in
    let d = with_loader_ok c.bytes h (loader_of c.bytes h) c b.1 in
    let P : Header → Type 0 = λ h. IsAccepted (record c { header = h }) in
    subst P d.1 (record { header = there; tests = a.0; sections = b.0; loader = d.0 })

header_ok : (c : Contained) (h : Option Header) → header_of c.bytes ≡ h → option_map_or (judged c.bytes) h (Err TooShort) ≡ Ok c → IsAccepted c
header_ok c None there ok = absurd (cc)
header_ok c (Some h) there ok = judged_ok c h there ok

-- a container's parts are there, and no test holds
pub accepted : (c : Contained) → IsContainer c → IsAccepted c
unfolding container_of
accepted c ok = header_ok c (header_of c.bytes) refl ok

-- if the parts are there and no test holds, the bytes are that container
pub accepts : (c : Contained) → IsAccepted c → IsContainer c
unfolding container_of
accepts c a = rw (a.header, a.tests, a.sections, a.loader) refl

module _ (c : Contained) (i : ℕ) (s : SectionHeader) (ok : IsContainer c) (under : i < c.header.section_count) (there : section_at c.bytes i ≡ Some s) where
  unmet : first_met (section_tests i (is_instantiated c.header i) s (length c.bytes)) ≡ None
  unmet = section_unmet c.bytes c.header i s (accepted c ok).sections under there

  -- the raw bytes of a section lie inside
  pub raw_inside : IsTrue (is_inside s (length c.bytes))
  raw_inside = unmet_inside i (is_instantiated c.header i) s (length c.bytes) unmet

  -- they are as many as its header says
  pub raw_whole : length (raw_of c.bytes s) ≡ s.packed_size
  raw_whole = length-raw_of c.bytes s raw_inside

  -- an instantiated section is one that can be
  pub instantiable : i < c.header.instantiated_section_count → IsInstantiable (section_in c.bytes s)
  instantiable below = unmet_instantiable i c.bytes s (rw (lt-ltb i c.header.instantiated_section_count below) at unmet)

-- no test of a header holds for bytes of a length
pub record IsUnmet (h : Header) (len : ℕ) : Type 0 where
  pub tag : not (h.tag_1 == joy && h.tag_2 == peff) ≡ false
  pub architecture : not (h.architecture == pwpc) ≡ false
  pub version : not (h.format_version == version_1) ≡ false
  pub counts : nat_lt h.section_count h.instantiated_section_count ≡ false
  pub room : nat_lt len (names_from h) ≡ false

pub header_unmet : (h : Header) (len : ℕ) → first_met (header_tests h len) ≡ None → IsUnmet h len
unfolding header_tests
header_unmet h len none =
    let tag = first_unmet (not (h.tag_1 == joy && h.tag_2 == peff)) _ _ none in
    let architecture = first_unmet (not (h.architecture == pwpc)) _ _ tag.1 in
    let version = first_unmet (not (h.format_version == version_1)) _ _ architecture.1 in
    let counts = first_unmet (nat_lt h.section_count h.instantiated_section_count) _ _ version.1 in
    let room = first_unmet (nat_lt len (names_from h)) _ _ counts.1 in
    record { tag = tag.0; architecture = architecture.0; version = version.0; counts = counts.0; room = room.0 }

-- header tests that don't hold leave room for the section headers
pub header_room : (h : Header) (len : ℕ) → first_met (header_tests h len) ≡ None → names_from h ≤ len
header_room h len none = ltb-false len (names_from h) (header_unmet h len none).room

-- a container has no more instantiated sections than sections
pub counts : (c : Contained) → IsContainer c → c.header.instantiated_section_count ≤ c.header.section_count
counts c ok = ltb-false c.header.section_count c.header.instantiated_section_count (header_unmet c.header (length c.bytes) (accepted c ok).tests).counts

-- the header of each section below the count is there
pub section_header_is : (c : Contained) (i : ℕ) → IsContainer c → i < c.header.section_count → (s : SectionHeader) × (section_at c.bytes i ≡ Some s)
section_header_is c i ok under =
    let here = unrefused c.bytes c.header i (accepted c ok).sections under in
    (here.header, here.at)
