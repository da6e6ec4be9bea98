-- The first of all faults is the one that is reported alone.
use Rattle.std.proofs.Common.{◌≡◌, ◌∙◌, ℕ, ◌+◌, ◌<◌, ◌≤◌, false, true, List, [], ◌∷◌, ◌++◌, Option, None, Some, refl, sym, ap, arith, length}
use Rattle.std.specs.Prelude.{Result, Ok, Err}
use Rattle.std.specs.Option.{is_none, is_some, option_or, option_map, option_map_or, unwrap_or}
use Rattle.std.specs.Result.{result_err}
use Rattle.std.proofs.lemmas.Bool.{le-leb, lt-ltb}
use Rattle.pef_words.specs.Bytes.{number_at}
use Rattle.pef_words.specs.Findings.{all_among, all_met, first_fault, found_in}
use Rattle.pef_words.specs.Refusals.{first_among, first_met, unless}
use Rattle.pef_words.proofs.Laws.Findings.{first_fault-append, first_fault-met, first_fault-among, option_or-third, result_err-unless}
use Rattle.pef_words.proofs.Laws.Refusals.{neither, unless_ok}
use Rattle.pef_views.specs.declared.header.Header.{Header}
use Rattle.pef_views.specs.declared.section.SectionHeader.{SectionHeader}
use Rattle.pef_views.specs.declared.fault.ViewFault.{ViewFault}
use Rattle.pef_views.specs.declared.fault.ViewFault.TheVariants.{TooShort, NoLoader}
use Rattle.pef_views.specs.Header.{header_of, header_tests, tag_tests, field_tests, names_from, section_header_from}
use Rattle.pef_views.specs.Section.{raw_of, section_at, section_tests}
use Rattle.pef_views.specs.Container.{Contained, any_loader, container_of, judged, is_instantiated, loader_of, section_refusal, with_loader}
use Rattle.pef_views.specs.Partial.{findings_in, findings_of, is_out_of_order, loader_tests, opened, partial_of, section_findings, sections_allowed}
use Rattle.pef_views.proofs.Containers.{header_room}
use Rattle.pef_views.proofs.Headers.{tested_in_two}

-- what is there
is_there : {A : Type 0} (o : Option A) → is_some o ≡ true → (x : A) × (o ≡ Some x)
is_there None is = absurd (cc)
is_there (Some x) is = (x, refl)

-- if the section headers don't pass the end, each is there
section_there : (bytes : List ℕ) (h : Header) (i : ℕ) → names_from h ≤ length bytes → i < h.section_count → (s : SectionHeader) × (section_at bytes i ≡ Some s)
unfolding section_at number_at
section_there bytes h i room under = is_there (section_at bytes i) (rw (
  le-leb (section_header_from i + 4) (length bytes) (omega arith),
  le-leb (section_header_from i + 4 + 4) (length bytes) (omega arith),
  le-leb (section_header_from i + 8 + 4) (length bytes) (omega arith),
  le-leb (section_header_from i + 12 + 4) (length bytes) (omega arith),
  le-leb (section_header_from i + 16 + 4) (length bytes) (omega arith),
  le-leb (section_header_from i + 20 + 4) (length bytes) (omega arith),
  le-leb (section_header_from i + 24 + 1) (length bytes) (omega arith),
  le-leb (section_header_from i + 25 + 1) (length bytes) (omega arith),
  le-leb (section_header_from i + 26 + 1) (length bytes) (omega arith),
  le-leb (section_header_from i + 27 + 1) (length bytes) (omega arith),
) refl)

-- if its header is there, a section is refused with the first of its faults
section_first : (bytes : List ℕ) (h : Header) (i : ℕ) (s : SectionHeader) → i < h.section_count → section_at bytes i ≡ Some s → first_fault (section_findings (opened bytes h) i) ≡ section_refusal bytes h i
section_first bytes h i s under there = rw (lt-ltb i h.section_count under, there) (first_fault-met (section_tests i (is_instantiated h i) s (length bytes)))

-- what is reported of a loader section that isn't there
loader_first : (bytes : List ℕ) (h : Header) → first_fault (all_met (loader_tests (opened bytes h))) ≡ result_err (with_loader bytes h (loader_of bytes h))
loader_first bytes h = by (loader_of bytes h)
  where
    by : (loader : Option (List ℕ)) → first_fault (all_met ((is_none loader, NoLoader) ∷ [])) ≡ result_err (with_loader bytes h loader)
    by None = refl
    by (Some loader) = refl

-- sections and loader section, if their headers are there
rest_first : (bytes : List ℕ) (h : Header) → names_from h ≤ length bytes → first_fault (all_among (section_findings (opened bytes h)) 0 h.section_count ++ all_met (loader_tests (opened bytes h))) ≡ result_err (unless (first_among (section_refusal bytes h) 0 h.section_count) (with_loader bytes h (loader_of bytes h)))
rest_first bytes h room =
    let rows = first_fault-among (section_findings (opened bytes h)) (section_refusal bytes h) 0 h.section_count (λ k low high. (let here = section_there bytes h k room (omega arith) in section_first bytes h k here.0 (omega arith) here.1)) in
    first_fault-append (all_among (section_findings (opened bytes h)) 0 h.section_count) (all_met (loader_tests (opened bytes h)))
    ∙ rw (rows, loader_first bytes h) (sym (result_err-unless (first_among (section_refusal bytes h) 0 h.section_count) (with_loader bytes h (loader_of bytes h))))

-- the first fault of something that was read, unless there was one
found_first : {A F : Type 0} (findings : A → List F) (fault : Option F) (x : A) → first_fault (found_in findings (unless fault (Ok x))) ≡ option_or fault (first_fault (findings x))
found_first findings None x = refl
found_first findings (Some fault) x = refl

-- a header's faults, then the others, which only matter if there are none of these
header_first : (bytes : List ℕ) (h : Header) → first_fault (found_in findings_in (unless (first_met (tag_tests h)) (Ok (opened bytes h)))) ≡ result_err (judged bytes h)
header_first bytes h =
    let tags = tag_tests h in
    let fields = field_tests h (length bytes) in
    let rest = all_among (section_findings (opened bytes h)) 0 h.section_count ++ all_met (loader_tests (opened bytes h)) in
    let others : Result Contained ViewFault = unless (first_among (section_refusal bytes h) 0 h.section_count) (with_loader bytes h (loader_of bytes h)) in
    let both = tested_in_two h (length bytes) in
    found_first findings_in (first_met tags) (opened bytes h)
    ∙ rw (first_fault-append (all_met fields) rest, first_fault-met fields)
    (option_or-third (first_met tags) (first_met fields) (first_fault rest) (result_err others)
    (λ none. rest_first bytes h (header_room h (length bytes) (both ∙ none))))
    ∙ ap (λ f. option_or f (result_err others)) (sym both)
    ∙ sym (result_err-unless (first_met (header_tests h (length bytes))) others)

-- the first of all faults is the one that is reported alone, and there is none exactly for a container
pub first_is_reported : (bytes : List ℕ) → first_fault (findings_of bytes) ≡ result_err (container_of bytes)
unfolding findings_of partial_of container_of
first_is_reported bytes = by (header_of bytes)
  where
    by : (h : Option Header) → first_fault (found_in findings_in (option_map_or (λ h. unless (first_met (tag_tests h)) (Ok (opened bytes h))) h (Err TooShort))) ≡ result_err (option_map_or (judged bytes) h (Err TooShort))
    by None = refl
    by (Some h) = header_first bytes h

-- a header that is judged well is opened as that container
judged_opens : (bytes : List ℕ) (h : Header) (c : Contained) → judged bytes h ≡ Ok c → (let r : Result Contained ViewFault = unless (first_met (tag_tests h)) (Ok (opened bytes h)) in r ≡ Ok c)
judged_opens bytes h c ok =
    let tested = unless_ok (first_met (header_tests h (length bytes))) _ c ok in
    let sections = unless_ok (first_among (section_refusal bytes h) 0 h.section_count) _ c tested.1 in
    let tags = neither (first_met (tag_tests h)) _ (sym (tested_in_two h (length bytes)) ∙ tested.0) in
    rw tags.0 (by (loader_of bytes h) sections.1)
  where
    by : (loader : Option (List ℕ)) → with_loader bytes h loader ≡ Ok c → (let r : Result Contained ViewFault = Ok (record { bytes = bytes; header = h; loader = unwrap_or (option_or loader (option_map (raw_of bytes) (any_loader bytes h))) [] }) in r ≡ Ok c)
    by None ok = absurd (cc)
    by (Some loader) ok = ok

-- what can be read of a container is the container
pub whole_container : (bytes : List ℕ) (c : Contained) → container_of bytes ≡ Ok c → partial_of bytes ≡ Ok c
unfolding partial_of container_of
whole_container bytes c ok = by (header_of bytes) ok
  where
    by : (h : Option Header) → option_map_or (judged bytes) h (Err TooShort) ≡ Ok c → option_map_or (λ h. unless (first_met (tag_tests h)) (Ok (opened bytes h))) h (Err TooShort) ≡ Ok c
    by None ok = absurd (cc)
    by (Some h) ok = judged_opens bytes h c ok

-- with a loader section that isn't instantiated, rows may name the instantiated sections
pub sections-in-order : (c : Contained) → is_none (loader_of c.bytes c.header) ≡ false → sections_allowed c ≡ c.header.instantiated_section_count
unfolding is_out_of_order sections_allowed
sections-in-order c there = rw there refl

-- bytes that aren't refused are a container, namely what can be read of them
pub unrefused_container : (bytes : List ℕ) (c : Contained) → partial_of bytes ≡ Ok c → result_err (container_of bytes) ≡ None → container_of bytes ≡ Ok c
unrefused_container bytes c opens none = by (container_of bytes) refl none
  where
    by : (r : Result Contained ViewFault) → container_of bytes ≡ r → result_err r ≡ None → r ≡ Ok c
    by (Ok other) is none = sym (whole_container bytes other is) ∙ opens
    by (Err fault) is none = absurd (cc none)
