-- The state of a container, by what is found in it.
use Rattle.std.proofs.Common.{◌≡◌, ◌≢◌, ◌∙◌, ℕ, zero, suc, ◌+◌, ◌<◌, ◌≤◌, Bool, true, false, not, cond, List, [], ◌∷◌, ◌++◌, map, length, Option, None, Some, Ok, Err, Result, inl, inr, refl, sym, ap, subst, arith}
use Rattle.std.specs.Prelude.{◌==◌, ◌&&◌, ◌||◌, nat_le, nat_lt}
use Rattle.std.specs.List.{AllByRecursion}
use Rattle.std.specs.Option.{option_map, option_map_or}
use Rattle.std.proofs.lemmas.Bool.{eqb-true, leb-true, le-ltb, lt-ltb, ltb-false, ltb-true}
use Rattle.std.proofs.lemmas.List.Sorted.{IsPermutation-sym}
use Rattle.pef_words.specs.Findings.{all_among, all_met}
use Rattle.pef_words.specs.Refusals.{first_met, unless}
use Rattle.pef_words.proofs.Laws.Findings.{none-among, none-append}
use Rattle.pef_views.specs.Container.{Contained, is_instantiated}
use Rattle.pef_views.specs.Extents.{greatest}
use Rattle.pef_views.specs.Header.{field_tests, header_of, names_from, pwpc, tag_tests, version_1}
use Rattle.pef_views.specs.Partial as views
use Rattle.pef_views.specs.Section.{is_inside, section_tests}
use Rattle.pef_views.specs.declared.fault.ViewFault.{ViewFault}
use Rattle.pef_views.specs.declared.fault.ViewFault.TheVariants.{BadArchitecture, BadFormatVersion, BadSectionCounts, TooShort}
use Rattle.pef_views.specs.declared.header.Header.{Header}
use Rattle.pef_views.specs.declared.section.SectionHeader.{SectionHeader}
use Rattle.pef_inspect.specs.Errors.{behind_errors, errors_within, opened_errors}
use Rattle.pef_inspect.specs.Findings.{cause_number, finding_number, is_error, is_fault, view_finding}
use Rattle.pef_inspect.specs.Notes.{note_number}
use Rattle.pef_inspect.specs.Oddities.{notes_within}
use Rattle.pef_inspect.specs.declared.finding.Cause.{Cause}
use Rattle.pef_inspect.specs.Needs.{needed_by, needed_of, section_end}
use Rattle.pef_inspect.specs.declared.finding.Cause.TheVariants as cause
use Rattle.pef_inspect.specs.declared.finding.Finding.{Finding}
use Rattle.pef_inspect.specs.declared.limits.Limits.{Limits}
use Rattle.pef_inspect.specs.declared.note.Note.{Note}
use Rattle.pef_inspect.specs.declared.note.Note.TheVariants as note
use Rattle.pef_report.specs.Inspection.{Inspected, InspectsWithin, count_chosen}
use Rattle.pef_report.specs.States.{HasOnly, IsWholeVerdict, VerdictsAreRight, verdict_on}
use Rattle.pef_report.specs.Verdict.{architecture_of, error_state, has_number, has_other, is_damaged, is_m68k, is_stub, is_unlikely, sound_state, state_of, verdict_of}
use Rattle.pef_report.specs.declared.verdict.Group.{Group}
use Rattle.pef_report.specs.declared.verdict.Group.TheVariants as group
use Rattle.pef_report.specs.declared.verdict.State.{State}
use Rattle.pef_report.specs.declared.verdict.State.TheVariants as state
use Rattle.pef_report.proofs.Judging.{all-front, counted-none, judges_right, none-counted, permuted}

-- no finding is an error
abbrev AreNotes : List Finding → Type 0
AreNotes fs = AllByRecursion (λ f. is_error f ≡ false) fs

-- without errors no part is damaged
undamaged : (which : Group) (is_read : Bool) (fs : List Finding) → AreNotes fs → is_damaged which is_read fs ≡ false
undamaged which is_read [] none = refl
undamaged which is_read (f ∷ fs) none = rw (none.0, undamaged which is_read fs none.1) refl

-- .. and the other way round
sound-each : (fs : List Finding) → is_damaged group.Any true fs ≡ false → AreNotes fs
sound-each [] none = tt
sound-each (f ∷ fs) none = by (is_error f) refl none (sound-each fs)
  where
    by : (b : Bool) → is_error f ≡ b → ((b && true) || is_damaged group.Any true fs) ≡ false → (is_damaged group.Any true fs ≡ false → AreNotes fs) → AreNotes (f ∷ fs)
    by true is none later = absurd (cc none)
    by false is none later = (is, later none)

-- no note has the number of an error
note-low : (n : Note) → (note_number n == 3) ≡ false
note-low note.ReservedNotZero = refl
note-low note.UnknownKind = refl
note-low note.UnknownShare = refl
note-low note.VersionBelowOldest = refl
note-low note.EntryOutside = refl
note-low note.ExportOutside = refl
note-low (note.WordOutsideImage word) = refl
note-low note.IrregularExports = refl
note-low (note.TrailingBytes len) = refl
note-low note.ProgramsUnverified = refl
note-low note.ImagesUnverified = refl
note-low (note.Overlap len) = refl
note-low (note.UnownedBytes len) = refl
note-low (note.WordRelocatedTwice word) = refl
note-low (note.SectionsOutOfOrder sections) = refl
note-low note.NameOutside = refl
note-low (note.TextDamage count) = refl
note-low (note.ZeroRows len) = refl

cause-low : (c : Cause) → is_fault c ≡ false → (cause_number c == 3) ≡ false
cause-low (cause.View f) is = absurd (cc is)
cause-low (cause.Loader f) is = absurd (cc is)
cause-low (cause.Pack f) is = absurd (cc is)
cause-low (cause.Reloc f) is = absurd (cc is)
cause-low (cause.Note n) is = note-low n

none-three : (fs : List Finding) → AreNotes fs → has_number 3 fs ≡ false
none-three [] none = refl
none-three (f ∷ fs) none = rw (cause-low f.cause none.0, none-three fs none.1) refl

-- the first rule of a table that isn't broken, and the others
unbroken : {F : Type 0} (b : Bool) (fault : F) (rest : List F) → cond b (fault ∷ rest) rest ≡ [] → (b ≡ false) × (rest ≡ [])
unbroken true fault rest none = absurd (cc none)
unbroken false fault rest none = (refl, none)

-- what can be read of some bytes has these bytes
opened-bytes : (bytes : List ℕ) (c : Contained) → views.partial_of bytes ≡ Ok c → c.bytes ≡ bytes
unfolding views.partial_of
opened-bytes bytes c is = by (header_of bytes) is
  where
    at : (h : Header) (o : Option ViewFault) → unless o (Ok (views.opened bytes h)) ≡ Ok c → c.bytes ≡ bytes
    at h None is = (let same : views.opened bytes h ≡ c = cc is in sym (ap (λ (k : Contained). k.bytes) same))
    at h (Some fault) is = absurd (cc is)

    by : (o : Option Header) → option_map_or (λ h. unless (first_met (tag_tests h)) (Ok (views.opened bytes h))) o (Err TooShort) ≡ Ok c → c.bytes ≡ bytes
    by None is = absurd (cc is)
    by (Some h) is = at h (first_met (tag_tests h)) is

-- the greatest of some numbers is no more than a bound of all
greatest-low : (f : ℕ → ℕ) (from n most : ℕ) → ((k : ℕ) → from ≤ k → k < from + n → f k ≤ most) → greatest f from n ≤ most
greatest-low f from zero most low = omega arith
greatest-low f from (suc n) most low =
    let here = low from (omega arith) (omega arith) in
    let later = greatest-low f (from + 1) n most (λ k under over. low k (omega (arith, under)) (omega (arith, over))) in
    omega (arith, here, later)

-- a section whose rules aren't broken ends in the container
section-low : (i : ℕ) (instantiated : Bool) (s : SectionHeader) (len : ℕ) → all_met (section_tests i instantiated s len) ≡ [] → section_end (Some s) ≤ len
unfolding section_tests
section-low i instantiated s len none = by (s.packed_size == 0) (nat_le (s.container_offset + s.packed_size) len) refl (unbroken (not (is_inside s len)) _ _ none).0
  where
    by : (empty inside : Bool) → nat_le (s.container_offset + s.packed_size) len ≡ inside → not (empty || inside) ≡ false → cond empty 0 (s.container_offset + s.packed_size) ≤ len
    by true inside is none = omega arith
    by false true is none = (let low = leb-true (s.container_offset + s.packed_size) len is in omega (arith, low))
    by false false is none = absurd (cc none)

row-low : (c : Contained) (i : ℕ) → views.section_findings c i ≡ [] → section_end (views.header_in c i) ≤ length c.bytes
row-low c i none = by (views.header_in c i) none
  where
    by : (o : Option SectionHeader) → option_map_or all_met (option_map (λ s. section_tests i (is_instantiated c.header i) s (length c.bytes)) o) [] ≡ [] → section_end o ≤ length c.bytes
    by None none = omega arith
    by (Some s) none = section-low i (is_instantiated c.header i) s (length c.bytes) none

-- a container without errors has the bytes that it needs
needs-low : (c : Contained) → views.findings_in c ≡ [] → needed_by c ≤ length c.bytes
needs-low c none =
    let parts = none-append (all_met (field_tests c.header (length c.bytes))) _ none in
    let rows = none-append (all_among (views.section_findings c) 0 c.header.section_count) (all_met (views.loader_tests c)) parts.1 in
    let short = (nat_lt (length c.bytes) (names_from c.header), TooShort) ∷ [] in
    let counted = (nat_lt c.header.section_count c.header.instantiated_section_count, BadSectionCounts) ∷ short in
    let versions = (not (c.header.format_version == version_1), BadFormatVersion) ∷ counted in
    let architecture = unbroken (not (c.header.architecture == pwpc)) BadArchitecture (all_met versions) parts.0 in
    let version = unbroken (not (c.header.format_version == version_1)) BadFormatVersion (all_met counted) architecture.1 in
    let counts = unbroken (nat_lt c.header.section_count c.header.instantiated_section_count) BadSectionCounts (all_met short) version.1 in
    let names = ltb-false (length c.bytes) (names_from c.header) (unbroken (nat_lt (length c.bytes) (names_from c.header)) TooShort [] counts.1).0 in
    let sections = greatest-low (λ i. section_end (views.header_in c i)) 0 c.header.section_count (length c.bytes)
    (λ k low high. row-low c k (none-among (views.section_findings c) 0 c.header.section_count k rows.0 low high)) in
    omega (arith, names, sections)

-- a container of which no error is found has none of its own
none-viewed : (fs : List ViewFault) → AreNotes (map view_finding fs) → fs ≡ []
none-viewed [] none = refl
none-viewed (f ∷ fs) none = absurd (cc none.0)

enough : (limits : Limits) (bytes : List ℕ) → AreNotes (errors_within limits bytes) → needed_of (views.partial_of bytes) ≤ length bytes
unfolding errors_within
enough limits bytes none = by (views.partial_of bytes) refl none
  where
    by : (r : Result Contained ViewFault) → views.partial_of bytes ≡ r → AreNotes (opened_errors limits r) → needed_of r ≤ length bytes
    by (Ok c) opens none =
        let low = needs-low c (none-viewed (views.findings_in c) (all-front (λ f. is_error f ≡ false) (map view_finding (views.findings_in c)) (behind_errors limits c) none)) in
        let same = ap length (opened-bytes bytes c opens) in
        omega (arith, low, same)
    by (Err fault) opens none = absurd (cc none.0)

-- what is found without errors, in the order in which it was found
found-notes : (limits : Limits) (base : ℕ) (bytes : List ℕ) (i : Inspected) → InspectsWithin limits base bytes i → AreNotes i.findings → AreNotes (errors_within limits bytes)
found-notes limits base bytes i is none =
    let all = permuted (λ f. is_error f ≡ false) i.findings is.all (IsPermutation-sym is.all i.findings is.in_order.permutation) none in
    let same = subst (λ (found : List Finding). AreNotes found) is.all_are.are all in
    all-front (λ f. is_error f ≡ false) (errors_within limits bytes) (notes_within limits bytes is.all_are.irregular ++ is.all_are.more) same

-- the states, by their tests
state-quiet : (a : ℕ) (fs : List Finding) → AreNotes fs → state_of a false fs ≡ state.Whole
state-quiet a fs none = rw (none-three fs none, undamaged group.Any true fs none) refl

error-not-whole : (a : ℕ) (fs : List Finding) → error_state a fs ≢ state.Whole
error-not-whole a fs is = by (is_stub fs) (is_m68k a fs) is
  where
    by : (s m : Bool) → cond s state.Stub (cond m state.M68k state.Damaged) ≢ state.Whole
    by true m is = absurd (cc is)
    by false true is = absurd (cc is)
    by false false is = absurd (cc is)

-- a container of any other state than cut and unlikely isn't cut
settled : (a : ℕ) (cut : Bool) (fs : List Finding) (s : State) → s ≢ state.Unlikely → s ≢ state.Cut → state_of a cut fs ≡ s → (cut ≡ false) × (sound_state a fs ≡ s)
settled a cut fs s unlikely is_cut is = by (is_unlikely a fs) cut is
  where
    by : (u c : Bool) → cond u state.Unlikely (cond c state.Cut (sound_state a fs)) ≡ s → (c ≡ false) × (sound_state a fs ≡ s)
    by true c is = absurd (unlikely (sym is))
    by false true is = absurd (is_cut (sym is))
    by false false is = (refl, is)

whole-quiet : (a : ℕ) (fs : List Finding) → sound_state a fs ≡ state.Whole → AreNotes fs
whole-quiet a fs is = sound-each fs (by (is_damaged group.Any true fs) is)
  where
    by : (d : Bool) → cond d (error_state a fs) state.Whole ≡ state.Whole → d ≡ false
    by true is = absurd (error-not-whole a fs is)
    by false is = refl

-- another state has an error
has-error : (a : ℕ) (fs : List Finding) (s : State) → s ≢ state.Whole → sound_state a fs ≡ s → (count_chosen true fs ≢ 0) × (error_state a fs ≡ s)
has-error a fs s other is = by (is_damaged group.Any true fs) refl is
  where
    by : (d : Bool) → is_damaged group.Any true fs ≡ d → cond d (error_state a fs) state.Whole ≡ s → (count_chosen true fs ≢ 0) × (error_state a fs ≡ s)
    by true damaged is = (λ none. (let no = sym damaged ∙ undamaged group.Any true fs (none-counted fs none) in absurd (cc no)), is)
    by false sound is = absurd (other (sym is))

-- each error has one of two numbers
only-each : (one two : ℕ) (fs : List Finding) → has_other one two fs ≡ false → HasOnly one two fs
only-each one two [] none = tt
only-each one two (f ∷ fs) none = by (is_error f) (finding_number f == one) (finding_number f == two) refl refl refl none (only-each one two fs)
  where
    by : (e a b : Bool) → is_error f ≡ e → (finding_number f == one) ≡ a → (finding_number f == two) ≡ b → ((e && not (a || b)) || has_other one two fs) ≡ false → (has_other one two fs ≡ false → HasOnly one two fs) → HasOnly one two (f ∷ fs)
    by false a b is is_one is_two none later = ((λ error. (let no = sym is ∙ error in absurd (cc no))), later none)
    by true true b is is_one is_two none later = ((λ error. inl (eqb-true (finding_number f) one is_one)), later none)
    by true false true is is_one is_two none later = ((λ error. inr (eqb-true (finding_number f) two is_two)), later none)
    by true false false is is_one is_two none later = absurd (cc none)

error-stub : (a : ℕ) (fs : List Finding) → error_state a fs ≡ state.Stub → has_other 7 10 fs ≡ false
error-stub a fs is = by (has_number 116 fs) (has_other 7 10 fs) (is_m68k a fs) is
  where
    by : (n o m : Bool) → cond (n && not o) state.Stub (cond m state.M68k state.Damaged) ≡ state.Stub → o ≡ false
    by true false m is = refl
    by true true true is = absurd (cc is)
    by true true false is = absurd (cc is)
    by false o true is = absurd (cc is)
    by false o false is = absurd (cc is)

error-m68k : (a : ℕ) (fs : List Finding) → error_state a fs ≡ state.M68k → has_other 3 3 fs ≡ false
error-m68k a fs is = by (is_stub fs) (a == 0x6D36_386B) (has_other 3 3 fs) is
  where
    by : (s k o : Bool) → cond s state.Stub (cond (k && not o) state.M68k state.Damaged) ≡ state.M68k → o ≡ false
    by true k o is = absurd (cc is)
    by false true false is = refl
    by false true true is = absurd (cc is)
    by false false o is = absurd (cc is)

module _ (i : Inspected) where
  abbrev needs : ℕ
  needs = needed_of (views.partial_of i.bytes)

  abbrev architecture : ℕ
  architecture = architecture_of (views.partial_of i.bytes)

  state-is : (verdict_on i).state ≡ state_of architecture (nat_lt (length i.bytes) needs) i.findings
  unfolding verdict_of
  state-is = refl

  -- without errors
  quiet-whole : needs ≤ length i.bytes → AreNotes i.findings → IsWholeVerdict (verdict_on i)
  unfolding verdict_of
  quiet-whole enough none = record {
    state = rw (le-ltb (length i.bytes) needs enough) (state-quiet architecture i.findings none);
    enough = enough;
    sections = undamaged group.Sections (has_number 116 i.findings) i.findings none;
    imports = undamaged group.Imports (has_number 116 i.findings) i.findings none;
    exports = undamaged group.Exports (has_number 116 i.findings) i.findings none;
    relocations = undamaged group.Relocations (has_number 116 i.findings) i.findings none;
  }

  -- in a state but unlikely and cut
  settled-in : (s : State) → s ≢ state.Unlikely → s ≢ state.Cut → (verdict_on i).state ≡ s → ((verdict_on i).needs ≤ (verdict_on i).has) × (sound_state architecture i.findings ≡ s)
  unfolding verdict_of
  settled-in s unlikely is_cut is =
      let parts = settled architecture (nat_lt (length i.bytes) needs) i.findings s unlikely is_cut is in
      (ltb-false (length i.bytes) needs parts.0, parts.1)

  cut-is : (verdict_on i).state ≡ state.Cut → ((verdict_on i).has < (verdict_on i).needs) × ((verdict_on i).state ≢ state.Unlikely)
  unfolding verdict_of
  cut-is is = (ltb-true (length i.bytes) needs (by (is_unlikely architecture i.findings) (nat_lt (length i.bytes) needs) is), λ other. (let no = sym is ∙ other in absurd (cc no)))
    where
      never : (d s m : Bool) → cond d (cond s state.Stub (cond m state.M68k state.Damaged)) state.Whole ≢ state.Cut
      never true true m is = absurd (cc is)
      never true false true is = absurd (cc is)
      never true false false is = absurd (cc is)
      never false s m is = absurd (cc is)

      by : (u c : Bool) → cond u state.Unlikely (cond c state.Cut (sound_state architecture i.findings)) ≡ state.Cut → c ≡ true
      by true c is = absurd (cc is)
      by false true is = refl
      by false false is = absurd (never (is_damaged group.Any true i.findings) (is_stub i.findings) (is_m68k architecture i.findings) is)

  is-cut : (verdict_on i).has < (verdict_on i).needs → (verdict_on i).state ≢ state.Unlikely → (verdict_on i).state ≡ state.Cut
  unfolding verdict_of
  is-cut short other = by (is_unlikely architecture i.findings) (nat_lt (length i.bytes) needs) (lt-ltb (length i.bytes) needs short) other
    where
      by : (u c : Bool) → c ≡ true → cond u state.Unlikely (cond c state.Cut (sound_state architecture i.findings)) ≢ state.Unlikely → cond u state.Unlikely (cond c state.Cut (sound_state architecture i.findings)) ≡ state.Cut
      by true c is other = absurd (other refl)
      by false true is other = refl
      by false false is other = absurd (cc is)

whole-notes : (i : Inspected) → (verdict_on i).state ≡ state.Whole → AreNotes i.findings
whole-notes i is = whole-quiet (architecture i) i.findings (settled-in i state.Whole (λ no. absurd (cc no)) (λ no. absurd (cc no)) is).1

whole-parts : (limits : Limits) (base : ℕ) (bytes : List ℕ) (i : Inspected) → InspectsWithin limits base bytes i → AreNotes i.findings → IsWholeVerdict (verdict_on i)
whole-parts limits base bytes i is none =
    let low = enough limits bytes (found-notes limits base bytes i is none) in
    quiet-whole i (subst (λ (b : List ℕ). needed_of (views.partial_of b) ≤ length b) (sym is.bytes_are) low) none

stub-is : (i : Inspected) → (verdict_on i).state ≡ state.Stub → HasOnly 7 10 i.findings × ((verdict_on i).needs ≤ (verdict_on i).has) × (count_chosen true i.findings ≢ 0)
stub-is i is =
    let at = settled-in i state.Stub (λ no. absurd (cc no)) (λ no. absurd (cc no)) is in
    let error = has-error (architecture i) i.findings state.Stub (λ no. absurd (cc no)) at.1 in
    (only-each 7 10 i.findings (error-stub (architecture i) i.findings error.1), at.0, error.0)

m68k-is : (i : Inspected) → (verdict_on i).state ≡ state.M68k → HasOnly 3 3 i.findings × ((verdict_on i).needs ≤ (verdict_on i).has) × (count_chosen true i.findings ≢ 0)
m68k-is i is =
    let at = settled-in i state.M68k (λ no. absurd (cc no)) (λ no. absurd (cc no)) is in
    let error = has-error (architecture i) i.findings state.M68k (λ no. absurd (cc no)) at.1 in
    (only-each 3 3 i.findings (error-m68k (architecture i) i.findings error.1), at.0, error.0)

damaged-is : (i : Inspected) → (verdict_on i).state ≡ state.Damaged → ((verdict_on i).needs ≤ (verdict_on i).has) × (count_chosen true i.findings ≢ 0)
damaged-is i is =
    let at = settled-in i state.Damaged (λ no. absurd (cc no)) (λ no. absurd (cc no)) is in
    (at.0, (has-error (architecture i) i.findings state.Damaged (λ no. absurd (cc no)) at.1).0)

pub verdicts_are_right : VerdictsAreRight
verdicts_are_right = record {
  whole = λ limits base bytes i is. (
    λ whole. counted-none i.findings (whole-notes i whole),
    λ none. (whole-parts limits base bytes i is (none-counted i.findings none)).state,
  );
  parts = λ limits base bytes i is whole. whole-parts limits base bytes i is (whole-notes i whole);
  sound = λ limits base bytes i is sound. whole-parts limits base bytes i is (none-counted i.findings (judges_right.none limits base bytes i is sound));
  cut = λ i. (cut-is i, λ short. is-cut i short.0 short.1);
  stub = stub-is;
  m68k = m68k-is;
  damaged = damaged-is;
}
