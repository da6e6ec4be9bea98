-- What is found among the errors is an error, or the note that something wasn't verified. What is found among the notes is no
-- error.
use Rattle.std.proofs.Common.{◌≡◌, ℕ, zero, suc, ◌+◌, Bool, true, false, cond, List, [], ◌∷◌, ◌++◌, map, length, Option, None, Some, refl, sym, subst}
use Rattle.std.specs.Prelude.{◌||◌, ◌-◌, ◌*◌, ◌==◌, min, nat_lt, Result, Ok, Err}
use Rattle.std.specs.List.{AllByRecursion}
use Rattle.std.specs.Option.{is_none, option_and_then, option_map, option_map_or, option_to_list}
use Rattle.pef_format.specs.declared.place.Place.{Place}
use Rattle.pef_words.specs.Bytes.{part_of}
use Rattle.pef_words.specs.Findings.{all_among, all_met}
use Rattle.pef_words.proofs.Laws.Lists.{all-append}
use Rattle.pef_format.specs.declared.place.Part.TheVariants as part
use Rattle.pef_views.specs.Container.{Contained}
use Rattle.pef_views.specs.Partial as views
use Rattle.pef_views.specs.declared.fault.ViewFault.{ViewFault}
use Rattle.pef_loader.specs.Header.{library_place, relocs_from}
use Rattle.pef_loader.specs.Loader.{Loaded}
use Rattle.pef_loader.specs.Partial as loader
use Rattle.pef_loader.specs.Partial.{exports_in, rows_in}
use Rattle.pef_loader.specs.Places.{place_of}
use Rattle.pef_loader.specs.declared.fault.LoaderFault.{LoaderFault}
use Rattle.pef_reloc.specs.Unrolled.{program_fault}
use Rattle.pef_reloc.specs.Verified.{verified}
use Rattle.pef_reloc.specs.declared.verifying.Sizes.{Sizes}
use Rattle.pef_inspect.specs.Errors.{behind_errors, errors_in, errors_within, headers_of, image_cost, image_error, image_errors, image_fault, images_unverified, opened_errors, packed_at, program_at, program_cost, program_error, program_errors, programs_reached, programs_unverified, run_at, run_cost, run_error, run_errors, tables_errors}
use Rattle.pef_inspect.specs.Extents.{Extent, extent_notes, gap_note, greatest_end, is_padding, overlap_note, part_note, parts_notes, trailing_note}
use Rattle.pef_inspect.specs.Findings.{image_finding, is_error, is_unverified, loader_finding, note_finding, program_finding, view_finding, whole_place}
use Rattle.pef_inspect.specs.Limits.{checked_within, rest_of, within}
use Rattle.pef_inspect.specs.LoaderParts.{AreGapsOpened, loader_note}
use Rattle.pef_inspect.specs.More.{AreMoreOpened, AreMoreWithin}
use Rattle.pef_inspect.specs.Oddities.{behind_notes, entry_notes, export_row, header_notes, image_size, irregular_note, library_notes, library_row, loader_notes, note_at, notes_in, notes_within, opened_notes, relocation_notes, relocation_row, rows_notes, runs_reached, section_notes, section_row, word_note, word_outside, export_notes}
use Rattle.pef_inspect.specs.Sound.{TellsApart}
use Rattle.pef_inspect.specs.Twice.{first_again, loader_twice, twice_in, twice_note, words_at, words_before, words_cost}
use Rattle.pef_inspect.specs.Zeros.{exports, imports, libraries, relocations, starts_zeros, zero_note, zero_notes, zero_rows, zeros_from}
use Rattle.pef_inspect.specs.declared.finding.Finding.{Finding}
use Rattle.pef_inspect.specs.declared.note.Note.TheVariants.{Overlap, TrailingBytes, UnownedBytes, WordOutsideImage, WordRelocatedTwice, ZeroRows}
use Rattle.pef_inspect.specs.declared.limits.Limits.{Limits}
use Rattle.pef_inspect.specs.declared.zeros.Table.{Table}

-- a property of each finding of some lists
module _ (P : Finding → Type 0) where
  each-met : (tests : List (Bool × Finding)) → AllByRecursion (λ (t : Bool × Finding). P t.1) tests → AllByRecursion P (all_met tests)
  each-met [] each = tt
  each-met (test ∷ tests) each = by test.0 each.0 (each-met tests each.1)
    where
      by : (b : Bool) → P test.1 → AllByRecursion P (all_met tests) → AllByRecursion P (cond b (test.1 ∷ all_met tests) (all_met tests))
      by true here later = (here, later)
      by false here later = later

  each-among : (answers : ℕ → List Finding) (from n : ℕ) → ((k : ℕ) → AllByRecursion P (answers k)) → AllByRecursion P (all_among answers from n)
  each-among answers from zero each = tt
  each-among answers from (suc n) each = all-append P (answers from) (all_among answers (from + 1) n) (each from) (each-among answers (from + 1) n each)

  each-map : {A : Type 0} (f : A → Finding) (xs : List A) → ((x : A) → P (f x)) → AllByRecursion P (map f xs)
  each-map f [] each = tt
  each-map f (x ∷ xs) each = (each x, each-map f xs each)

  each-found : {A : Type 0} (f : A → Finding) (o : Option A) → ((x : A) → P (f x)) → AllByRecursion P (option_to_list (option_map f o))
  each-found f None each = tt
  each-found f (Some x) each = (each x, tt)

  each-then : {A : Type 0} (f : A → Option Finding) (o : Option A) → ((x : A) → AllByRecursion P (option_to_list (f x))) → AllByRecursion P (option_to_list (option_and_then f o))
  each-then f None each = tt
  each-then f (Some x) each = each x

  each-or : {A : Type 0} (f : A → List Finding) (o : Option A) → ((x : A) → AllByRecursion P (f x)) → AllByRecursion P (option_map_or f o [])
  each-or f None each = tt
  each-or f (Some x) each = each x

  each-rest : (unchecked : ℕ → Finding) (reached count : ℕ) → ((k : ℕ) → P (unchecked k)) → AllByRecursion P (rest_of unchecked reached count)
  each-rest unchecked reached count each = by (nat_lt reached count)
    where
      by : (b : Bool) → AllByRecursion P (cond b (unchecked reached ∷ []) [])
      by true = (each reached, tt)
      by false = tt

  each-checked : (cost : ℕ → ℕ) (error : ℕ → Option Finding) (unchecked : ℕ → Finding) (most count : ℕ) → ((k : ℕ) → AllByRecursion P (option_to_list (error k))) → ((k : ℕ) → P (unchecked k)) → AllByRecursion P (checked_within cost error unchecked most count)
  unfolding checked_within
  each-checked cost error unchecked most count errors notes =
      all-append P (all_among (λ i. option_to_list (error i)) 0 (within cost most 0 count)) (rest_of unchecked (within cost most 0 count) count)
      (each-among (λ i. option_to_list (error i)) 0 (within cost most 0 count) errors)
      (each-rest unchecked (within cost most 0 count) count notes)

  each-part : (note : ℕ → Extent → Option Finding) (before extents : List Extent) → ((end : ℕ) (e : Extent) → AllByRecursion P (option_to_list (note end e))) → AllByRecursion P (parts_notes note before extents)
  each-part note before [] each = tt
  each-part note before (e ∷ extents) each = all-append P (option_to_list (note (greatest_end before) e)) (parts_notes note (before ++ e ∷ []) extents) (each (greatest_end before) e) (each-part note (before ++ e ∷ []) extents each)

-- an error, or the note that something wasn't verified
abbrev IsOpen : Finding → Type 0
IsOpen f = is_error f || is_unverified f ≡ true

abbrev AreOpen : List Finding → Type 0
AreOpen found = AllByRecursion IsOpen found

module _ (limits : Limits) (c : Contained) where
  open-programs : (l : Loaded) → AreOpen (program_errors limits c l)
  open-programs l = each-checked IsOpen (program_cost l) (program_error c l) (programs_unverified c) limits.program_bytes (headers_of l)
      (λ k. each-found IsOpen (program_finding c k) (option_and_then program_fault (program_at l k)) (λ f. refl)) (λ k. refl)

  open-images : AreOpen (image_errors limits c)
  open-images = each-checked IsOpen (image_cost c) (image_error c) (images_unverified c) limits.packed_bytes c.header.instantiated_section_count
      (λ i. each-found IsOpen (image_finding c i) (option_and_then (image_fault c) (packed_at c i)) (λ f. refl)) (λ i. refl)

  open-runs : (l : Loaded) → AreOpen (run_errors limits c l)
  open-runs l = each-checked IsOpen (run_cost c l) (run_error c l) (programs_unverified c) limits.steps (programs_reached limits l)
      (λ k. each-found IsOpen (program_finding c k) (option_and_then (λ (r : Sizes × List ℕ). verified r.0 r.1) (run_at c l k)) (λ f. refl)) (λ k. refl)

  open-tables : (r : Result Loaded LoaderFault) → AreOpen (tables_errors limits c r)
  open-tables (Ok l) =
      all-append IsOpen (map (loader_finding c) (loader.findings_in l)) (program_errors limits c l ++ (image_errors limits c ++ run_errors limits c l)) (each-map IsOpen (loader_finding c) (loader.findings_in l) (λ f. refl))
      (all-append IsOpen (program_errors limits c l) (image_errors limits c ++ run_errors limits c l) (open-programs l)
      (all-append IsOpen (image_errors limits c) (run_errors limits c l) open-images (open-runs l)))
  open-tables (Err f) = (refl, open-images)

  open-behind : AreOpen (behind_errors limits c)
  open-behind = by (is_none (views.found_loader c.bytes c.header))
    where
      by : (b : Bool) → AreOpen (cond b (image_errors limits c) (tables_errors limits c (loader.partial_of (views.sections_allowed c) c.loader)))
      by true = open-images
      by false = open-tables (loader.partial_of (views.sections_allowed c) c.loader)

  open-in : AreOpen (errors_in limits c)
  open-in = all-append IsOpen (map view_finding (views.findings_in c)) (behind_errors limits c) (each-map IsOpen view_finding (views.findings_in c) (λ f. refl)) open-behind

errors_open : (limits : Limits) (bytes : List ℕ) → AreOpen (errors_within limits bytes)
unfolding errors_within
errors_open limits bytes = by (views.partial_of bytes)
  where
    by : (r : Result Contained ViewFault) → AreOpen (opened_errors limits r)
    by (Ok c) = open-in limits c
    by (Err f) = (refl, tt)

-- no error
abbrev IsNote : Finding → Type 0
IsNote f = is_error f ≡ false

abbrev AreNotes : List Finding → Type 0
AreNotes found = AllByRecursion IsNote found

module _ (limits : Limits) (c : Contained) where
  note-word : (l : Loaded) (k : ℕ) → AreNotes (option_to_list (word_note c l k))
  note-word l k = each-then IsNote (λ image. option_and_then (λ run. option_map (λ (w : ℕ × ℕ). note_at c (WordOutsideImage w.1) part.Program k w.0) (word_outside image run)) (run_at c l k)) (image_size c l k)
      (λ image. each-then IsNote (λ run. option_map (λ (w : ℕ × ℕ). note_at c (WordOutsideImage w.1) part.Program k w.0) (word_outside image run)) (run_at c l k)
      (λ run. each-found IsNote (λ (w : ℕ × ℕ). note_at c (WordOutsideImage w.1) part.Program k w.0) (word_outside image run) (λ w. refl)))

  note-libraries : (l : Loaded) (n : ℕ) → AreNotes (all_among (library_row c l) 0 n)
  note-libraries l n = each-among IsNote (library_row c l) 0 n (λ i. each-or IsNote (λ v. all_met (library_notes c i v)) (loader.library_fields l i) (λ v. each-met IsNote (library_notes c i v) (refl, (refl, tt))))

  note-relocations : (l : Loaded) (n : ℕ) → AreNotes (all_among (relocation_row c l) 0 n)
  note-relocations l n = each-among IsNote (relocation_row c l) 0 n (λ k. each-or IsNote (λ reserved. all_met (relocation_notes c k reserved)) (loader.relocation_reserved l k) (λ reserved. each-met IsNote (relocation_notes c k reserved) (refl, tt)))

  note-exports : (l : Loaded) (n : ℕ) → AreNotes (all_among (export_row c l) 0 n)
  note-exports l n = each-among IsNote (export_row c l) 0 n (λ i. each-or IsNote (λ r. all_met (export_notes c i r)) (loader.export_row l i) (λ r. each-met IsNote (export_notes c i r) (refl, tt)))

  note-words : (l : Loaded) (n : ℕ) → AreNotes (all_among (λ k. option_to_list (word_note c l k)) 0 n)
  note-words l n = each-among IsNote (λ k. option_to_list (word_note c l k)) 0 n (note-word l)

  note-loader : (l : Loaded) → AreNotes (loader_notes limits c l)
  note-loader l =
      let libraries = rows_in l (library_place 0) 24 l.header.library_count in
      let relocations = rows_in l (relocs_from l.header) 12 l.header.reloc_count in
      let words = all_among (λ k. option_to_list (word_note c l k)) 0 (runs_reached limits c l) in
      let exports = all_among (export_row c l) 0 (exports_in l) ++ words in
      let rows = all_among (relocation_row c l) 0 relocations ++ exports in
      all-append IsNote (all_among (library_row c l) 0 libraries) (all_met (entry_notes c l) ++ rows) (note-libraries l libraries)
      (all-append IsNote (all_met (entry_notes c l)) rows (each-met IsNote (entry_notes c l) (refl, (refl, (refl, tt))))
      (all-append IsNote (all_among (relocation_row c l) 0 relocations) exports (note-relocations l relocations)
      (all-append IsNote (all_among (export_row c l) 0 (exports_in l)) words (note-exports l (exports_in l)) (note-words l (runs_reached limits c l)))))

  note-irregular : (irregular : Bool) → AreNotes (irregular_note c irregular)
  note-irregular true = (refl, tt)
  note-irregular false = tt

  note-zero-rows : (t : Table) → AreNotes (zero_rows c t)
  note-zero-rows t = each-among IsNote (λ i. option_to_list (zero_note c t i)) 0 t.count (λ i. by i (starts_zeros c t i) (nat_lt (zeros_from c t i (t.count - i)) t.least))
    where
      by : (i : ℕ) (b enough : Bool) → AreNotes (option_to_list (cond b (cond enough None (Some (note_finding (ZeroRows (t.size * zeros_from c t i (t.count - i))) (place_of c t.kind i 0)))) None))
      by i true true = tt
      by i true false = (refl, tt)
      by i false enough = tt

  note-zeros : (l : Loaded) → AreNotes (zero_notes c l)
  unfolding zero_notes
  note-zeros l =
      all-append IsNote (zero_rows c (libraries l)) (zero_rows c (imports l) ++ (zero_rows c (relocations l) ++ zero_rows c (exports l))) (note-zero-rows (libraries l))
      (all-append IsNote (zero_rows c (imports l)) (zero_rows c (relocations l) ++ zero_rows c (exports l)) (note-zero-rows (imports l))
      (all-append IsNote (zero_rows c (relocations l)) (zero_rows c (exports l)) (note-zero-rows (relocations l)) (note-zero-rows (exports l))))

  note-behind : (r : Result Loaded LoaderFault) (irregular : Bool) → AreNotes (behind_notes limits c r irregular)
  note-behind (Ok l) irregular = all-append IsNote (rows_notes limits c l) (irregular_note c irregular)
      (all-append IsNote (loader_notes limits c l) (zero_notes c l) (note-loader l) (note-zeros l))
      (note-irregular irregular)
  note-behind (Err f) irregular = tt

  note-in : (irregular : Bool) → AreNotes (notes_in limits c irregular)
  note-in irregular =
      all-append IsNote (all_met (header_notes c)) (all_among (section_row c) 0 c.header.section_count ++ behind_notes limits c (loader.partial_of (views.sections_allowed c) c.loader) irregular) (each-met IsNote (header_notes c) (refl, (refl, (refl, (refl, (refl, tt))))))
      (all-append IsNote (all_among (section_row c) 0 c.header.section_count) (behind_notes limits c (loader.partial_of (views.sections_allowed c) c.loader) irregular) (each-among IsNote (section_row c) 0 c.header.section_count (λ i. each-or IsNote (λ s. all_met (section_notes c i s)) (views.header_in c i) (λ s. each-met IsNote (section_notes c i s) (refl, (refl, (refl, (refl, tt)))))))
      (note-behind (loader.partial_of (views.sections_allowed c) c.loader) irregular))

  note-gap : (bytes : List ℕ) (place : Place) (from to : ℕ) → AreNotes (option_to_list (gap_note bytes place from to))
  unfolding gap_note
  note-gap bytes place from to = by (option_map_or is_padding (part_of bytes from (to - from)) false)
    where
      by : (b : Bool) → AreNotes (option_to_list (cond b None (Some (note_finding (UnownedBytes (to - from)) place))))
      by true = tt
      by false = (refl, tt)

  note-overlap : (which len : ℕ) → AreNotes (option_to_list (overlap_note c which len))
  unfolding overlap_note
  note-overlap which len = by (which == 0 || len == 0)
    where
      by : (b : Bool) → AreNotes (option_to_list (cond b None (Some (note_at c (Overlap len) part.Section (which - 1) 20))))
      by true = tt
      by false = (refl, tt)

  note-part : (end : ℕ) (e : Extent) → AreNotes (option_to_list (part_note c end e))
  note-part end e = by (nat_lt end e.0)
    where
      by : (b : Bool) → AreNotes (option_to_list (cond b (gap_note c.bytes (whole_place end) end e.0) (overlap_note c e.1 (min end e.2 - e.0))))
      by true = note-gap c.bytes (whole_place end) end e.0
      by false = note-overlap e.1 (min end e.2 - e.0)

  note-trailing : (end : ℕ) → AreNotes (option_to_list (trailing_note c end))
  note-trailing end = by (nat_lt end (length c.bytes))
    where
      by : (b : Bool) → AreNotes (option_to_list (cond b (Some (note_finding (TrailingBytes (length c.bytes - end)) (whole_place end))) None))
      by true = (refl, tt)
      by false = tt

  note-extents : (extents : List Extent) → AreNotes (extent_notes c extents)
  note-extents extents = all-append IsNote (parts_notes (part_note c) [] extents) _ (each-part IsNote (part_note c) [] extents note-part) (note-trailing (greatest_end extents))

  note-loader-part : (l : Loaded) (end : ℕ) (e : Extent) → AreNotes (option_to_list (loader_note c l end e))
  note-loader-part l end e = by (nat_lt end e.0)
    where
      by : (b : Bool) → AreNotes (option_to_list (cond b (gap_note l.bytes (place_of c part.LoaderHeader 0 end) end e.0) None))
      by true = note-gap l.bytes (place_of c part.LoaderHeader 0 end) end e.0
      by false = tt

  note-gaps : (r : Result Loaded LoaderFault) (gaps : List Finding) → AreGapsOpened c r gaps → AreNotes gaps
  note-gaps (Ok l) gaps are = subst AreNotes (sym are.notes) (each-part IsNote (loader_note c l) [] are.extents (note-loader-part l))
  note-gaps (Err f) gaps are = subst AreNotes (sym are) tt

  note-twice : (r : Result Loaded LoaderFault) → AreNotes (loader_twice limits c r)
  note-twice (Ok l) = each-checked IsNote (words_cost c l) (twice_note c l) (programs_unverified c) limits.words (runs_reached limits c l)
      (λ k. each-found IsNote (λ (w : ℕ × ℕ). note_at c (WordRelocatedTwice w.1) part.Program k 0) (first_again (words_before c l k) (words_at c l k)) (λ w. refl)) (λ k. refl)
  note-twice (Err f) = tt

  note-twice-in : AreNotes (twice_in limits c)
  unfolding twice_in
  note-twice-in = note-twice (loader.partial_of (views.sections_allowed c) c.loader)

notes_closed : (limits : Limits) (bytes : List ℕ) (irregular : Bool) → AreNotes (notes_within limits bytes irregular)
unfolding notes_within
notes_closed limits bytes irregular = by (views.partial_of bytes)
  where
    by : (r : Result Contained ViewFault) → AreNotes (opened_notes limits r irregular)
    by (Ok c) = note-in limits c irregular
    by (Err f) = tt

more_closed : (limits : Limits) (bytes : List ℕ) (found : List Finding) → AreMoreWithin limits bytes found → AreNotes found
unfolding AreMoreWithin
more_closed limits bytes found are = by (views.partial_of bytes) are
  where
    by : (r : Result Contained ViewFault) → AreMoreOpened limits r found → AreNotes found
    by (Ok c) are = subst AreNotes (sym are.notes)
        (all-append IsNote (extent_notes c are.extents) (are.gaps ++ twice_in limits c) (note-extents limits c are.extents)
        (all-append IsNote are.gaps (twice_in limits c) (note-gaps limits c (loader.partial_of (views.sections_allowed c) c.loader) are.gaps are.are_gaps) (note-twice-in limits c)))
    by (Err f) are = subst AreNotes (sym are) tt

pub tells_apart : TellsApart
tells_apart = record { errors = errors_open; notes = notes_closed; more = more_closed }
