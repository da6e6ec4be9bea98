-- Each broken rule has its error among all errors.
use Rattle.std.proofs.Common.{◌≡◌, ◌∙◌, ℕ, zero, suc, ◌+◌, ◌-◌, ◌<◌, ◌≤◌, Bool, true, false, cond, List, [], ◌∷◌, ◌++◌, map, length, Option, None, Some, Ok, Err, Result, Contains, inl, inr, refl, sym, ap, subst, arith}
use Rattle.std.specs.Prelude.{nat_lt, nat_le, not}
use Rattle.std.specs.Option.{is_none, option_and_then, option_map_or, option_to_list}
use Rattle.std.proofs.lemmas.Bool.{le-leb, le-ltb, lt-ltb, ltb-true}
use Rattle.std.proofs.lemmas.Bool.Decides.{eqb_tells}
use Rattle.std.proofs.lemmas.List.Elements.{Contains-append_left, Contains-append_right}
use Rattle.pef_words.specs.Findings.{all_among, all_met}
use Rattle.pef_views.specs.Container.{Contained, loader_of}
use Rattle.pef_views.specs.Header.{field_tests}
use Rattle.pef_views.specs.Partial as views
use Rattle.pef_views.specs.Section.{raw_of}
use Rattle.pef_views.specs.declared.fault.ViewFault.{ViewFault}
use Rattle.pef_views.specs.declared.fault.ViewFault.TheVariants.{NoLoader}
use Rattle.pef_loader.specs.Export.{has_exports}
use Rattle.pef_loader.specs.Header.{imports_from, relocs_from, tables_end}
use Rattle.pef_loader.specs.Loader.{Loaded, entry_tests}
use Rattle.pef_loader.specs.Partial as loader
use Rattle.pef_loader.specs.declared.fault.LoaderFault.{LoaderFault}
use Rattle.pef_loader.specs.declared.fault.LoaderFault.TheVariants.{BadExportTable, BadTableOffset}
use Rattle.pef_reloc.specs.declared.fault.RelocFault.{RelocFault}
use Rattle.pef_inspect.specs.Errors.{behind_errors, errors_in, errors_within, headers_of, image_cost, image_error, image_errors, images_unverified, loader_errors, packed_at, program_at, program_cost, program_error, program_errors, programs_reached, programs_unverified, run_at, run_cost, run_error, run_errors, tables_errors}
use Rattle.pef_inspect.specs.Findings.{image_finding, loader_finding, program_finding, view_finding}
use Rattle.pef_inspect.specs.Limits.{checked_within, rest_of, total, within}
use Rattle.pef_inspect.specs.declared.finding.Finding.{Finding}
use Rattle.pef_inspect.specs.declared.limits.Limits.{Limits}
use Rattle.pef_inspect.specs.Complete.{Breaks, FindsEach, HasContainerErrors, HasImageErrors, HasLoaderErrors, HasProgram, IsBadRow, IsRefused, IsUnreadable}

has-first : {X : Type 0} (x : X) (xs : List X) → Contains (x ∷ xs) x
has-first x xs = (0, omega arith, refl)

has-later : {X : Type 0} (y x : X) (xs : List X) → Contains xs x → Contains (y ∷ xs) x
has-later y x xs (k, under, is) = (suc k, omega (arith, under), is)

-- a list that is made of another one
has-map : {A B : Type 0} (f : A → B) (xs : List A) (x : A) → Contains xs x → Contains (map f xs) (f x)
has-map f [] x (k, under, is) = absurd (omega (arith, under))
has-map f (y ∷ xs) x (zero, under, is) = (let same : y ≡ x = is in subst (λ z. Contains (map f (y ∷ xs)) (f z)) same (has-first (f y) (map f xs)))
has-map f (y ∷ xs) x (suc k, under, is) = has-later (f y) (f x) (map f xs) (has-map f xs x (k, omega (arith, under), is))

-- the error of a rule that is broken
has-met : {F : Type 0} (tests : List (Bool × F)) (x : F) → Breaks tests x → Contains (all_met tests) x
has-met [] x (k, under, is) = absurd (omega (arith, under))
has-met {F} (test ∷ tests) x (zero, under, is) =
    let same : test ≡ (true, x) = is in
    subst (λ (t : Bool × F). Contains (all_met (t ∷ tests)) x) (sym same) (has-first x (all_met tests))
has-met (test ∷ tests) x (suc k, under, is) = by test.0 (has-met tests x (k, omega (arith, under), is))
  where
    by : (b : Bool) → Contains (all_met tests) x → Contains (cond b (test.1 ∷ all_met tests) (all_met tests)) x
    by true later = has-later test.1 x (all_met tests) later
    by false later = later

-- the answers at one of n places
has-among : {F : Type 0} (answers : ℕ → List F) (from n k : ℕ) (x : F) → from ≤ k → k < from + n → Contains (answers k) x → Contains (all_among answers from n) x
has-among answers from zero k x low high there = absurd (omega (arith, low, high))
has-among {F} answers from (suc n) k x low high there = elim (eqb_tells from k) [
  | inl same ↦ Contains-append_left (answers from) (all_among answers (from + 1) n) x (subst (λ j. Contains (answers j) x) (sym same.1) there)
  | inr other ↦ (let apart = other.1 in Contains-append_right (answers from) (all_among answers (from + 1) n) x (has-among answers (from + 1) n k x (omega (arith, low, apart)) (omega (arith, high)) there))
]

-- a part is within a limit if it and those before it cost no more
reaches : (cost : ℕ → ℕ) (left from n k : ℕ) → k < n → total cost from (suc k) ≤ left → k < within cost left from n
reaches cost left from zero k under fits = absurd (omega (arith, under))
reaches cost left from (suc n) zero under fits = (let cheap : cost from ≤ left = omega (arith, fits) in rw (le-ltb left (cost from) cheap) (omega arith))
reaches cost left from (suc n) (suc k) under fits =
    let cheap : cost from ≤ left = omega (arith, fits) in
    let later = reaches cost (left - cost from) (from + 1) n k (omega (arith, under)) (omega (arith, fits, cheap)) in
    rw (le-ltb left (cost from) cheap) (omega (arith, later))

-- the error of a part within a limit
has-checked : (cost : ℕ → ℕ) (error : ℕ → Option Finding) (unchecked : ℕ → Finding) (most count k : ℕ) (x : Finding) → k < within cost most 0 count → error k ≡ Some x
    → Contains (checked_within cost error unchecked most count) x
unfolding checked_within
has-checked cost error unchecked most count k x under is =
    let reached = within cost most 0 count in
    let here : Contains (option_to_list (error k)) x = subst (λ (o : Option Finding). Contains (option_to_list o) x) (sym is) (has-first x []) in
    Contains-append_left (all_among (λ i. option_to_list (error i)) 0 reached) (rest_of unchecked reached count) x
    (has-among (λ i. option_to_list (error i)) 0 reached k x (omega arith) (omega (arith, under)) here)

-- the findings of a row that is there
has-row : {F : Type 0} (o : Option (List (Bool × F))) (tests : List (Bool × F)) (x : F) → o ≡ Some tests → Breaks tests x → Contains (option_map_or all_met o []) x
has-row {F} o tests x is broken = subst (λ (p : Option (List (Bool × F))). Contains (option_map_or all_met p []) x) (sym is) (has-met tests x broken)

-- those of a table that is whole
has-whole : {F : Type 0} (b : Bool) (xs : List F) (x : F) → b ≡ true → Contains xs x → Contains (loader.if_whole b xs) x
has-whole {F} b xs x whole there = subst (λ c. Contains (loader.if_whole c xs) x) (sym whole) there

-- the one rule of a table
one-met : {F : Type 0} (b : Bool) (x : F) → b ≡ true → Breaks ((b, x) ∷ []) x
one-met b x is = (0, omega arith, rw is refl)

-- something that is read of a number below a count only
below : {A : Type 0} (k count : ℕ) (o : Option A) (x : A) → cond (nat_lt k count) o None ≡ Some x → k < count
below k count o x is = by (nat_lt k count) refl is
  where
    by : (b : Bool) → nat_lt k count ≡ b → cond b o None ≡ Some x → k < count
    by true under is = ltb-true k count under
    by false over is = absurd (cc is)

module _ (limits : Limits) (bytes : List ℕ) (c : Contained) (opens : views.partial_of bytes ≡ Ok c) where
  found-is : errors_within limits bytes ≡ errors_in limits c
  unfolding errors_within
  found-is = rw opens refl

  -- among the errors of the container itself
  has-view : (fault : ViewFault) → Contains (views.findings_in c) fault → Contains (errors_within limits bytes) (view_finding fault)
  has-view fault there =
      subst (λ (found : List Finding). Contains found (view_finding fault)) (sym found-is)
      (Contains-append_left (map view_finding (views.findings_in c)) (behind_errors limits c) (view_finding fault) (has-map view_finding (views.findings_in c) fault there))

  -- among those that follow
  has-behind : (x : Finding) → Contains (behind_errors limits c) x → Contains (errors_within limits bytes) x
  has-behind x there = subst (λ (found : List Finding). Contains found x) (sym found-is) (Contains-append_right (map view_finding (views.findings_in c)) (behind_errors limits c) x there)

  abbrev fields : List ViewFault
  fields = all_met (field_tests c.header (length c.bytes))

  abbrev sections : List ViewFault
  sections = all_among (views.section_findings c) 0 c.header.section_count

  abbrev no_loader : List ViewFault
  no_loader = all_met (views.loader_tests c)

  container-errors : HasContainerErrors c (errors_within limits bytes)
  container-errors = record {
    header = λ fault broken. has-view fault (Contains-append_left fields (sections ++ no_loader) fault (has-met (field_tests c.header (length c.bytes)) fault broken));
    sections = λ i fault bad. has-view fault (Contains-append_right fields (sections ++ no_loader) fault (Contains-append_left sections no_loader fault
        (has-among (views.section_findings c) 0 c.header.section_count i fault (omega arith) (let under = bad.below in omega (arith, under)) (has-row (views.tests_of_section c i) bad.tests fault bad.there bad.broken))));
    loader = λ none. has-view NoLoader (Contains-append_right fields (sections ++ no_loader) NoLoader (Contains-append_right sections no_loader NoLoader
        (has-met (views.loader_tests c) NoLoader (one-met (is_none (loader_of c.bytes c.header)) NoLoader (rw none refl)))));
  }

  -- the errors of packed data come in each case
  image-errors-in : (x : Finding) → Contains (image_errors limits c) x → Contains (errors_within limits bytes) x
  image-errors-in x there = has-behind x (by (is_none (views.found_loader c.bytes c.header)))
    where
      tables : (r : Result Loaded LoaderFault) → Contains (tables_errors limits c r) x
      tables (Ok l) =
          let rest = image_errors limits c ++ run_errors limits c l in
          Contains-append_right (map (loader_finding c) (loader.findings_in l)) (program_errors limits c l ++ rest) x
          (Contains-append_right (program_errors limits c l) rest x (Contains-append_left (image_errors limits c) (run_errors limits c l) x there))
      tables (Err f) = has-later (loader_finding c f) x (image_errors limits c) there

      by : (b : Bool) → Contains (cond b (image_errors limits c) (tables_errors limits c (loader.partial_of (views.sections_allowed c) c.loader))) x
      by true = there
      by false = tables (loader.partial_of (views.sections_allowed c) c.loader)

  images : HasImageErrors limits c (errors_within limits bytes)
  images i fault bad =
      let s = bad.section in
      let is : packed_at c i ≡ Some s = rw (bad.there, bad.packed, le-leb s.packed_size (length (raw_of c.bytes s)) bad.whole) refl in
      let error : image_error c i ≡ Some (image_finding c i fault) = rw (is, bad.refused) refl in
      image-errors-in (image_finding c i fault)
      (has-checked (image_cost c) (image_error c) (images_unverified c) limits.packed_bytes c.header.instantiated_section_count i (image_finding c i fault)
      (reaches (image_cost c) limits.packed_bytes 0 c.header.instantiated_section_count i bad.below bad.fits) error)

  -- with a loader section
  module _ (raw : List ℕ) (there : views.found_loader c.bytes c.header ≡ Some raw) where
    behind-is : behind_errors limits c ≡ tables_errors limits c (loader.partial_of (views.sections_allowed c) c.loader)
    behind-is = rw there refl

    no-header : (fault : LoaderFault) → loader.partial_of (views.sections_allowed c) c.loader ≡ Err fault → Contains (errors_within limits bytes) (loader_finding c fault)
    no-header fault none =
        let is : behind_errors limits c ≡ loader_finding c fault ∷ image_errors limits c = behind-is ∙ ap (tables_errors limits c) none in
        has-behind (loader_finding c fault) (subst (λ (found : List Finding). Contains found (loader_finding c fault)) (sym is) (has-first (loader_finding c fault) (image_errors limits c)))

    -- .. that has a header
    module _ (l : Loaded) (loaded : loader.partial_of (views.sections_allowed c) c.loader ≡ Ok l) where
      has-loader : (x : Finding) → Contains (loader_errors limits c l) x → Contains (errors_within limits bytes) x
      has-loader x found =
          let is : behind_errors limits c ≡ loader_errors limits c l = behind-is ∙ ap (tables_errors limits c) loaded in
          has-behind x (subst (λ (xs : List Finding). Contains xs x) (sym is) found)

      has-row-of : (fault : LoaderFault) → Contains (loader.findings_in l) fault → Contains (errors_within limits bytes) (loader_finding c fault)
      has-row-of fault found = has-loader (loader_finding c fault)
          (Contains-append_left (map (loader_finding c) (loader.findings_in l)) (program_errors limits c l ++ (image_errors limits c ++ run_errors limits c l)) (loader_finding c fault)
          (has-map (loader_finding c) (loader.findings_in l) fault found))

      -- the parts of what is found in a loader section
      abbrev from_exports : List LoaderFault
      from_exports = all_met (loader.export_table_tests l) ++ loader.exports_findings l

      abbrev from_relocations : List LoaderFault
      from_relocations = loader.relocations_findings l ++ from_exports

      abbrev from_entries : List LoaderFault
      from_entries = all_met (entry_tests l.sections l.header) ++ from_relocations

      abbrev from_imports : List LoaderFault
      from_imports = loader.imports_findings l ++ from_entries

      abbrev from_libraries : List LoaderFault
      from_libraries = loader.libraries_findings l ++ from_imports

      after-tables : (fault : LoaderFault) → Contains from_libraries fault → Contains (errors_within limits bytes) (loader_finding c fault)
      after-tables fault found = has-row-of fault (Contains-append_right (all_met (loader.table_tests l)) from_libraries fault found)

      after-libraries : (fault : LoaderFault) → Contains from_imports fault → Contains (errors_within limits bytes) (loader_finding c fault)
      after-libraries fault found = after-tables fault (Contains-append_right (loader.libraries_findings l) from_imports fault found)

      after-imports : (fault : LoaderFault) → Contains from_entries fault → Contains (errors_within limits bytes) (loader_finding c fault)
      after-imports fault found = after-libraries fault (Contains-append_right (loader.imports_findings l) from_entries fault found)

      after-entries : (fault : LoaderFault) → Contains from_relocations fault → Contains (errors_within limits bytes) (loader_finding c fault)
      after-entries fault found = after-imports fault (Contains-append_right (all_met (entry_tests l.sections l.header)) from_relocations fault found)

      after-relocations : (fault : LoaderFault) → Contains from_exports fault → Contains (errors_within limits bytes) (loader_finding c fault)
      after-relocations fault found = after-entries fault (Contains-append_right (loader.relocations_findings l) from_exports fault found)

      -- the error of a row of a table that is whole
      has-table : (rows : ℕ → Option (List (Bool × LoaderFault))) (whole : Bool) (count i : ℕ) (fault : LoaderFault) → whole ≡ true → IsBadRow count rows i fault
          → Contains (loader.if_whole whole (all_among (λ k. option_map_or all_met (rows k) []) 0 count)) fault
      has-table rows whole count i fault is bad =
          has-whole whole (all_among (λ k. option_map_or all_met (rows k) []) 0 count) fault is
          (has-among (λ k. option_map_or all_met (rows k) []) 0 count i fault (omega arith) (let under = bad.below in omega (arith, under)) (has-row (rows i) bad.tests fault bad.there bad.broken))

      loader-errors : HasLoaderErrors c l (errors_within limits bytes)
      loader-errors = record {
        tables = λ short. has-row-of BadTableOffset (Contains-append_left (all_met (loader.table_tests l)) from_libraries BadTableOffset
            (has-met (loader.table_tests l) BadTableOffset (one-met (nat_lt (length l.bytes) (tables_end l.header)) BadTableOffset (lt-ltb (length l.bytes) (tables_end l.header) short))));
        libraries = λ i fault whole bad. after-tables fault (Contains-append_left (loader.libraries_findings l) from_imports fault
            (has-table (loader.tests_of_library l) (nat_le (imports_from l.header) (length l.bytes)) l.header.library_count i fault whole bad));
        imports = λ i fault whole bad. after-libraries fault (Contains-append_left (loader.imports_findings l) from_entries fault
            (has-table (loader.tests_of_import l) (nat_le (relocs_from l.header) (length l.bytes)) l.header.import_count i fault whole bad));
        entries = λ fault broken. after-imports fault (Contains-append_left (all_met (entry_tests l.sections l.header)) from_relocations fault (has-met (entry_tests l.sections l.header) fault broken));
        relocations = λ i fault whole bad. after-entries fault (Contains-append_left (loader.relocations_findings l) from_exports fault
            (has-table (loader.tests_of_relocation l) (nat_le (tables_end l.header) (length l.bytes)) l.header.reloc_count i fault whole bad));
        export_table = λ none. after-relocations BadExportTable (Contains-append_left (all_met (loader.export_table_tests l)) (loader.exports_findings l) BadExportTable
            (has-met (loader.export_table_tests l) BadExportTable (one-met (not (has_exports l.bytes l.header)) BadExportTable (rw none refl))));
        exports = λ i fault whole bad. after-relocations fault (Contains-append_right (all_met (loader.export_table_tests l)) (loader.exports_findings l) fault
            (has-table (loader.tests_of_export l) (has_exports l.bytes l.header) l.header.export_count i fault whole bad));
      }

      abbrev rest : List Finding
      rest = image_errors limits c ++ run_errors limits c l

      headers-whole : tables_end l.header ≤ length l.bytes → headers_of l ≡ l.header.reloc_count
      headers-whole whole = rw (le-leb (tables_end l.header) (length l.bytes) whole) refl

      -- a relocation header that can be read is one of those that there are
      row-below : (k : ℕ) (row : loader.RelocationRow) → loader.relocation_row l k ≡ Some row → k < l.header.reloc_count
      row-below k row is = below k l.header.reloc_count _ row is

      reached-program : (k : ℕ) → tables_end l.header ≤ length l.bytes → HasProgram limits l k → k < programs_reached limits l
      reached-program k whole has =
          let under = row-below k has.row has.is in
          let all = headers-whole whole in
          reaches (program_cost l) limits.program_bytes 0 (headers_of l) k (omega (arith, under, all)) has.fits

      unreadable : (k : ℕ) (fault : RelocFault) → tables_end l.header ≤ length l.bytes → IsUnreadable limits l k fault → Contains (errors_within limits bytes) (program_finding c k fault)
      unreadable k fault whole bad =
          let has = bad.program in
          let program : program_at l k ≡ Some has.bytes = ap (option_and_then (λ (r : loader.RelocationRow). r.program)) has.is ∙ has.there in
          let error : program_error c l k ≡ Some (program_finding c k fault) = rw (program, bad.refused) refl in
          has-loader (program_finding c k fault)
          (Contains-append_right (map (loader_finding c) (loader.findings_in l)) (program_errors limits c l ++ rest) (program_finding c k fault)
          (Contains-append_left (program_errors limits c l) rest (program_finding c k fault)
          (has-checked (program_cost l) (program_error c l) (programs_unverified c) limits.program_bytes (headers_of l) k (program_finding c k fault) (reached-program k whole has) error)))

      refused : (k : ℕ) (fault : RelocFault) → tables_end l.header ≤ length l.bytes → IsRefused limits c l k fault → Contains (errors_within limits bytes) (program_finding c k fault)
      refused k fault whole bad =
          let has = bad.program in
          let run : run_at c l k ≡ Some (bad.sizes, has.bytes) = rw (has.is, has.there, bad.readable, bad.known) refl in
          let error : run_error c l k ≡ Some (program_finding c k fault) = rw (run, bad.refused) refl in
          has-loader (program_finding c k fault)
          (Contains-append_right (map (loader_finding c) (loader.findings_in l)) (program_errors limits c l ++ rest) (program_finding c k fault)
          (Contains-append_right (program_errors limits c l) rest (program_finding c k fault)
          (Contains-append_right (image_errors limits c) (run_errors limits c l) (program_finding c k fault)
          (has-checked (run_cost c l) (run_error c l) (programs_unverified c) limits.steps (programs_reached limits l) k (program_finding c k fault)
          (reaches (run_cost c l) limits.steps 0 (programs_reached limits l) k (reached-program k whole has) bad.fits) error))))

-- bytes that aren't opened have one error
no-container : (limits : Limits) (bytes : List ℕ) (fault : ViewFault) → views.partial_of bytes ≡ Err fault → Contains (errors_within limits bytes) (view_finding fault)
unfolding errors_within
no-container limits bytes fault none = rw none (has-first (view_finding fault) [])

pub finds_each : FindsEach
finds_each = record {
  no_container = no-container;
  container = container-errors;
  images = images;
  no_loader = λ limits bytes c raw fault opens there none. no-header limits bytes c opens raw there fault none;
  tables = λ limits bytes c raw l opens there loaded. loader-errors limits bytes c opens raw there l loaded;
  programs = λ limits bytes c raw l opens there loaded. record { unreadable = unreadable limits bytes c opens raw there l loaded; refused = refused limits bytes c opens raw there l loaded };
}
