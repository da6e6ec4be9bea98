-- A container without errors is sound, and a sound container has none.
use Rattle.std.proofs.Common.{◌≡◌, ◌∙◌, ℕ, ◌<◌, ◌≤◌, Bool, true, false, cond, List, [], ◌∷◌, map, length, Option, None, Some, inl, inr, refl, sym, ap, subst, arith}
use Rattle.std.specs.Prelude.{Result, Ok, Err, nat_lt, ◌++◌, ◌⊎◌}
use Rattle.std.specs.Result.{result_err}
use Rattle.std.specs.List.{AllByRecursion}
use Rattle.std.specs.Option.{is_none, option_map, option_or, option_to_list}
use Rattle.std.proofs.lemmas.Bool.{ltb-false, le-leb}
use Rattle.pef_words.specs.Findings.{all_among, all_met, first_fault}
use Rattle.pef_words.proofs.Laws.Findings.{none-among, none-append, none-map}
use Rattle.pef_words.proofs.Laws.Lists.{all-append}
use Rattle.std.proofs.lemmas.List.{append-nil}
use Rattle.pef_views.specs.Container.{Contained, any_loader, container_of, loader_of}
use Rattle.pef_views.specs.Partial as views
use Rattle.pef_views.specs.Section.{raw_of}
use Rattle.pef_views.specs.declared.fault.ViewFault.{ViewFault}
use Rattle.pef_views.specs.declared.fault.ViewFault.TheVariants.{NoLoader}
use Rattle.pef_views.proofs.Laws as view_laws
use Rattle.pef_loader.specs.Header.{tables_end}
use Rattle.pef_loader.specs.Loader.{Loaded, loaded_of}
use Rattle.pef_loader.specs.Partial as loader
use Rattle.pef_loader.specs.declared.fault.LoaderFault.{LoaderFault}
use Rattle.pef_loader.specs.declared.fault.LoaderFault.TheVariants.{BadTableOffset}
use Rattle.pef_loader.proofs.Laws as loader_laws
use Rattle.pef_inspect.specs.declared.finding.Finding.{Finding}
use Rattle.pef_inspect.specs.Errors.{behind_errors, errors_in, errors_of, errors_within, headers_of, image_cost, image_error, image_errors, images_unverified, loader_errors, opened_errors, program_cost, program_error, program_errors, programs_reached, programs_unverified, run_cost, run_error, run_errors, tables_errors}
use Rattle.pef_inspect.specs.Findings.{is_error, loader_finding, program_finding, image_finding, view_finding}
use Rattle.pef_inspect.specs.Limits.{checked_within, container_limits, rest_of, within}
use Rattle.pef_inspect.specs.Oddities.{runs_reached}
use Rattle.pef_inspect.specs.declared.limits.Limits.{Limits}
use Rattle.pef_inspect.specs.Sound.{FitPrograms, IsSound, NoFalseAlarm, OnlyImages}
use Rattle.pef_inspect.proofs.Within.{checked-none, rest-none, within-all, within-below}

none-met : {F : Type 0} (test : Bool) (fault : F) → all_met ((test, fault) ∷ []) ≡ [] → test ≡ false
none-met true fault none = absurd (cc none)
none-met false fault none = refl

none-listed : {F : Type 0} (o : Option F) → option_to_list o ≡ [] → o ≡ None
none-listed None none = refl
none-listed (Some x) none = absurd (cc none)

pub none-mapped : {A B : Type 0} (f : A → B) (o : Option A) → option_map f o ≡ None → o ≡ None
none-mapped f None none = refl
none-mapped f (Some x) none = absurd (cc none)

none-rest : (unchecked : ℕ → Finding) (reached count : ℕ) → rest_of unchecked reached count ≡ [] → count ≤ reached
none-rest unchecked reached count none = ltb-false reached count (by (nat_lt reached count) none)
  where
    by : (b : Bool) → cond b (unchecked reached ∷ []) [] ≡ [] → b ≡ false
    by true none = absurd (cc none)
    by false none = refl

-- if parts were checked without an error, and all were, none has one
record AllChecked (cost : ℕ → ℕ) (error : ℕ → Option Finding) (most count : ℕ) : Type 0 where
  pub reached : count ≤ within cost most 0 count
  pub none : (i : ℕ) → i < count → error i ≡ None

all-checked : (cost : ℕ → ℕ) (error : ℕ → Option Finding) (unchecked : ℕ → Finding) (most count : ℕ) → checked_within cost error unchecked most count ≡ [] → AllChecked cost error most count
unfolding checked_within
all-checked cost error unchecked most count none =
    let reached = within cost most 0 count in
    let parts = none-append (all_among (λ i. option_to_list (error i)) 0 reached) (rest_of unchecked reached count) none in
    let all = none-rest unchecked reached count parts.1 in
    record {
      reached = all;
      none = λ i under. none-listed (error i) (none-among (λ i. option_to_list (error i)) 0 reached i parts.0 (omega arith) (omega (arith, all, under)));
    }

first-none : {F : Type 0} (xs : List F) → xs ≡ [] → first_fault xs ≡ None
first-none xs none = rw none refl

pub none-first : {F : Type 0} (xs : List F) → first_fault xs ≡ None → xs ≡ []
none-first [] none = refl
none-first (x ∷ xs) none = absurd (cc none)

-- the container is one
found_none : (bytes : List ℕ) (c : Contained) → views.partial_of bytes ≡ Ok c → views.findings_in c ≡ [] → views.findings_of bytes ≡ []
unfolding views.findings_of
found_none bytes c opens none = rw opens none

container_is : (bytes : List ℕ) (c : Contained) → views.partial_of bytes ≡ Ok c → views.findings_in c ≡ [] → container_of bytes ≡ Ok c
container_is bytes c opens none =
    view_laws.unrefused_container bytes c opens (sym (view_laws.first_is_reported bytes) ∙ first-none (views.findings_of bytes) (found_none bytes c opens none))

loader_is : (sections : ℕ) (bytes : List ℕ) (l : Loaded) → loader.partial_of sections bytes ≡ Ok l → loader.findings_in l ≡ [] → loaded_of sections bytes ≡ Ok l
unfolding loader.findings_of
loader_is sections bytes l opens none =
    let found : loader.findings_of sections bytes ≡ [] = rw opens none in
    loader_laws.unrefused_loader sections bytes l opens (sym (loader_laws.first_is_reported sections bytes) ∙ first-none (loader.findings_of sections bytes) found)

-- the tables after the loader header are there
pub tables_whole : (l : Loaded) → loader.findings_in l ≡ [] → headers_of l ≡ l.header.reloc_count
tables_whole l none =
    let short = none-met (nat_lt (length l.bytes) (tables_end l.header)) BadTableOffset (none-append (all_met (loader.table_tests l)) _ none).0 in
    rw (le-leb (tables_end l.header) (length l.bytes) (ltb-false (length l.bytes) (tables_end l.header) short)) refl

-- a container without errors has a loader section
pub loader_there : (c : Contained) → views.findings_in c ≡ [] → is_none (loader_of c.bytes c.header) ≡ false
loader_there c clean =
    let rows = (none-append _ _ clean).1 in
    none-met (is_none (loader_of c.bytes c.header)) NoLoader (none-append (all_among (views.section_findings c) 0 c.header.section_count) (all_met (views.loader_tests c)) rows).1

-- .. which is the one that can be read of it, and whose rows may name the instantiated sections
pub found_there : (c : Contained) → views.findings_in c ≡ [] → is_none (views.found_loader c.bytes c.header) ≡ false
found_there c clean = by (loader_of c.bytes c.header) (loader_there c clean)
  where
    by : (o : Option (List ℕ)) → is_none o ≡ false → is_none (option_or o (option_map (raw_of c.bytes) (any_loader c.bytes c.header))) ≡ false
    by None there = absurd (cc there)
    by (Some bytes) there = refl

pub allowed_is : (c : Contained) → views.findings_in c ≡ [] → views.sections_allowed c ≡ c.header.instantiated_section_count
allowed_is c clean = view_laws.sections-in-order c (loader_there c clean)

-- the parts of a container without errors, within any limits
module _ (limits : Limits) where
  -- a container whose loader section has a header
  sound-loader : (bytes : List ℕ) (c : Contained) (l : Loaded) → container_of bytes ≡ Ok c → loader.partial_of c.header.instantiated_section_count c.loader ≡ Ok l → loader_errors limits c l ≡ [] → IsSound bytes
  sound-loader bytes c l contained opens none =
      let tables = none-append (map (loader_finding c) (loader.findings_in l)) _ none in
      let clean = none-map (loader_finding c) (loader.findings_in l) tables.0 in
      let programs = none-append (program_errors limits c l) _ tables.1 in
      let images = none-append (image_errors limits c) (run_errors limits c l) programs.1 in
      let read = all-checked (program_cost l) (program_error c l) (programs_unverified c) limits.program_bytes (headers_of l) programs.0 in
      let packed = all-checked (image_cost c) (image_error c) (images_unverified c) limits.packed_bytes c.header.instantiated_section_count images.0 in
      let run = all-checked (run_cost c l) (run_error c l) (programs_unverified c) limits.steps (programs_reached limits l) images.1 in
      let whole = tables_whole l clean in
      record {
        container = c;
        contained = contained;
        loader = l;
        loaded = loader_is c.header.instantiated_section_count c.loader l opens clean;
        images = λ i under. none-mapped _ _ (packed.none i under);
        programs = λ k under. none-mapped _ _ (read.none k (omega (arith, whole, under)));
        runs = λ k under. none-mapped _ _ (run.none k (omega (arith, whole, under, read.reached)));
      }

  sound-tables : (bytes : List ℕ) (c : Contained) (r : Result Loaded LoaderFault) → container_of bytes ≡ Ok c → loader.partial_of c.header.instantiated_section_count c.loader ≡ r → tables_errors limits c r ≡ [] → IsSound bytes
  sound-tables bytes c (Ok l) contained opens none = sound-loader bytes c l contained opens none
  sound-tables bytes c (Err fault) contained opens none = absurd (cc none)

  -- a container with a header
  sound-container : (bytes : List ℕ) (c : Contained) → views.partial_of bytes ≡ Ok c → errors_in limits c ≡ [] → IsSound bytes
  sound-container bytes c opens none =
      let parts = none-append (map view_finding (views.findings_in c)) (behind_errors limits c) none in
      let clean = none-map view_finding (views.findings_in c) parts.0 in
      sound-tables bytes c (loader.partial_of c.header.instantiated_section_count c.loader) (container_is bytes c opens clean) refl (rw (found_there c clean, allowed_is c clean) at parts.1)

-- if no error is found, and nothing is left unverified, the container is sound
pub no_errors_within_sound : (limits : Limits) (bytes : List ℕ) → errors_within limits bytes ≡ [] → IsSound bytes
unfolding errors_within
no_errors_within_sound limits bytes none = by (views.partial_of bytes) refl none
  where
    by : (r : Result Contained ViewFault) → views.partial_of bytes ≡ r → opened_errors limits r ≡ [] → IsSound bytes
    by (Ok c) opens none = sound-container limits bytes c opens none
    by (Err fault) opens none = absurd (cc none)

pub no_errors_sound : (bytes : List ℕ) → errors_of bytes ≡ [] → IsSound bytes
unfolding errors_of
no_errors_sound bytes none = no_errors_within_sound container_limits bytes none

-- what is found in a sound container
module _ (bytes : List ℕ) (s : IsSound bytes) where
  sound-opens : views.partial_of bytes ≡ Ok s.container
  sound-opens = view_laws.whole_container bytes s.container s.contained

  sound-views : views.findings_in s.container ≡ []
  unfolding views.findings_of
  sound-views =
      let opens = sound-opens in
      let found : views.findings_of bytes ≡ views.findings_in s.container = rw opens refl in
      none-first (views.findings_in s.container) (ap first_fault (sym found) ∙ view_laws.first_is_reported bytes ∙ ap result_err s.contained)

  sound-partial : loader.partial_of s.container.header.instantiated_section_count s.container.loader ≡ Ok s.loader
  sound-partial =
      let is = loader_laws.loaded_of-ok s.container.header.instantiated_section_count s.container.loader s.loader s.loaded in
      rw (is.1, is.2) (loader_laws.whole_loader s.loader is.0)

  sound-tables-none : loader.findings_in s.loader ≡ []
  unfolding loader.findings_of
  sound-tables-none =
      let opens = sound-partial in
      let found : loader.findings_of s.container.header.instantiated_section_count s.container.loader ≡ loader.findings_in s.loader = rw opens refl in
      none-first (loader.findings_in s.loader) (ap first_fault (sym found) ∙ loader_laws.first_is_reported s.container.header.instantiated_section_count s.container.loader ∙ ap result_err s.loaded)

-- the note on parts that weren't checked is no error
rest-notes : (unchecked : ℕ → Finding) → ((k : ℕ) → is_error (unchecked k) ≡ false) → (reached count : ℕ) → AllByRecursion (λ f. is_error f ≡ false) (rest_of unchecked reached count)
rest-notes unchecked note reached count = by (nat_lt reached count)
  where
    by : (b : Bool) → AllByRecursion (λ f. is_error f ≡ false) (cond b (unchecked reached ∷ []) [])
    by true = (note reached, tt)
    by false = tt

-- a part of a sound container has no error
none-both : {A B : Type 0} (f : A → B) (o : Option A) → o ≡ None → option_map f o ≡ None
none-both f o none = rw none refl

module _ (limits : Limits) (bytes : List ℕ) (s : IsSound bytes) where
  -- the notes where the verification ended
  abbrev left_programs : List Finding
  left_programs = rest_of (programs_unverified s.container) (programs_reached limits s.loader) (headers_of s.loader)

  abbrev left_images : List Finding
  left_images = rest_of (images_unverified s.container) (within (image_cost s.container) limits.packed_bytes 0 s.container.header.instantiated_section_count) s.container.header.instantiated_section_count

  abbrev left_runs : List Finding
  left_runs = rest_of (programs_unverified s.container) (runs_reached limits s.container s.loader) (programs_reached limits s.loader)

  sound-whole : headers_of s.loader ≡ s.loader.header.reloc_count
  sound-whole = tables_whole s.loader (sound-tables-none bytes s)

  sound-programs : program_errors limits s.container s.loader ≡ left_programs
  sound-programs = checked-none (program_cost s.loader) (program_error s.container s.loader) (programs_unverified s.container) limits.program_bytes (headers_of s.loader)
      (λ k under. none-both (program_finding s.container k) _ (let whole = sound-whole in s.programs k (omega (arith, under, whole))))

  sound-images : image_errors limits s.container ≡ left_images
  sound-images = checked-none (image_cost s.container) (image_error s.container) (images_unverified s.container) limits.packed_bytes s.container.header.instantiated_section_count
      (λ i under. none-both (image_finding s.container i) _ (s.images i under))

  sound-runs : run_errors limits s.container s.loader ≡ left_runs
  sound-runs = checked-none (run_cost s.container s.loader) (run_error s.container s.loader) (programs_unverified s.container) limits.steps (programs_reached limits s.loader)
      (λ k under. none-both (program_finding s.container k) _ (let whole = sound-whole in let few = within-below (program_cost s.loader) limits.program_bytes 0 (headers_of s.loader) in s.runs k (omega (arith, under, whole, few))))

  sound-in-loader : loader_errors limits s.container s.loader ≡ left_programs ++ (left_images ++ left_runs)
  sound-in-loader = rw (sound-tables-none bytes s, sound-programs, sound-images, sound-runs) refl

  sound-behind : behind_errors limits s.container ≡ loader_errors limits s.container s.loader
  sound-behind =
      let clean = sound-views bytes s in
      rw (found_there s.container clean, allowed_is s.container clean, sound-partial bytes s) refl

  -- what is found in a sound container are these notes
  sound-found : errors_within limits bytes ≡ left_programs ++ (left_images ++ left_runs)
  unfolding errors_within
  sound-found =
      let opens = sound-opens bytes s in
      let clean = sound-views bytes s in
      let first : errors_within limits bytes ≡ errors_in limits s.container = rw opens refl in
      let behind : errors_in limits s.container ≡ behind_errors limits s.container = rw clean refl in
      first ∙ behind ∙ sound-behind ∙ sound-in-loader

  sound-notes : AllByRecursion (λ f. is_error f ≡ false) (left_programs ++ (left_images ++ left_runs))
  sound-notes = all-append (λ f. is_error f ≡ false) left_programs (left_images ++ left_runs) (rest-notes (programs_unverified s.container) (λ k. refl) (programs_reached limits s.loader) (headers_of s.loader))
      (all-append (λ f. is_error f ≡ false) left_images left_runs (rest-notes (images_unverified s.container) (λ k. refl) _ s.container.header.instantiated_section_count)
      (rest-notes (programs_unverified s.container) (λ k. refl) (runs_reached limits s.container s.loader) (programs_reached limits s.loader)))

  module _ (fit : FitPrograms limits s.container s.loader) where
    all-programs : programs_reached limits s.loader ≡ headers_of s.loader
    all-programs = (let whole = sound-whole in let fits = fit.bytes in within-all (program_cost s.loader) limits.program_bytes 0 (headers_of s.loader) (rw whole fits))

    all-runs : runs_reached limits s.container s.loader ≡ programs_reached limits s.loader
    all-runs = (let fits = fit.steps in within-all (run_cost s.container s.loader) limits.steps 0 (programs_reached limits s.loader) (rw (all-programs, sound-whole) fits))

    only-images : errors_within limits bytes ≡ left_images
    only-images =
        let programs : left_programs ≡ [] = (let all = all-programs in rest-none (programs_unverified s.container) (programs_reached limits s.loader) (headers_of s.loader) (omega (arith, all))) in
        let runs : left_runs ≡ [] = (let all = all-runs in rest-none (programs_unverified s.container) (runs_reached limits s.container s.loader) (programs_reached limits s.loader) (omega (arith, all))) in
        sound-found ∙ rw (programs, runs) (append-nil left_images)

-- no false alarm
rest-of-few : (unchecked : ℕ → Finding) (reached count : ℕ) → (rest_of unchecked reached count ≡ []) ⊎ ((i : ℕ) × (rest_of unchecked reached count ≡ unchecked i ∷ []))
rest-of-few unchecked reached count = by (nat_lt reached count)
  where
    by : (b : Bool) → (cond b (unchecked reached ∷ []) [] ≡ []) ⊎ ((i : ℕ) × (cond b (unchecked reached ∷ []) [] ≡ unchecked i ∷ []))
    by true = inr (reached, refl)
    by false = inl refl

pub no_false_alarm : NoFalseAlarm
no_false_alarm = record {
  none = λ limits bytes s. subst (λ found. AllByRecursion (λ f. is_error f ≡ false) found) (sym (sound-found limits bytes s)) (sound-notes limits bytes s);
  programs = λ limits bytes s fit. subst (OnlyImages s.container) (sym (only-images limits bytes s fit)) (rest-of-few (images_unverified s.container) _ s.container.header.instantiated_section_count);
  all = λ limits bytes s fit images.
      only-images limits bytes s fit
      ∙ (let all = within-all (image_cost s.container) limits.packed_bytes 0 s.container.header.instantiated_section_count images in
      rest-none (images_unverified s.container) _ s.container.header.instantiated_section_count (omega (arith, all)));
}
