-- The first of all errors is the one that is reported.
use Rattle.std.proofs.Common.{◌≡◌, ◌∙◌, ℕ, zero, suc, ◌+◌, ◌<◌, true, List, [], ◌∷◌, ◌++◌, map, Option, None, Some, inl, inr, refl, sym, ap, subst, arith}
use Rattle.std.specs.Prelude.{◌⊎◌, Result, Ok, Err, nat_lt}
use Rattle.std.specs.Option.{option_and_then, option_map, option_to_list}
use Rattle.std.specs.Result.{result_err}
use Rattle.std.proofs.lemmas.Bool.{lt-ltb}
use Rattle.std.proofs.lemmas.Bool.Decides.{leb_tells}
use Rattle.pef_words.specs.Findings.{all_among, first_fault}
use Rattle.pef_words.specs.Refusals.{◌>>=◌, first_among}
use Rattle.pef_words.proofs.Laws.Findings.{first_fault-among, first_fault-append}
use Rattle.pef_words.proofs.Laws.Refusals.{first_among-at, first_among-none, some_among}
use Rattle.pef_views.specs.Container.{Contained, container_of}
use Rattle.pef_views.specs.Partial as views
use Rattle.pef_views.specs.declared.fault.ViewFault.{ViewFault}
use Rattle.pef_views.proofs.Laws as view_laws
use Rattle.pef_loader.specs.Loader.{Loaded, loaded_of}
use Rattle.pef_loader.specs.Partial as loader
use Rattle.pef_loader.specs.Partial.{RelocationRow}
use Rattle.pef_loader.specs.declared.fault.LoaderFault.{LoaderFault}
use Rattle.pef_loader.proofs.Laws as loader_laws
use Rattle.pef_reloc.specs.Unrolled.{program_fault}
use Rattle.pef_inspect.specs.declared.finding.Finding.{Finding}
use Rattle.pef_inspect.specs.Errors.{behind_errors, errors_in, errors_of, errors_within, headers_of, image_errors, loader_errors, opened_errors, program_at, program_cost, program_error, program_errors, programs_unverified, run_errors, tables_errors}
use Rattle.pef_inspect.specs.Findings.{loader_finding, program_finding, view_finding}
use Rattle.pef_inspect.specs.First.{IsLimit, first_of_container, first_of_loader, first_program, first_reported, program_refused}
use Rattle.pef_inspect.specs.Limits.{checked_within, container_limits, rest_of, within}
use Rattle.pef_inspect.specs.declared.limits.Limits.{Limits}
use Rattle.pef_inspect.proofs.Soundness.{allowed_is, found_there, none-first, none-mapped, tables_whole}
use Rattle.pef_inspect.proofs.Within.{Stops, within-stops}

first-map : {F G : Type 0} (f : F → G) (xs : List F) → first_fault (map f xs) ≡ option_map f (first_fault xs)
first-map f [] = refl
first-map f (x ∷ xs) = refl

first-listed : {F : Type 0} (o : Option F) → first_fault (option_to_list o) ≡ o
first-listed None = refl
first-listed (Some x) = refl

-- the first of some findings, if it is one of the first part
first-here : {F : Type 0} (xs ys : List F) (x : F) → first_fault xs ≡ Some x → first_fault (xs ++ ys) ≡ Some x
first-here xs ys x is = first_fault-append xs ys ∙ rw is refl

-- .. and if that part has none
first-later : {F : Type 0} (xs ys : List F) → first_fault xs ≡ None → first_fault (xs ++ ys) ≡ first_fault ys
first-later xs ys none = first_fault-append xs ys ∙ rw none refl

-- an error is the first, or the note on programs that weren't verified is
abbrev IsFirst : Limits → List ℕ → List Finding → Finding → Type 0
IsFirst limits bytes errors f = (first_fault errors ≡ Some f) ⊎ IsLimit limits bytes (first_fault errors)

limit-here : (limits : Limits) (bytes : List ℕ) (xs ys : List Finding) → IsLimit limits bytes (first_fault xs) → IsLimit limits bytes (first_fault (xs ++ ys))
limit-here limits bytes xs ys limit = record {
  container = limit.container;
  contained = limit.contained;
  loader = limit.loader;
  loaded = limit.loaded;
  header = limit.header;
  there = limit.there;
  readable = limit.readable;
  before = limit.before;
  past = limit.past;
  is = first-here xs ys (programs_unverified limit.container limit.header) limit.is;
}

is-here : (limits : Limits) (bytes : List ℕ) (xs ys : List Finding) (f : Finding) → IsFirst limits bytes xs f → IsFirst limits bytes (xs ++ ys) f
is-here limits bytes xs ys f (inl is) = inl (first-here xs ys f is)
is-here limits bytes xs ys f (inr limit) = inr (limit-here limits bytes xs ys limit)

is-later : (limits : Limits) (bytes : List ℕ) (xs ys : List Finding) (f : Finding) → first_fault xs ≡ None → IsFirst limits bytes ys f → IsFirst limits bytes (xs ++ ys) f
is-later limits bytes xs ys f none first = subst (λ o. (o ≡ Some f) ⊎ IsLimit limits bytes o) (sym (first-later xs ys none)) first

-- the program of a relocation header is the same, however it is read
abbrev with_section : ℕ → List ℕ → ℕ × List ℕ
with_section section program = (section, program)

program-same : (l : Loaded) (k : ℕ) → program_refused l k ≡ option_and_then program_fault (program_at l k)
program-same l k = ap (option_and_then (λ (h : ℕ × List ℕ). program_fault h.1)) (loader_laws.reloc_row l k) ∙ by (loader.relocation_row l k)
  where
    at : (section : ℕ) (o : Option (List ℕ)) → option_and_then (λ (h : ℕ × List ℕ). program_fault h.1) (option_map (with_section section) o) ≡ option_and_then program_fault o
    at section None = refl
    at section (Some bytes) = refl

    by : (o : Option RelocationRow) → option_and_then (λ (h : ℕ × List ℕ). program_fault h.1) (o >>= (λ (r : RelocationRow). option_map (with_section r.section) r.program))
        ≡ option_and_then program_fault (option_and_then (λ (r : RelocationRow). r.program) o)
    by None = refl
    by (Some r) = at r.section r.program

-- the first of some findings is the note that the parts from one on weren't checked, and the parts before it have no error
record StopsAt (cost : ℕ → ℕ) (error : ℕ → Option Finding) (unchecked : ℕ → Finding) (most count : ℕ) (found : List Finding) : Type 0 where
  pub reached : ℕ
  pub there : reached < count
  pub none : (k : ℕ) → k < reached → error k ≡ None
  pub stops : Stops cost most 0 reached
  pub is : first_fault found ≡ Some (unchecked reached)

-- the first error of some parts, or the note on those that weren't checked
first-checked : (cost : ℕ → ℕ) (error : ℕ → Option Finding) (unchecked : ℕ → Finding) (most count : ℕ) (f : Finding) → first_among error 0 count ≡ Some f
    → (first_fault (checked_within cost error unchecked most count) ≡ Some f) ⊎ StopsAt cost error unchecked most count (checked_within cost error unchecked most count)
unfolding checked_within
first-checked cost error unchecked most count f is =
    let reached = within cost most 0 count in
    let r = some_among error 0 count f is in
    let at = r.at in
    let high = r.high in
    let zero-at : 0 + at ≡ at = omega arith in
    let each = first_fault-among (λ i. option_to_list (error i)) error 0 reached (λ k low high. first-listed (error k)) in
    elim (leb_tells reached at) [
      | inl past ↦ (
          let none : first_among error 0 reached ≡ None = first_among-none error 0 reached (λ k low under. r.before k low (let p = past.1 in omega (arith, under, p))) in
          let part : reached < count = (let p = past.1 in omega (arith, p, high)) in
          let left : nat_lt reached count ≡ true = lt-ltb reached count part in
          inr (record {
            reached = reached;
            there = part;
            none = λ k under. (let p = past.1 in r.before k (omega arith) (omega (arith, under, p)));
            stops = within-stops cost most 0 count part;
            is = first-later (all_among (λ i. option_to_list (error i)) 0 reached) (rest_of unchecked reached count) (each ∙ none) ∙ rw left refl;
          }))
      | inr under ↦ inl (first-here (all_among (λ i. option_to_list (error i)) 0 reached) (rest_of unchecked reached count) f
          (each ∙ first_among-at error 0 reached at f under.1 (λ j low below. r.before j low (omega (arith, below))) (rw zero-at r.is)))
    ]

module _ (limits : Limits) (bytes : List ℕ) (c : Contained) (l : Loaded) (contained : container_of bytes ≡ Ok c) where
  -- the programs are those of the relocation headers
  first-programs : (f : Finding) → loaded_of c.header.instantiated_section_count c.loader ≡ Ok l → loader.findings_in l ≡ [] → first_program c l ≡ Some f → IsFirst limits bytes (program_errors limits c l) f
  first-programs f loaded none is =
      let whole = tables_whole l none in
      let same : first_among (program_error c l) 0 (headers_of l) ≡ Some f = ap (first_among (program_error c l) 0) whole ∙ sym each ∙ is in
      elim (first-checked (program_cost l) (program_error c l) (programs_unverified c) limits.program_bytes (headers_of l) f same) [
        | inl first ↦ inl first
        | inr limit ↦ inr (record {
          container = c;
          contained = contained;
          loader = l;
          loaded = loaded;
          header = limit.reached;
          there = (let there = limit.there in omega (arith, there, whole));
          readable = λ k under. none-mapped (program_finding c k) (program_refused l k) (same-at k ∙ limit.none k under);
          before = limit.stops.before;
          past = (let next : limit.reached + 1 ≡ suc limit.reached = omega arith in rw next limit.stops.past);
          is = limit.is;
        })
      ]
    where
      same-at : (k : ℕ) → option_map (program_finding c k) (program_refused l k) ≡ program_error c l k
      same-at k = ap (option_map (program_finding c k)) (program-same l k)

      among : (from n : ℕ) → first_among (λ k. option_map (program_finding c k) (program_refused l k)) from n ≡ first_among (program_error c l) from n
      among from zero = refl
      among from (suc n) = rw (same-at from, among (from + 1) n) refl

      each : first_program c l ≡ first_among (program_error c l) 0 l.header.reloc_count
      each = among 0 l.header.reloc_count

  -- the first error of a loader section with a header is the one that is reported
  first-found : loader.partial_of c.header.instantiated_section_count c.loader ≡ Ok l → first_fault (loader.findings_in l) ≡ result_err (loaded_of c.header.instantiated_section_count c.loader)
  unfolding loader.findings_of
  first-found opens =
      let found : loader.findings_of c.header.instantiated_section_count c.loader ≡ loader.findings_in l = rw opens refl in
      ap first_fault (sym found) ∙ loader_laws.first_is_reported c.header.instantiated_section_count c.loader

  first-opened : (r : Result Loaded LoaderFault) (f : Finding) → loader.partial_of c.header.instantiated_section_count c.loader ≡ Ok l → loaded_of c.header.instantiated_section_count c.loader ≡ r → first_of_loader c r ≡ Some f → IsFirst limits bytes (loader_errors limits c l) f
  first-opened (Err fault) f opens read is = inl (first-here (map (loader_finding c) (loader.findings_in l)) (program_errors limits c l ++ (image_errors limits c ++ run_errors limits c l)) f
      (first-map (loader_finding c) (loader.findings_in l) ∙ ap (option_map (loader_finding c)) (first-found opens ∙ ap result_err read) ∙ is))
  first-opened (Ok m) f opens read is =
      let none : first_fault (loader.findings_in l) ≡ None = first-found opens ∙ ap result_err read in
      let sound = loader_laws.unrefused_loader c.header.instantiated_section_count c.loader l opens (ap result_err read) in
      let same : m ≡ l = cc (read, sound) in
      let first = first-programs f sound (none-first (loader.findings_in l) none) (ap (first_program c) (sym same) ∙ is) in
      is-later limits bytes (map (loader_finding c) (loader.findings_in l)) (program_errors limits c l ++ (image_errors limits c ++ run_errors limits c l)) f (first-map (loader_finding c) (loader.findings_in l) ∙ ap (option_map (loader_finding c)) none)
      (is-here limits bytes (program_errors limits c l) (image_errors limits c ++ run_errors limits c l) f first)

-- the errors behind those of a container
first-tables : (limits : Limits) (bytes : List ℕ) (c : Contained) (r : Result Loaded LoaderFault) (f : Finding) → container_of bytes ≡ Ok c → loader.partial_of c.header.instantiated_section_count c.loader ≡ r → first_of_loader c (loaded_of c.header.instantiated_section_count c.loader) ≡ Some f → IsFirst limits bytes (tables_errors limits c r) f
unfolding loader.findings_of
first-tables limits bytes c (Ok l) f contained opens is = first-opened limits bytes c l contained (loaded_of c.header.instantiated_section_count c.loader) f opens refl is
first-tables limits bytes c (Err g) f contained opens is =
    let found : loader.findings_of c.header.instantiated_section_count c.loader ≡ g ∷ [] = rw opens refl in
    by (loaded_of c.header.instantiated_section_count c.loader) (ap first_fault (sym found) ∙ loader_laws.first_is_reported c.header.instantiated_section_count c.loader) is
  where
    by : (r : Result Loaded LoaderFault) → Some g ≡ result_err r → first_of_loader c r ≡ Some f → IsFirst limits bytes (loader_finding c g ∷ image_errors limits c) f
    by (Ok l) same is = absurd (cc same)
    by (Err h) same is = inl (ap (option_map (loader_finding c)) same ∙ is)

-- those of a container
first-container : (limits : Limits) (bytes : List ℕ) (c : Contained) (r : Result Contained ViewFault) (f : Finding) → views.partial_of bytes ≡ Ok c → container_of bytes ≡ r → first_of_container r ≡ Some f → IsFirst limits bytes (errors_in limits c) f
unfolding views.findings_of
first-container limits bytes c r f opens read is =
    let found : views.findings_of bytes ≡ views.findings_in c = rw opens refl in
    by r read (ap first_fault (sym found) ∙ view_laws.first_is_reported bytes ∙ ap result_err read) is
  where
    by : (r : Result Contained ViewFault) → container_of bytes ≡ r → first_fault (views.findings_in c) ≡ result_err r → first_of_container r ≡ Some f → IsFirst limits bytes (errors_in limits c) f
    by (Err fault) read first is = inl (first-here (map view_finding (views.findings_in c)) (behind_errors limits c) f (first-map view_finding (views.findings_in c) ∙ ap (option_map view_finding) first ∙ is))
    by (Ok d) read none is =
        let sound = view_laws.unrefused_container bytes c opens (ap result_err read) in
        let same : d ≡ c = cc (read, sound) in
        let clean = none-first (views.findings_in c) none in
        let behind : behind_errors limits c ≡ tables_errors limits c (loader.partial_of c.header.instantiated_section_count c.loader) = rw (found_there c clean, allowed_is c clean) refl in
        let first = first-tables limits bytes c (loader.partial_of c.header.instantiated_section_count c.loader) f sound refl (ap (λ (k : Contained). first_of_loader k (loaded_of k.header.instantiated_section_count k.loader)) (sym same) ∙ is) in
        is-later limits bytes (map view_finding (views.findings_in c)) (behind_errors limits c) f (first-map view_finding (views.findings_in c) ∙ ap (option_map view_finding) none)
        (subst (λ errors. IsFirst limits bytes errors f) (sym behind) first)

pub first_within_is_reported : (limits : Limits) (bytes : List ℕ) (f : Finding) → first_reported bytes ≡ Some f → (first_fault (errors_within limits bytes) ≡ Some f) ⊎ IsLimit limits bytes (first_fault (errors_within limits bytes))
unfolding errors_within first_reported views.findings_of
first_within_is_reported limits bytes f is = by (views.partial_of bytes) refl
  where
    unopened : (g : ViewFault) (r : Result Contained ViewFault) → Some g ≡ result_err r → first_of_container r ≡ Some f → IsFirst limits bytes (view_finding g ∷ []) f
    unopened g (Ok c) same is = absurd (cc same)
    unopened g (Err h) same is = inl (ap (option_map view_finding) same ∙ is)

    by : (r : Result Contained ViewFault) → views.partial_of bytes ≡ r → IsFirst limits bytes (opened_errors limits r) f
    by (Ok c) opens = first-container limits bytes c (container_of bytes) f opens refl is
    by (Err g) opens =
        let found : views.findings_of bytes ≡ g ∷ [] = rw opens refl in
        unopened g (container_of bytes) (ap first_fault (sym found) ∙ view_laws.first_is_reported bytes) is

pub first_is_reported : (bytes : List ℕ) (f : Finding) → first_reported bytes ≡ Some f → (first_fault (errors_of bytes) ≡ Some f) ⊎ IsLimit container_limits bytes (first_fault (errors_of bytes))
unfolding errors_of
first_is_reported bytes f is = first_within_is_reported container_limits bytes f is
