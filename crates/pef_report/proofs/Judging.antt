-- An inspection without errors, in which nothing is left unverified, is that of a sound container.
use Rattle.std.proofs.Common.{◌≡◌, suc, Bool, true, false, cond, List, [], ◌∷◌, ◌++◌, refl, sym, subst}
use Rattle.std.specs.Prelude.{◌||◌}
use Rattle.std.specs.List.{AllByRecursion}
use Rattle.std.specs.List.Sorted.{IsPermutation}
use Rattle.std.proofs.lemmas.List.Elements.{All-from_recursion, recursion_from_All}
use Rattle.std.proofs.lemmas.List.Sorted.{All-permutation, IsPermutation-sym}
use Rattle.pef_words.proofs.Laws.Lists.{all-append}
use Rattle.pef_inspect.specs.Errors.{errors_within}
use Rattle.pef_inspect.specs.Findings.{is_error, is_unverified}
use Rattle.pef_inspect.specs.Oddities.{notes_within}
use Rattle.pef_inspect.specs.declared.finding.Finding.{Finding}
use Rattle.pef_inspect.proofs.Laws.{no_errors_within_sound, no_false_alarm, tells_apart}
use Rattle.pef_report.specs.Inspection.{count_chosen}
use Rattle.pef_report.specs.Judged.{JudgesRight}

-- the count of errors is 0 exactly if there are none
pub none-counted : (fs : List Finding) → count_chosen true fs ≡ 0 → AllByRecursion (λ f. is_error f ≡ false) fs
none-counted [] none = tt
none-counted (f ∷ fs) none = by (is_error f) refl none (none-counted fs)
  where
    by : (b : Bool) → is_error f ≡ b → cond b (suc (count_chosen true fs)) (count_chosen true fs) ≡ 0 → (count_chosen true fs ≡ 0 → AllByRecursion (λ g. is_error g ≡ false) fs) → AllByRecursion (λ g. is_error g ≡ false) (f ∷ fs)
    by true is none later = absurd (cc none)
    by false is none later = (is, later none)

pub counted-none : (fs : List Finding) → AllByRecursion (λ f. is_error f ≡ false) fs → count_chosen true fs ≡ 0
counted-none [] none = refl
counted-none (f ∷ fs) none = rw none.0 (counted-none fs none.1)

-- without errors, and without notes that something wasn't verified, no finding is either
neither : (fs : List Finding) → AllByRecursion (λ f. is_error f ≡ false) fs → AllByRecursion (λ f. is_unverified f ≡ false) fs → AllByRecursion (λ f. is_error f || is_unverified f ≡ false) fs
neither [] errors unverified = tt
neither (f ∷ fs) errors unverified = (rw (errors.0, unverified.0) refl, neither fs errors.1 unverified.1)

-- if each finding is an error or such a note, and none is, there is no finding
none-open : (fs : List Finding) → AllByRecursion (λ f. is_error f || is_unverified f ≡ true) fs → AllByRecursion (λ f. is_error f || is_unverified f ≡ false) fs → fs ≡ []
none-open [] opened closed = refl
none-open (f ∷ fs) opened closed = absurd (cc (opened.0, closed.0))

pub all-front : (P : Finding → Type 0) (xs ys : List Finding) → AllByRecursion P (xs ++ ys) → AllByRecursion P xs
all-front P [] ys all = tt
all-front P (x ∷ xs) ys all = (all.0, all-front P xs ys all.1)

pub permuted : (P : Finding → Type 0) (xs ys : List Finding) → IsPermutation xs ys → AllByRecursion P xs → AllByRecursion P ys
permuted P xs ys same all = recursion_from_All P ys (All-permutation P xs ys same (All-from_recursion P xs all))

pub judges_right : JudgesRight
judges_right = record {
  sound = λ limits base bytes i is none verified. (
      let closed = neither i.findings (none-counted i.findings none) verified in
      let all = permuted (λ f. is_error f || is_unverified f ≡ false) i.findings is.all (IsPermutation-sym is.all i.findings is.in_order.permutation) closed in
      let parts = subst (λ found. AllByRecursion (λ f. is_error f || is_unverified f ≡ false) found) is.all_are.are all in
      let errors = all-front (λ f. is_error f || is_unverified f ≡ false) (errors_within limits bytes) (notes_within limits bytes is.all_are.irregular ++ is.all_are.more) parts in
      no_errors_within_sound limits bytes (none-open (errors_within limits bytes) (tells_apart.errors limits bytes) errors));
  none = λ limits base bytes i is sound. (
      let notes = all-append (λ f. is_error f ≡ false) (notes_within limits bytes is.all_are.irregular) is.all_are.more (tells_apart.notes limits bytes is.all_are.irregular) (tells_apart.more limits bytes is.all_are.more is.all_are.more_are) in
      let parts = all-append (λ f. is_error f ≡ false) (errors_within limits bytes) (notes_within limits bytes is.all_are.irregular ++ is.all_are.more) (no_false_alarm.none limits bytes sound) notes in
      let all = subst (λ found. AllByRecursion (λ f. is_error f ≡ false) found) (sym is.all_are.are) parts in
      counted-none i.findings (permuted (λ f. is_error f ≡ false) is.all i.findings is.in_order.permutation all));
}
