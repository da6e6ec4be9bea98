-- A sort puts fixups that don't overlap into address order.
use Rattle.std.proofs.Common.{◌≡◌, ℕ, zero, suc, ◌+◌, ◌*◌, ◌<◌, ◌≤◌, Bool, true, false, ◌||◌, cond, List, [], ◌∷◌, length, get_or, take, refl, sym, ap, ap₂, ◌∙◌, inl, inr, arith, IsPermutation}
use Rattle.std.specs.Prelude.{nat_lt}
use Rattle.std.specs.List.{AllByRecursion, fold, list_any, sum_by}
use Rattle.std.specs.List.Sorted.{IsNonDecreasingBy}
use Rattle.std.proofs.lemmas.Bool.Decides.{leb_tells, nat_tests}
use Rattle.std.proofs.lemmas.List.Sorted.{sum_by-IsPermutation}
use Rattle.std.proofs.lemmas.List.Sums.{sum_by-cons}
use Rattle.pef_words.proofs.Laws.Lists.{all-weaker}
use Rattle.pef_reloc.specs.declared.fixup.Base.{Base}
use Rattle.pef_reloc.specs.declared.fixup.Base.TheVariants.{Section, Import}
use Rattle.pef_reloc.specs.declared.fixup.Fixup.{Fixup}
use Rattle.pef_script.specs.Text.Contents.{fixup_of, meets, overlaps, placed}
use Rattle.pef_script.specs.Text.Kept.Sections.{AreApart}
use Rattle.pef_script.proofs.TextProofs.Placing.{all-placed, both_unmet, clear_of, length-placed}

-- each begins before all after it
abbrev Ascend : List Fixup → Type 0
Ascend [] = Unit {0}
Ascend (f ∷ fixups) = AllByRecursion (λ (g : Fixup). f.offset < g.offset) fixups × Ascend fixups

ascend-placed : (fixups : List Fixup) (new : Fixup) → Ascend fixups → overlaps fixups new.offset 1 ≡ false → Ascend (placed fixups new)
ascend-placed [] new ascend free = (tt, tt)
ascend-placed (f ∷ fixups) new ascend free =
    let unmet = both_unmet (meets new.offset 1 f) (overlaps fixups new.offset 1) free in
    elim (leb_tells (suc new.offset) f.offset) [
      | inl before ↦ rw before.0 ((before.1, all-weaker (λ (g : Fixup). f.offset < g.offset) (λ (g : Fixup). new.offset < g.offset) fixups (λ g below. let b = before.1 in omega (arith, b, below)) ascend.0), ascend)
      | inr after ↦
          (let below : f.offset < new.offset = elim (clear_of new.offset 1 f unmet.0) as (λ _. f.offset < new.offset) [ inl h ↦ omega (arith, h) | inr h ↦ absurd (let a = after.1 in omega (arith, h, a)) ] in
          rw after.0 (all-placed (λ (g : Fixup). f.offset < g.offset) fixups new ascend.0 below, ascend-placed fixups new ascend.1 unmet.1))
    ]

ascend-fold : (before fixups : List Fixup) → Ascend before → AreApart before fixups → Ascend (fold placed before fixups)
ascend-fold before [] ascend apart = ascend
ascend-fold before (f ∷ fixups) ascend apart = ascend-fold (placed before f) fixups (ascend-placed before f ascend apart.0) apart.1

-- the sum of a function over fixups
abbrev total : (Fixup → ℕ) → List Fixup → ℕ
total n [] = 0
total n (f ∷ fixups) = n f + total n fixups

total-is : (n : Fixup → ℕ) (fixups : List Fixup) → sum_by n fixups ≡ total n fixups
total-is n [] = refl
total-is n (f ∷ fixups) = sum_by-cons n f fixups ∙ ap (λ m. n f + m) (total-is n fixups)

total-placed : (n : Fixup → ℕ) (fixups : List Fixup) (new : Fixup) → total n (placed fixups new) ≡ n new + total n fixups
total-placed n [] new = refl
total-placed n (f ∷ fixups) new =
    elim (leb_tells (suc new.offset) f.offset) [
      | inl before ↦ rw before.0 refl
      | inr after ↦ rw after.0 (let others = total-placed n fixups new in omega (arith, others))
    ]

total-fold : (n : Fixup → ℕ) (before fixups : List Fixup) → total n (fold placed before fixups) ≡ total n before + total n fixups
total-fold n before [] = omega arith
total-fold n before (f ∷ fixups) = (let first = total-placed n before f in let others = total-fold n (placed before f) fixups in omega (arith, first, others))

total-none : (n : Fixup → ℕ) (fixups : List Fixup) → AllByRecursion (λ f. n f ≡ 0) fixups → total n fixups ≡ 0
total-none n [] none = refl
total-none n (f ∷ fixups) none = (let first = none.0 in let others = total-none n fixups none.1 in omega (arith, first, others))

none-total : (n : Fixup → ℕ) (fixups : List Fixup) → total n fixups ≡ 0 → AllByRecursion (λ f. n f ≡ 0) fixups
none-total n [] none = tt
none-total n (f ∷ fixups) none = (omega (arith, none), none-total n fixups (omega (arith, none)))

-- none begins before one that is before it
abbrev NeverFall : List Fixup → Type 0
NeverFall [] = Unit {0}
NeverFall (f ∷ fixups) = AllByRecursion (λ (g : Fixup). f.offset ≤ g.offset) fixups × NeverFall fixups

all-from : (P : Fixup → Type 0) (fixups : List Fixup) → ((k : ℕ) (d : Fixup) → k < length fixups → P (get_or fixups k d)) → AllByRecursion P fixups
all-from P [] each = tt
all-from P (f ∷ fixups) each = (each 0 f (omega arith), all-from P fixups (λ k d below. each (suc k) d (omega (arith, below))))

never_fall : (fixups : List Fixup) → IsNonDecreasingBy (λ (f : Fixup). f.offset) fixups → NeverFall fixups
never_fall [] rises = tt
never_fall (f ∷ fixups) rises = (
  all-from (λ (g : Fixup). f.offset ≤ g.offset) fixups (λ k d below. rises 0 (suc k) d (omega arith) (omega (arith, below))),
  never_fall fixups (λ i j d order below. rises (suc i) (suc j) d (omega (arith, order)) (omega (arith, below))),
)

-- a number for each base
abbrev number_of_base : Base → ℕ
number_of_base (Section k) = 2 * k
number_of_base (Import j) = 2 * j + 1

same_base : (a b : Base) → number_of_base a ≡ number_of_base b → a ≡ b
same_base (Section k) (Section l) same = ap Section (omega (arith, same))
same_base (Section k) (Import l) same = absurd (omega (arith, same))
same_base (Import k) (Section l) same = absurd (omega (arith, same))
same_base (Import k) (Import l) same = ap Import (omega (arith, same))

-- what is counted of a fixup: whether it is before an offset, whether it is not after it, and its base if it is not after it
abbrev is_below : ℕ → Fixup → ℕ
is_below offset f = cond (nat_lt f.offset offset) 1 0

abbrev is_at_most : ℕ → Fixup → ℕ
is_at_most offset f = cond (nat_lt offset f.offset) 0 1

abbrev base_at_most : ℕ → Fixup → ℕ
base_at_most offset f = cond (nat_lt offset f.offset) 0 (number_of_base f.base)

after_is : (offset : ℕ) (f : Fixup) → offset < f.offset → nat_lt offset f.offset ≡ true
after_is offset f after = grind (arith, nat_tests)

not_after : (offset : ℕ) (f : Fixup) → f.offset ≤ offset → nat_lt offset f.offset ≡ false
not_after offset f before = grind (arith, nat_tests)

none_below : (offset : ℕ) (f : Fixup) → offset ≤ f.offset → is_below offset f ≡ 0
none_below offset f after = (let is : nat_lt f.offset offset ≡ false = grind (arith, nat_tests) in rw is refl)

not_below : (offset : ℕ) (f : Fixup) → is_below offset f ≡ 0 → offset ≤ f.offset
not_below offset f none = grind (arith, nat_tests)

count_after : (offset : ℕ) (f : Fixup) → is_at_most offset f ≡ 0 → nat_lt offset f.offset ≡ true
count_after offset f none = grind (arith, nat_tests)

-- of fixups that ascend there is one order
same_order : (ascending fixups : List Fixup) → Ascend ascending → NeverFall fixups → ((n : Fixup → ℕ) → total n fixups ≡ total n ascending) → fixups ≡ ascending
same_order [] [] ascend never same = refl
same_order [] (y ∷ ys) ascend never same = absurd (let counts = same (λ _. 1) in omega (arith, counts))
same_order (x ∷ xs) [] ascend never same = absurd (let counts = same (λ _. 1) in omega (arith, counts))
same_order (x ∷ xs) (y ∷ ys) ascend never same =
    let below_x = none_below x.offset x (omega arith) in
    let below_others = total-none (is_below x.offset) xs (all-weaker (λ (g : Fixup). x.offset < g.offset) (λ (g : Fixup). is_below x.offset g ≡ 0) xs (λ g after. none_below x.offset g (omega (arith, after))) ascend.0) in
    let below = same (is_below x.offset) in
    let least : x.offset ≤ y.offset = not_below x.offset y (omega (arith, below_x, below_others, below)) in
    let here_x : is_at_most x.offset x ≡ 1 = rw (not_after x.offset x (omega arith)) refl in
    let here_others = total-none (is_at_most x.offset) xs (all-weaker (λ (g : Fixup). x.offset < g.offset) (λ (g : Fixup). is_at_most x.offset g ≡ 0) xs (λ g after. rw (after_is x.offset g after) refl) ascend.0) in
    let here = same (is_at_most x.offset) in
    let most : y.offset ≤ x.offset = elim (leb_tells (suc x.offset) y.offset) as (λ _. y.offset ≤ x.offset) [
      | inl after ↦ absurd (
          let far = after.1 in
          let none_y : is_at_most x.offset y ≡ 0 = rw after.0 refl in
          let none = total-none (is_at_most x.offset) ys (all-weaker (λ (g : Fixup). y.offset ≤ g.offset) (λ (g : Fixup). is_at_most x.offset g ≡ 0) ys (λ g later. rw (after_is x.offset g (omega (arith, far, later))) refl) never.0) in
          omega (arith, none_y, none, here, here_x, here_others))
      | inr not ↦ (let not = not.1 in omega (arith, not))
    ] in
    let here_y : is_at_most x.offset y ≡ 1 = rw (not_after x.offset y most) refl in
    let none_others : total (is_at_most x.offset) ys ≡ 0 = omega (arith, here, here_x, here_others, here_y) in
    let base_others = total-none (base_at_most x.offset) ys (all-weaker (λ (g : Fixup). is_at_most x.offset g ≡ 0) (λ (g : Fixup). base_at_most x.offset g ≡ 0) ys (λ g none. rw (count_after x.offset g none) refl) (none-total (is_at_most x.offset) ys none_others)) in
    let base_x_others = total-none (base_at_most x.offset) xs (all-weaker (λ (g : Fixup). x.offset < g.offset) (λ (g : Fixup). base_at_most x.offset g ≡ 0) xs (λ g after. rw (after_is x.offset g after) refl) ascend.0) in
    let base_x : base_at_most x.offset x ≡ number_of_base x.base = rw (not_after x.offset x (omega arith)) refl in
    let base_y : base_at_most x.offset y ≡ number_of_base y.base = rw (not_after x.offset y most) refl in
    let bases = same (base_at_most x.offset) in
    let same_offset : y.offset ≡ x.offset = omega (arith, least, most) in
    let base = same_base y.base x.base (omega (arith, base_others, base_x_others, base_x, base_y, bases)) in
    let first : y ≡ x = ap₂ fixup_of same_offset base in
    let rest = same_order xs ys ascend.1 never.1 (λ n. let all = same n in let one = ap n first in omega (arith, all, one)) in
    ap₂ ◌∷◌ first rest

-- sorted by their offsets they are as when each was put in its place
pub sorted_is : (fixups sorted : List Fixup) → AreApart [] fixups → IsPermutation fixups sorted → IsNonDecreasingBy (λ (f : Fixup). f.offset) sorted → sorted ≡ fold placed [] fixups
sorted_is fixups sorted apart moved rises =
    same_order (fold placed [] fixups) sorted (ascend-fold [] fixups tt apart) (never_fall sorted rises)
    (λ n. sym (total-is n sorted) ∙ (sum_by-IsPermutation n fixups sorted moved ∙ (let placed_too = total-fold n [] fixups in let same = total-is n fixups in omega (arith, placed_too, same))))

-- an order changes neither how many there are nor what they overlap
pub length-fold : (before fixups : List Fixup) → length (fold placed before fixups) ≡ length before + length fixups
length-fold before [] = omega arith
length-fold before (f ∷ fixups) = (let first = length-placed before f in let others = length-fold (placed before f) fixups in omega (arith, first, others))

or_swap : (a b c : Bool) → (a || (b || c)) ≡ (b || (a || c))
or_swap true true c = refl
or_swap true false c = refl
or_swap false b c = refl

or_moved : (a b c : Bool) → ((a || b) || c) ≡ (b || (a || c))
or_moved true true c = refl
or_moved true false c = refl
or_moved false b c = refl

or_none : (a : Bool) → a ≡ (a || false)
or_none true = refl
or_none false = refl

any-placed_is : (p : Fixup → Bool) (fixups : List Fixup) (new : Fixup) → list_any p (placed fixups new) ≡ (p new || list_any p fixups)
any-placed_is p [] new = refl
any-placed_is p (f ∷ fixups) new =
    elim (leb_tells (suc new.offset) f.offset) [
      | inl before ↦ rw before.0 refl
      | inr after ↦ rw after.0 (ap (λ b. p f || b) (any-placed_is p fixups new) ∙ or_swap (p f) (p new) (list_any p fixups))
    ]

any-fold : (p : Fixup → Bool) (before fixups : List Fixup) → list_any p (fold placed before fixups) ≡ (list_any p before || list_any p fixups)
any-fold p before [] = or_none (list_any p before)
any-fold p before (f ∷ fixups) =
    any-fold p (placed before f) fixups ∙ (ap (λ b. b || list_any p fixups) (any-placed_is p before f) ∙ or_moved (p f) (list_any p before) (list_any p fixups))

pub overlaps-fold : (fixups : List Fixup) (offset count : ℕ) → overlaps (fold placed [] fixups) offset count ≡ overlaps fixups offset count
overlaps-fold fixups offset count = any-fold (meets offset count) [] fixups

free_from : (before fixups : List Fixup) (i : ℕ) (d : Fixup) → AreApart before fixups → i < length fixups → overlaps (fold placed before (take i fixups)) (get_or fixups i d).offset 1 ≡ false
free_from before [] i d apart below = absurd (omega (arith, below))
free_from before (f ∷ fixups) zero d apart below = apart.0
free_from before (f ∷ fixups) (suc i) d apart below = free_from (placed before f) fixups i d apart.1 (omega (arith, below))

-- each overlaps none of those before it
pub free_at : (fixups : List Fixup) (i : ℕ) (d : Fixup) → AreApart [] fixups → i < length fixups → overlaps (take i fixups) (get_or fixups i d).offset 1 ≡ false
free_at fixups i d apart below = sym (overlaps-fold (take i fixups) (get_or fixups i d).offset 1) ∙ free_from [] fixups i d apart below
