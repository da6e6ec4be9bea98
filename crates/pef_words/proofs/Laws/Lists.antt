-- Lists in which each element has a property.
use Rattle.std.proofs.Common.{◌≡◌, ℕ, zero, suc, ◌<◌, List, [], ◌∷◌, ◌++◌, Some, length, drop, map, slice_get, ◌+◌, ◌∙◌, ap, subst, arith}
use Rattle.std.proofs.lemmas.List.{drop_more}
use Rattle.std.proofs.lemmas.Option.{get_or_from_slice_get, same_Some, slice_get_within}
use Rattle.std.specs.Prelude.{slice_index_or, slice_set}
use Rattle.std.specs.List.{AllByRecursion}

-- each element of two lists, one after the other
pub all-append : {A : Type 0} (P : A → Type 0) (xs ys : List A) → AllByRecursion P xs → AllByRecursion P ys → AllByRecursion P (xs ++ ys)
all-append P [] ys left right = right
all-append P (x ∷ xs) ys left right = (left.0, all-append P xs ys left.1 right)

-- each element of a list that gets another element in one place
pub all-set : {A : Type 0} (P : A → Type 0) (xs : List A) (k : ℕ) (y : A) → AllByRecursion P xs → P y → AllByRecursion P (slice_set xs k y)
all-set P [] k y all here = tt
all-set P (x ∷ xs) zero y all here = (here, all.1)
all-set P (x ∷ xs) (suc k) y all here = (all.0, all-set P xs k y all.1 here)

-- the element in a place below the length
pub all-at : {A : Type 0} (P : A → Type 0) (xs : List A) (k : ℕ) (d : A) → AllByRecursion P xs → k < length xs → P (slice_index_or xs k d)
all-at P [] k d all under = absurd (omega arith)
all-at P (x ∷ xs) zero d all under = all.0
all-at P (x ∷ xs) (suc k) d all under = all-at P xs k d all.1 (omega arith)

-- the element that a place has
pub all-get : {A : Type 0} (P : A → Type 0) (xs : List A) (k : ℕ) (x : A) → AllByRecursion P xs → slice_get xs k ≡ Some x → P x
all-get P [] k x all is = absurd (cc)
all-get P (y ∷ ys) zero x all is = subst P (same_Some y x is) all.0
all-get P (y ∷ ys) (suc k) x all is = all-get P ys k x all.1 is

-- a property that follows from another
pub all-weaker : {A : Type 0} (P Q : A → Type 0) (xs : List A) → ((x : A) → P x → Q x) → AllByRecursion P xs → AllByRecursion Q xs
all-weaker P Q [] gives all = tt
all-weaker P Q (x ∷ xs) gives all = (gives x all.0, all-weaker P Q xs gives all.1)

-- each element of a mapped list
pub all-map : {A B : Type 0} (f : A → B) (P : A → Type 0) (Q : B → Type 0) (xs : List A) → ((x : A) → P x → Q (f x)) → AllByRecursion P xs → AllByRecursion Q (map f xs)
all-map f P Q [] gives all = tt
all-map f P Q (x ∷ xs) gives all = (gives x all.0, all-map f P Q xs gives all.1)

-- the elements from a place on are the element there and those after it
pub drop-here : {A : Type 0} (xs : List A) (n : ℕ) (x : A) → slice_get xs n ≡ Some x → drop n xs ≡ x ∷ drop (n + 1) xs
drop-here xs n x found = drop_more xs n x (slice_get_within xs n x found) ∙ ap (λ y. y ∷ drop (n + 1) xs) (get_or_from_slice_get xs n x x found)
