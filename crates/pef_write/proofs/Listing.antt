-- Lists that are made one element after the other.
use Rattle.std.proofs.Common.{◌≡◌, ◌∙◌, ℕ, zero, suc, ◌≤◌, List, [], ◌∷◌, ◌++◌, Option, None, Some, option_map, slice_get, length, drop, map, append-nil, refl, subst, sym, ap, arith}
use Rattle.std.specs.List.{AllZip}
use Rattle.std.proofs.lemmas.List.{drop_all}
use Rattle.std.proofs.lemmas.Option.{slice_get-map}

-- there is none past the last
pub none_past : {A : Type 0} (xs : List A) (n : ℕ) → slice_get xs n ≡ None → length xs ≤ n
none_past [] n none = omega arith
none_past (x ∷ xs) zero none = absurd (cc)
none_past (x ∷ xs) (suc n) none = (let later = none_past xs n none in omega arith)

-- an element that is found in a mapped list
pub found-as : {A B : Type 0} (g : A → B) (xs : List A) (n : ℕ) (y : Option B) → y ≡ option_map g (slice_get xs n) → slice_get (map g xs) n ≡ y
found-as g xs n y seen = slice_get-map g xs n ∙ sym seen

pub mapped-all : {A B : Type 0} (g : A → B) (xs : List A) (i : ℕ) (done whole : List B) → length xs ≤ i → done ++ map g (drop i xs) ≡ whole → done ≡ whole
mapped-all g xs i done whole past all = sym (append-nil done) ∙ ap (λ rest. done ++ map g rest) (sym (drop_all i xs past)) ∙ all

pub finished : {B : Type 0} (done left whole : List B) → left ≡ [] → done ++ left ≡ whole → done ≡ whole
finished done left whole none all = sym (append-nil done) ∙ ap (λ z. done ++ z) (sym none) ∙ all

-- a list that is mapped twice
pub map-twice : {A B C : Type 0} (f : B → C) (g : A → B) (xs : List A) → map (λ x. f (g x)) xs ≡ map f (map g xs)
map-twice f g [] = refl
map-twice f g (x ∷ xs) = ap (λ ys. f (g x) ∷ ys) (map-twice f g xs)

-- the elements of two lists at a place
pub zip-at : {A B : Type 0} (R : A → B → Type 0) (xs : List A) (ys : List B) (i : ℕ) (y : B) → AllZip R xs ys → slice_get ys i ≡ Some y → (x : A) × (slice_get xs i ≡ Some x) × R x y
zip-at R [] [] i y each there = absurd (cc)
zip-at R [] (y' ∷ ys) i y each there = absurd each
zip-at R (x ∷ xs) [] i y each there = absurd each
zip-at {A} {B} R (x ∷ xs) (y' ∷ ys) zero y each there =
    let same : y' ≡ y = cc in
    let P : B → Type 0 = λ y. R x y in
    (x, refl, subst P same each.0)
zip-at R (x ∷ xs) (y' ∷ ys) (suc i) y each there = zip-at R xs ys i y each.1 there

-- .. which have the same length
pub zip-length : {A B : Type 0} (R : A → B → Type 0) (xs : List A) (ys : List B) → AllZip R xs ys → length xs ≡ length ys
zip-length R [] [] each = refl
zip-length R [] (y ∷ ys) each = absurd each
zip-length R (x ∷ xs) [] each = absurd each
zip-length R (x ∷ xs) (y ∷ ys) each = ap suc (zip-length R xs ys each.1)
