-- Folds over lists that are put together of parts.
use Rattle.std.proofs.Common.{◌≡◌, ◌∙◌, ℕ, suc, ◌+◌, ◌-◌, ◌<◌, List, [], ◌∷◌, ◌++◌, drop, length, map, refl, sym, ap, arith}
use Rattle.std.specs.Prelude.{fold, slice_index_or}
use Rattle.std.specs.List.{flat_map}
use Rattle.std.proofs.lemmas.List.{drop_more}

-- a fold over one list and then another
pub fold-append : {A X : Type 0} (f : A → X → A) (a : A) (xs ys : List X) → fold f a (xs ++ ys) ≡ fold f (fold f a xs) ys
fold-append f a [] ys = refl
fold-append f a (x ∷ xs) ys = fold-append f (f a x) xs ys

-- a fold over the parts of elements is one over the parts of the element at a place, and then of those after it
pub fold-parts : {A W X Y : Type 0} (f : A → Y → A) (parts : X → List Y) (g : W → X) (a : A) (ws : List W) (i : ℕ) (w : W) → i < length ws → w ≡ slice_index_or ws i w
    → fold f a (flat_map parts (map g (drop i ws))) ≡ fold f (fold f a (parts (g w))) (flat_map parts (map g (drop (i + 1) ws)))
fold-parts f parts g a ws i w under is =
    ap (λ rest. fold f a (flat_map parts (map g rest))) (drop_more ws i w under)
    ∙ ap (λ x. fold f a (parts (g x) ++ flat_map parts (map g (drop (i + 1) ws)))) (sym is)
    ∙ fold-append f a (parts (g w)) (flat_map parts (map g (drop (i + 1) ws)))

-- a count that is left
pub one_left : (n k : ℕ) → k < n → n - k ≡ suc (n - (k + 1))
one_left n k under = omega arith
