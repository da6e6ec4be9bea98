-- Findings that are taken one after the other.
use Rattle.std.proofs.Common.{◌≡◌, ◌∙◌, ℕ, zero, suc, ◌+◌, Bool, true, List, ◌++◌, map, refl, sym, ap, append_assoc}
use Rattle.std.proofs.lemmas.List.{map-append}
use Rattle.pef_words.specs.Findings.{all_among}
use Rattle.pef_loader.specs.Partial.{if_whole}

-- what was taken first, and what was taken then
pub taken-two : {F : Type 0} (t0 t1 t2 a b : List F) → t1 ≡ t0 ++ a → t2 ≡ t1 ++ b → t2 ≡ t0 ++ (a ++ b)
taken-two t0 t1 t2 a b first second = second ∙ (ap (λ t. t ++ b) first ∙ append_assoc t0 a b)

-- the answers of each place, each made into something
pub map-among : {F G : Type 0} (f : F → G) (g : ℕ → List F) (from n : ℕ) → map f (all_among g from n) ≡ all_among (λ i. map f (g i)) from n
map-among f g from zero = refl
map-among f g from (suc n) = map-append f (g from) (all_among g (from + 1) n) ∙ ap (λ xs. map f (g from) ++ xs) (map-among f g (from + 1) n)

-- the rows of a table that is whole
pub rows-whole : {F G : Type 0} (f : F → G) (whole : Bool) (g : ℕ → List F) (n : ℕ) → whole ≡ true → all_among (λ i. map f (g i)) 0 n ≡ map f (if_whole whole (all_among g 0 n))
rows-whole f whole g n is = rw is (sym (map-among f g 0 n))

-- the errors of a container: header, sections, loader section, and those behind them
pub container-parts : {F G : Type 0} (f : F → G) (xs ys : List F) (g : ℕ → List F) (n : ℕ) (rest : List G) → map f xs ++ (all_among (λ i. map f (g i)) 0 n ++ (map f ys ++ rest)) ≡ map f (xs ++ (all_among g 0 n ++ ys)) ++ rest
container-parts f xs ys g n rest =
    let rows = all_among g 0 n in
    let front = map-append f xs (rows ++ ys) ∙ ap (λ zs. map f xs ++ zs) (map-append f rows ys ∙ ap (λ zs. zs ++ map f ys) (map-among f g 0 n)) in
    sym (ap (λ zs. zs ++ rest) front ∙ (append_assoc (map f xs) (all_among (λ i. map f (g i)) 0 n ++ map f ys) rest ∙ ap (λ zs. map f xs ++ zs) (append_assoc (all_among (λ i. map f (g i)) 0 n) (map f ys) rest)))

-- the errors of a loader section, part by part
pub tables-parts : {F G : Type 0} (f : F → G) (a b c d e g h : List F) → map f a ++ (map f b ++ (map f c ++ (map f d ++ (map f e ++ (map f g ++ map f h))))) ≡ map f (a ++ (b ++ (c ++ (d ++ (e ++ (g ++ h))))))
tables-parts f a b c d e g h = sym (
    map-append f a (b ++ (c ++ (d ++ (e ++ (g ++ h)))))
    ∙ ap (λ zs. map f a ++ zs) (map-append f b (c ++ (d ++ (e ++ (g ++ h))))
    ∙ ap (λ zs. map f b ++ zs) (map-append f c (d ++ (e ++ (g ++ h)))
    ∙ ap (λ zs. map f c ++ zs) (map-append f d (e ++ (g ++ h))
    ∙ ap (λ zs. map f d ++ zs) (map-append f e (g ++ h)
    ∙ ap (λ zs. map f e ++ zs) (map-append f g h))))))

-- the rows of a table that is whole, each of which says so
pub rows-whole_each : {F G : Type 0} (f : F → G) (whole : Bool) (g : ℕ → List F) (n : ℕ) → whole ≡ true → all_among (λ i. map f (if_whole whole (g i))) 0 n ≡ map f (if_whole whole (all_among g 0 n))
rows-whole_each f whole g n is = rw is (sym (map-among f g 0 n))
