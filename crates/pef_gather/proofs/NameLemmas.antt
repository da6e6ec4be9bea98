-- Where the last dot of a name is.
use Rattle.std.proofs.Common.{◌≡◌, ◌≢◌, ◌<◌, ◌∷◌, ℕ, zero, suc, Bool, List, [], None, Some, length, get_or, take, refl, ap, ◌∙◌, if◌then◌else◌, arith, eq-eqb}
use Rattle.std.proofs.lemmas.Bool.{ne_eqb}
use Rattle.pef_gather.specs.Names.{before_dot, front_of, stem, stem_at}

-- a name without a dot
pub no_dot : (name : List ℕ) → ((k : ℕ) → k < length name → get_or name k 0 ≢ 46) → before_dot name ≡ None
no_dot [] nowhere = refl
no_dot (b ∷ name) nowhere =
    ap (front_of b) (no_dot name (λ k under. nowhere (suc k) (omega (arith, under))))
    ∙ ap (λ (is : Bool). if is then Some [] else None) (ne_eqb b 46 (nowhere 0 (omega arith)))

-- a name with a last one
pub last_dot : (name : List ℕ) (last : ℕ) → last < length name → get_or name last 0 ≡ 46 → ((k : ℕ) → last < k → k < length name → get_or name k 0 ≢ 46) → before_dot name ≡ Some (take last name)
last_dot [] last under here nowhere = absurd (omega (arith, under))
last_dot (b ∷ name) zero under here nowhere =
    ap (front_of b) (no_dot name (λ k below. nowhere (suc k) (omega arith) (omega (arith, below))))
    ∙ ap (λ (is : Bool). if is then Some [] else None) (eq-eqb b 46 here)
last_dot (b ∷ name) (suc last) under here nowhere =
    ap (front_of b) (last_dot name last (omega (arith, under)) here (λ k above below. nowhere (suc k) (omega (arith, above)) (omega (arith, below))))

-- what is left of a name, by what is before its last dot
pub stem-none : (name : List ℕ) → before_dot name ≡ None → stem name ≡ name
unfolding stem
stem-none name none = ap (stem_at name) none

pub stem-first : (name : List ℕ) → before_dot name ≡ Some [] → stem name ≡ name
unfolding stem
stem-first name first = ap (stem_at name) first

pub stem-front : (name : List ℕ) (last : ℕ) → 0 < last → last < length name → before_dot name ≡ Some (take last name) → stem name ≡ take last name
unfolding stem
stem-front [] last some under front = absurd (omega (arith, under))
stem-front (b ∷ name) zero some under front = absurd (omega (arith, some))
stem-front (b ∷ name) (suc last) some under front = ap (stem_at (b ∷ name)) front
