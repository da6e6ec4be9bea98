-- Where the last `/` of a path is, its folder ends and its name begins.
use Rattle.std.proofs.Common.{◌≡◌, ◌≢◌, ◌<◌, ◌==◌, ◌||◌, ◌∷◌, ℕ, zero, suc, Bool, true, false, List, [], length, get_or, take, drop, refl, sym, ap, ap₂, ◌∙◌, if◌then◌else◌, arith, eq-eqb}
use Rattle.std.proofs.lemmas.Bool.{ne_eqb}
use Rattle.pef_tool.specs.Companions.{folder_of, has_slash, name_of}

or-true : (b : Bool) → (b || true) ≡ true
or-true true = refl
or-true false = refl

-- a path without a `/`
none_has : (path : List ℕ) → ((k : ℕ) → k < length path → get_or path k 0 ≢ 47) → has_slash path ≡ false
none_has [] nowhere = refl
none_has (b ∷ path) nowhere =
    ap₂ (λ (x y : Bool). x || y) (ne_eqb b 47 (nowhere 0 (omega arith))) (none_has path (λ k under. nowhere (suc k) (omega (arith, under))))

pub no_folder : (path : List ℕ) → ((k : ℕ) → k < length path → get_or path k 0 ≢ 47) → folder_of path ≡ []
no_folder [] nowhere = refl
no_folder (b ∷ path) nowhere = ap (λ (has : Bool). if has then b ∷ folder_of path else []) (none_has (b ∷ path) nowhere)

pub all_name : (path : List ℕ) → ((k : ℕ) → k < length path → get_or path k 0 ≢ 47) → name_of path ≡ path
all_name [] nowhere = refl
all_name (b ∷ path) nowhere = ap (λ (has : Bool). if has then name_of path else b ∷ path) (none_has (b ∷ path) nowhere)

-- a path with a `/`
one_has : (path : List ℕ) (k : ℕ) → k < length path → get_or path k 0 ≡ 47 → has_slash path ≡ true
one_has [] k under here = absurd (omega (arith, under))
one_has (b ∷ path) zero under here = ap (λ (x : Bool). x || has_slash path) (eq-eqb b 47 here)
one_has (b ∷ path) (suc k) under here = ap (λ (x : Bool). b == 47 || x) (one_has path k (omega (arith, under)) here) ∙ or-true (b == 47)

pub folder_ends : (path : List ℕ) (last : ℕ) → last < length path → get_or path last 0 ≡ 47 → ((k : ℕ) → last < k → k < length path → get_or path k 0 ≢ 47) → take (suc last) path ≡ folder_of path
folder_ends [] last under here nowhere = absurd (omega (arith, under))
folder_ends (b ∷ path) zero under here nowhere =
    let none = no_folder path (λ k below. nowhere (suc k) (omega arith) (omega (arith, below))) in
    ap (λ (front : List ℕ). b ∷ front) (sym none) ∙ sym (ap (λ (has : Bool). if has then b ∷ folder_of path else []) (one_has (b ∷ path) zero under here))
folder_ends (b ∷ path) (suc last) under here nowhere =
    let rest = folder_ends path last (omega (arith, under)) here (λ k above below. nowhere (suc k) (omega (arith, above)) (omega (arith, below))) in
    ap (λ (front : List ℕ). b ∷ front) rest ∙ sym (ap (λ (has : Bool). if has then b ∷ folder_of path else []) (one_has (b ∷ path) (suc last) under here))

pub name_begins : (path : List ℕ) (last : ℕ) → last < length path → get_or path last 0 ≡ 47 → ((k : ℕ) → last < k → k < length path → get_or path k 0 ≢ 47) → drop (suc last) path ≡ name_of path
name_begins [] last under here nowhere = absurd (omega (arith, under))
name_begins (b ∷ path) zero under here nowhere =
    let none = all_name path (λ k below. nowhere (suc k) (omega arith) (omega (arith, below))) in
    sym none ∙ sym (ap (λ (has : Bool). if has then name_of path else b ∷ path) (one_has (b ∷ path) zero under here))
name_begins (b ∷ path) (suc last) under here nowhere =
    let rest = name_begins path last (omega (arith, under)) here (λ k above below. nowhere (suc k) (omega (arith, above)) (omega (arith, below))) in
    rest ∙ sym (ap (λ (has : Bool). if has then name_of path else b ∷ path) (one_has (b ∷ path) (suc last) under here))
