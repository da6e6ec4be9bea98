-- How a word `NAME=FILE` is split, and which files several words name.
use Rattle.std.proofs.Common.{◌≡◌, ◌≢◌, ◌<◌, ◌==◌, ◌++◌, ℕ, suc, false, List, [], ◌∷◌, length, get_or, Option, None, Some, option_map, refl, sym, ap, ◌∙◌, arith, Bor}
use Rattle.std.proofs.lemmas.Bool.{ne_eqb}
use Rattle.std.proofs.lemmas.Str.Pattern.{IsSplitOnceResult, split_parts}
use Rattle.pef_lines.specs.Lines.{cut_at}
use Rattle.pef_request.specs.Files.{file_at}

abbrev Lacks : List ℕ → Type 0
Lacks xs = (i : ℕ) → i < length xs → get_or xs i 0 ≢ 61

split-at : (name path : List ℕ) → Lacks name → cut_at 61 (name ++ 61 ∷ path) ≡ Some (name, path)
split-at [] path lacks = refl
split-at (b ∷ name) path lacks =
    let other : (b == 61) ≡ false = ne_eqb b 61 (lacks 0 (omega arith)) in
    rw (other, split-at name path (λ i under. lacks (suc i) (omega arith))) refl

split-without : (word : List ℕ) → Lacks word → cut_at 61 word ≡ None
split-without [] lacks = refl
split-without (b ∷ word) lacks =
    let other : (b == 61) ≡ false = ne_eqb b 61 (lacks 0 (omega arith)) in
    rw (other, split-without word (λ i under. lacks (suc i) (omega arith))) refl

-- the clause of `split_once` at `=`
pub split_once_is : (word : List ℕ) (r : Option (Bor (List ℕ) × Bor (List ℕ))) → IsSplitOnceResult 61 word r → option_map (λ p. (p.0.now, p.1.now)) r ≡ cut_at 61 word
split_once_is word None cases = sym (split-without word (split_parts 61 word None cases (omega arith)))
split_once_is word (Some x) cases =
    let parts = split_parts 61 word (Some x) cases (omega arith) in
    sym (ap (cut_at 61) parts.0 ∙ split-at x.0.now x.1.now parts.1)

-- a name that isn't empty
pub file_at_some : (name path : List ℕ) → (length name == 0) ≡ false → Some (name, path) ≡ file_at name path
file_at_some [] path some = absurd (cc)
file_at_some (b ∷ name) path some = refl
