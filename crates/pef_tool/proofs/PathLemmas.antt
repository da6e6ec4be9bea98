-- How the bytes of a list of paths add up to its first path.
use Rattle.std.proofs.Common.{◌≡◌, ◌≢◌, ◌<◌, ◌+◌, ◌∷◌, ◌++◌, ℕ, List, [], length, get_or, take, drop, refl, sym, ap, ◌∙◌, arith}
use Rattle.std.proofs.lemmas.Bool.{ne_eqb}
use Rattle.std.proofs.lemmas.List.{at_drop_more, take_more}
use Rattle.pef_tool.specs.Inspect.{begun_with, listed_paths}

-- bytes before the first of some paths
abbrev pub extended : List ℕ → List (List ℕ) → List (List ℕ)
extended [] paths = paths
extended (b ∷ bytes) paths = begun_with b (extended bytes paths)

pub extended-more : (bytes : List ℕ) (b : ℕ) (paths : List (List ℕ)) → extended (bytes ++ b ∷ []) paths ≡ extended bytes (begun_with b paths)
extended-more [] b paths = refl
extended-more (x ∷ bytes) b paths = ap (begun_with x) (extended-more bytes b paths)

-- a zero byte ends a path
extended-ended : (bytes : List ℕ) (paths : List (List ℕ)) → extended bytes ([] ∷ paths) ≡ bytes ∷ paths
extended-ended [] paths = refl
extended-ended (x ∷ bytes) paths = ap (begun_with x) (extended-ended bytes paths)

-- the end of the list ends the last one
extended-last : (b : ℕ) (bytes : List ℕ) → extended (b ∷ bytes) [] ≡ (b ∷ bytes) ∷ []
extended-last b [] = refl
extended-last b (x ∷ bytes) = ap (begun_with b) (extended-last x bytes)

listed-more : (b : ℕ) (list : List ℕ) → b ≢ 0 → listed_paths (b ∷ list) ≡ begun_with b (listed_paths list)
listed-more b list other = rw (ne_eqb b 0 other) refl

listed-ended : (b : ℕ) (list : List ℕ) → b ≡ 0 → listed_paths (b ∷ list) ≡ [] ∷ listed_paths list
listed-ended b list is = rw is refl

module _ (list : List ℕ) (i : ℕ) (under : i < length list) (so_far : listed_paths list ≡ extended (take i list) (listed_paths (drop i list))) where
  -- the next byte belongs to the path
  pub path-more : get_or list i 0 ≢ 0 → listed_paths list ≡ extended (take (i + 1) list) (listed_paths (drop (i + 1) list))
  path-more other =
      let rest = listed_paths (drop (i + 1) list) in
      so_far ∙ ap (extended (take i list)) (at_drop_more listed_paths list i 0 under ∙ listed-more (get_or list i 0) (drop (i + 1) list) other)
      ∙ sym (extended-more (take i list) (get_or list i 0) rest) ∙ ap (λ (p : List ℕ). extended p rest) (sym (take_more list i 0 under))

  -- the next byte ends it
  pub path-ended : get_or list i 0 ≡ 0 → listed_paths list ≡ take i list ∷ listed_paths (drop (i + 1) list)
  path-ended is =
      so_far ∙ ap (extended (take i list)) (at_drop_more listed_paths list i 0 under ∙ listed-ended (get_or list i 0) (drop (i + 1) list) is)
      ∙ extended-ended (take i list) (listed_paths (drop (i + 1) list))

-- the last path
pub path-last : (list : List ℕ) → 0 < length list → listed_paths list ≡ extended list [] → listed_paths list ≡ list ∷ []
path-last [] some is = absurd (omega arith)
path-last (b ∷ list) some is = is ∙ extended-last b list
