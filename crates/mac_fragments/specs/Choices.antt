-- Which of several fragments a name means in a preparation (docs/RULES.md, "Which fragment a name means"; Mac OS Runtime
-- Architectures, "Code Fragment Manager"). That the best of a name is taken from all files at once is this project's own.
use Rattle.std.specs.Prelude.{◌≡◌, ◌⊎◌, ◌≤◌, ℕ, zero, suc, ◌+◌, ◌^◌, ◌==◌, ◌&&◌, ◌||◌, not, Bool, true, false, List, [], ◌∷◌, Option, None, Some, map, nat_lt, if◌then◌else◌}
use Rattle.std.specs.List.{list_all, slice_get}
use Rattle.std.specs.Option.{option_and_then, option_map_or}
use Rattle.std.specs.Result.{result_ok}
use Rattle.std.specs.Str.{bytes_eq}
use Rattle.pef_loader.specs.Library.{Library}
use Rattle.pef_loader.specs.Loader.{Loaded, library_of}
use Rattle.pef_views.specs.Container.{container_of}
use Rattle.cfm_closure.specs.Fragments.{Fragment, with_container}
use Rattle.cfm_closure.specs.Libraries.{fit_with}
use Rattle.cfm_closure.specs.declared.versions.Fit.{Fit}
use Rattle.cfm_closure.specs.declared.versions.Fit.TheVariants.{Fits, TooOld, TooNew}
use Rattle.mac_fragments.specs.Candidates.{CandidateIs}

-- a candidate as it is read, if its container and its loader section have no error. One for another architecture has one
unfoldable pub fragment_of : CandidateIs → Option Fragment
fragment_of c = result_ok (with_container c.name (container_of c.bytes))

-- the versions of a fragment fit an entry of another one, unless that names another library
abbrev pub is_fit : Fit → Bool
is_fit Fits = true
is_fit TooOld = false
is_fit TooNew = false

abbrev pub suits_entry : Fragment → Option Library → Bool
suits_entry f None = true
suits_entry f (Some l) = not (bytes_eq l.name f.name) || is_fit (fit_with l f)

-- .. and each of its n entries from entry k on
abbrev pub suits_from : Fragment → Loaded → ℕ → ℕ → Bool
suits_from f loader k zero = true
suits_from f loader k (suc n) = suits_entry f (library_of loader k) && suits_from f loader (k + 1) n

-- .. and each of all, if it can be read
abbrev pub suits : Fragment → Option Fragment → Bool
suits f None = true
suits f (Some g) = suits_from f g.loader 0 g.loader.header.library_count

-- how good a fragment is, among some: 0 if it can't be read. The newest is best, and any that suits all is better than one that doesn't
abbrev pub bonus : Bool → ℕ
bonus suits_all = if suits_all then 2 ^ 32 else 0

abbrev pub rank : List (Option Fragment) → Option Fragment → ℕ
rank fragments None = 0
rank fragments (Some f) = f.container.header.current_version + 1 + bonus (list_all (suits f) fragments)

-- a candidate with its rank. It is a library if its usage is 0
pub record Ranked : Type 0 where
  pub name : List ℕ
  pub usage : ℕ
  pub rank : ℕ

abbrev pub ranked_among : List (Option Fragment) → CandidateIs → Ranked
ranked_among fragments c = record { name = c.name; usage = c.usage; rank = rank fragments (fragment_of c) }

unfoldable pub ranked : List CandidateIs → List Ranked
ranked candidates = map (ranked_among (map fragment_of candidates)) candidates

-- the better of two: the one with the greater rank, or the first if both have the same
pub record Place : Type 0 where
  pub place : ℕ
  pub rank : ℕ

abbrev pub better_of : Place → Place → Place
better_of a b = if nat_lt a.rank b.rank then b else a

abbrev pub better : Option Place → Option Place → Option Place
better None b = b
better (Some a) None = Some a
better (Some a) (Some b) = Some (better_of a b)

-- the place of a candidate, if it is a library with a name
abbrev pub own_place : List ℕ → ℕ → Ranked → Option Place
own_place name at r = if r.usage == 0 && bytes_eq r.name name then Some (record { place = at; rank = r.rank }) else None

-- the best library with a name. The first candidate is in place at
abbrev pub best : List ℕ → ℕ → List Ranked → Option Place
best name at [] = None
best name at (r ∷ rs) = better (own_place name at r) (best name (at + 1) rs)

-- a candidate is what its name means: the best library with it. The root's name means the root
abbrev pub is_at : ℕ → Option Place → Bool
is_at at None = false
is_at at (Some b) = b.place == at

abbrev pub is_meant : List Ranked → List ℕ → ℕ → Ranked → Bool
is_meant all root at r = r.usage == 0 && not (bytes_eq r.name root) && is_at at (best r.name 0 all)

-- the places of the candidates that their names mean
abbrev pub meant_from : List Ranked → List ℕ → ℕ → List Ranked → List ℕ
meant_from all root at [] = []
meant_from all root at (r ∷ rs) = if is_meant all root at r then at ∷ meant_from all root (at + 1) rs else meant_from all root (at + 1) rs

-- the name of the candidate in a place
abbrev pub name_at : List Ranked → ℕ → List ℕ
name_at all at = option_map_or (λ r. r.name) (slice_get all at) []

-- the root, and of each other name the candidate that it means, in the order of the candidates
abbrev pub chosen_of : List Ranked → ℕ → List ℕ
chosen_of all root = root ∷ meant_from all (name_at all root) 0 all

unfoldable pub chosen : List CandidateIs → ℕ → List ℕ
chosen candidates root = chosen_of (ranked candidates) root

-- chosen candidate k
abbrev pub chosen_at : List CandidateIs → ℕ → ℕ → Option CandidateIs
chosen_at candidates root k = option_and_then (slice_get candidates) (slice_get (chosen candidates root) k)

-- the rank of a candidate among all
abbrev pub rank_in : List CandidateIs → CandidateIs → ℕ
rank_in candidates c = rank (map fragment_of candidates) (fragment_of c)

-- a chosen candidate has the name of a library: the root, or a library that isn't worse
pub record IsServed (candidates : List CandidateIs) (root : ℕ) (c : CandidateIs) : Type 0 where
  pub index : ℕ
  pub place : ℕ
  pub candidate : CandidateIs
  pub meant : slice_get (chosen candidates root) index ≡ Some place
  pub there : slice_get candidates place ≡ Some candidate
  pub name : candidate.name ≡ c.name
  pub best : (place ≡ root) ⊎ ((candidate.usage ≡ 0) × (rank_in candidates c ≤ rank_in candidates candidate))
