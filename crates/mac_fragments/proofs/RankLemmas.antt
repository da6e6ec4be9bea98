-- One library entry after another, and the name of the root.
use Rattle.std.proofs.Common.{◌≡◌, ℕ, zero, suc, ◌+◌, ◌-◌, ◌<◌, List, [], ◌∷◌, map, refl, ap, arith}
use Rattle.std.specs.Prelude.{◌&&◌}
use Rattle.std.specs.List.{slice_get}
use Rattle.std.specs.Option.{option_map_or}
use Rattle.pef_loader.specs.Loader.{Loaded, library_of}
use Rattle.cfm_closure.specs.Fragments.{Fragment}
use Rattle.mac_fragments.specs.Choices.{Ranked, suits_entry, suits_from}
use Rattle.mac_fragments.specs.Kept.Ranks.{ranked_seen}
use Rattle.mac_fragments.specs.declared.rank.RankedCandidate.{RankedCandidate}

-- the next entry and those after it
pub suits-next : (f : Fragment) (l : Loaded) (n k : ℕ) → k < n → suits_from f l k (n - k) ≡ (suits_entry f (library_of l k) && suits_from f l (k + 1) (n - (k + 1)))
suits-next f l n k under = (let e : n - k ≡ suc (n - (k + 1)) = omega arith in ap (suits_from f l k) e)

-- the name of a ranked candidate
pub name_ranked : (all : List RankedCandidate) (k : ℕ) → option_map_or (λ (r : Ranked). r.name) (slice_get (map ranked_seen all) k) [] ≡ option_map_or (λ (r : RankedCandidate). r.name.now) (slice_get all k) []
name_ranked [] k = refl
name_ranked (x ∷ all) zero = refl
name_ranked (x ∷ all) (suc k) = name_ranked all k
