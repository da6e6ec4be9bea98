-- The versions of a stub, entry by entry.
use Rattle.std.proofs.Common.{◌≡◌, ◌∙◌, ℕ, ◌+◌, ◌-◌, ◌<◌, List, ap}
use Rattle.std.specs.Prelude.{Option, fold}
use Rattle.pef_loader.specs.Loader.{Loaded, library_of}
use Rattle.pef_script.specs.declared.parts.Versions.{Versions}
use Rattle.cfm_stubs.specs.Versions.{noted, own_entries, own_entry}
use Rattle.cfm_stubs.proofs.FoldLemmas.{fold-append, one_left}

-- the entries that are left are the one at a place and those after it
pub entries-next : (found : Option Versions) (l : Loaded) (library : List ℕ) (n k : ℕ) → k < n
    → fold noted found (own_entries l library k (n - k)) ≡ fold noted (fold noted found (own_entry library (library_of l k))) (own_entries l library (k + 1) (n - (k + 1)))
entries-next found l library n k under =
    ap (λ m. fold noted found (own_entries l library k m)) (one_left n k under)
    ∙ fold-append noted found (own_entry library (library_of l k)) (own_entries l library (k + 1) (n - (k + 1)))
