-- The table of the fragments that were read.
use Rattle.std.proofs.Common.{◌≡◌, ℕ, List, Option, None, Some, ap, get_or}
use Rattle.std.specs.Prelude.{option_map}
use Rattle.cfm_closure.specs.declared.fragment.FragmentView.{FragmentView}
use Rattle.cfm_closure.specs.Kept.Views.{fragment_at}
use Rattle.cfm_closure.specs.Views.{fragment_seen}

-- the fragment in a place of a table is the store's
pub fragment_at-some : (table : List (Option FragmentView)) (p : ℕ) (f : FragmentView) → get_or table p None ≡ Some f → fragment_at table p ≡ Some (fragment_seen f)
fragment_at-some table p f is = ap (option_map fragment_seen) is
