-- The search for missing libraries, with a path in place of the recursion.
use Rattle.std.specs.Prelude.{◌≡◌, ℕ, zero, suc, ◌+◌, ◌*◌, ◌-◌, ◌<◌, ◌≤◌, Bool, false, List, [], ◌∷◌, length, Option, None, Some, Result, Ok, Err}
use Rattle.pef_loader.specs.Views.{loaded}
use Rattle.pef_words.specs.Results.{◌>>=◌}
use Rattle.cfm_closure.specs.declared.fault.BindFault.{BindFault}
use Rattle.cfm_closure.specs.declared.fragment.FragmentView.{FragmentView}
use Rattle.cfm_closure.specs.declared.missing.Served.{Served}
use Rattle.cfm_closure.specs.declared.missing.Served.TheVariants.{By, ByNone}
use Rattle.cfm_closure.specs.declared.search.Search.{Search}
use Rattle.cfm_closure.specs.declared.search.Visit.{Visit}
use Rattle.cfm_closure.specs.Faults.{BindRefusal, FailsAs}
use Rattle.cfm_closure.specs.Kept.Views.{AreRead}
use Rattle.cfm_closure.specs.Missing.{Sought, search, search_from, was_visited}
use Rattle.cfm_store.specs.Stores.{Pair}
use Rattle.cfm_closure.specs.Walk.{left}

-- a served entry has a fragment of the store
abbrev pub IsServedBelow : ℕ → Served → Type 0
IsServedBelow n (By q) = q < n
IsServedBelow n (ByNone found) = Unit {0}

-- the rest of a visit: the entries from the next one on, each of whose fragments visits at most n others
abbrev pub rest_of_visit : ℕ → List Pair → Visit → Sought → Result Sought BindRefusal
rest_of_visit n pairs v s = search_from (search n pairs) pairs v.p (loaded v.loader) v.next ((loaded v.loader).header.library_count - v.next) s

-- the rest of a path, the last visit first. The first visit may have at most n others within
abbrev pub rest_of_visits : ℕ → List Pair → List Visit → Sought → Result Sought BindRefusal
rest_of_visits n pairs [] s = Ok s
rest_of_visits zero pairs (v ∷ path) s = Ok s
rest_of_visits (suc n) pairs (v ∷ path) s = rest_of_visits n pairs path s >>= rest_of_visit n pairs v

-- the walk to a fragment, if there is one
abbrev pub search_next : ℕ → List Pair → Option ℕ → Sought → Result Sought BindRefusal
search_next n pairs None s = Ok s
search_next n pairs (Some q) s = search n pairs q s

-- the walk to a fragment, and the rest of a visit after it; without a fragment the visit is done
abbrev pub next_and_rest : ℕ → List Pair → Visit → Option ℕ → Sought → Result Sought BindRefusal
next_and_rest n pairs v None s = Ok s
next_and_rest n pairs v (Some q) s = search n pairs q s >>= rest_of_visit n pairs v

-- the walk to a fragment after the last one of a path, and the rest of the path
abbrev pub search_and_rest : ℕ → List Pair → ℕ → List Visit → Sought → Result Sought BindRefusal
search_and_rest n pairs q path s = search (n - length path) pairs q s >>= rest_of_visits n pairs path

-- the rest of a visit after the last one of a path, and the rest of the path
abbrev pub visit_and_rest : ℕ → List Pair → Visit → List Visit → Sought → Result Sought BindRefusal
visit_and_rest n pairs v path s = rest_of_visit (n - (length path + 1)) pairs v s >>= rest_of_visits n pairs path

-- a result leads to what is expected, or is the expected refusal
abbrev pub Leads : {A : Type 0} → Result A BindFault → (A → Result Sought BindRefusal) → Result Sought BindRefusal → Type 0
Leads (Ok x) on expected = expected ≡ on x
Leads (Err e) on expected = FailsAs e expected

-- a fragment that is next is one of the store that wasn't visited
abbrev pub IsNext : ℕ → Sought → Option ℕ → Type 0
IsNext n s None = Unit {0}
IsNext n s (Some q) = (q < n) × (was_visited s q ≡ false)

abbrev pub sought_of : Search → Sought
sought_of s = record { marked = s.marked.items; missing = s.missing }

-- how many fragments weren't visited
abbrev pub unvisited : List Bool → ℕ
unvisited marked = left (record { marked = marked; order = [] })

-- the tables of a search are sound
pub record AreSought (pairs : List Pair) (fragments : List (Option FragmentView)) (marked : List Bool) : Type 0 where
  pub fragments_size : length fragments ≡ length pairs
  pub marked_size : length marked ≡ length pairs
  pub read : AreRead pairs fragments

-- and the path has no more visits than fragments that were visited
pub record IsSearch (pairs : List Pair) (s : Search) : Type 0 where
  pub tables : AreSought pairs s.fragments s.marked.items
  pub room : length s.path.items + unvisited s.marked.items ≤ length pairs

-- the steps left: two for each fragment that wasn't visited, one for each visit
abbrev pub searches_left : Search → ℕ
searches_left s = 2 * unvisited s.marked.items + length s.path.items
