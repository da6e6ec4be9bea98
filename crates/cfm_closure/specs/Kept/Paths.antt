-- The state of the walk, in place of a recursion: the fragments that were visited and aren't done, each with its
-- library entries that are.
use Rattle.std.specs.Prelude.{◌≡◌, ℕ, ◌+◌, ◌-◌, ◌*◌, ◌<◌, ◌≤◌, Bool, false, List, [], ◌∷◌, length, slice_get, slice_index_or, Option, None, Some, Result, Ok, Err}
use Rattle.std.specs.List.{AllByRecursion}
use Rattle.cfm_store.specs.Stores.{Pair}
use Rattle.pef_words.specs.Results.{◌>>=◌}
use Rattle.cfm_closure.specs.declared.fault.BindFault.{BindFault}
use Rattle.cfm_closure.specs.declared.fragment.ClosedFragment.{ClosedFragment}
use Rattle.cfm_closure.specs.declared.fragment.FragmentView.{FragmentView}
use Rattle.cfm_closure.specs.declared.walk.Frame.{Frame}
use Rattle.cfm_closure.specs.declared.walk.Walk.{Walk}
use Rattle.cfm_closure.specs.Faults.{BindRefusal, FailsAs}
use Rattle.cfm_closure.specs.Fragments.{fragment_of}
use Rattle.cfm_closure.specs.Libraries.{bound_to}
use Rattle.cfm_closure.specs.Walk.{Walked, is_marked, joining, left, walk, walks_from}
use Rattle.cfm_closure.specs.Kept.Targets.{AreRight}
use Rattle.cfm_closure.specs.Kept.Views.{AreRead, fragment_at}
use Rattle.cfm_closure.specs.Views.{fragment_seen}

-- the walk from a fragment, with steps enough for the whole store
abbrev pub visit : List Pair → ℕ → Walked → Result Walked BindRefusal
visit pairs p s = walk (length pairs) pairs p s

-- the rest of it in fragment p with this many libraries, when the walks to those before entry l are done
abbrev pub rest_of : List Pair → ℕ → ℕ → ℕ → Walked → Result Walked BindRefusal
rest_of pairs p l count s = walks_from (visit pairs) pairs p l (count - l) s >>= (λ s. Ok (joining p s))

abbrev pub count_of : Frame → ℕ
count_of f = (fragment_seen f.fragment).loader.header.library_count

-- the rest of the walk in a frame of the path
abbrev pub rest_of_frame : List Pair → Frame → Walked → Result Walked BindRefusal
rest_of_frame pairs f s = rest_of pairs f.p (length f.libraries) (count_of f) s

-- and for the whole path, the last frame first
abbrev pub rest_of_path : List Pair → List Frame → Walked → Result Walked BindRefusal
rest_of_path pairs [] s = Ok s
rest_of_path pairs (f ∷ path) s = rest_of_path pairs path s >>= rest_of_frame pairs f

-- the rest of the path after the walk from a fragment, and after the rest of a frame
abbrev pub visit_and_rest : List Pair → ℕ → List Frame → Walked → Result Walked BindRefusal
visit_and_rest pairs p path s = visit pairs p s >>= rest_of_path pairs path

abbrev pub frame_and_rest : List Pair → Frame → List Frame → Walked → Result Walked BindRefusal
frame_and_rest pairs f path s = rest_of_frame pairs f s >>= rest_of_path pairs path

-- the library entries of a fragment that were bound have these fragments
abbrev pub AreBound : List Pair → ℕ → List (Option ℕ) → Type 0
AreBound pairs p bounds = (l : ℕ) (bound : Option ℕ) → slice_get bounds l ≡ Some bound → bound_to pairs p l ≡ Ok bound

-- a frame is one of a fragment that was read, whose first library entries were bound
pub record IsFrame (pairs : List Pair) (table : List (Option FragmentView)) (f : Frame) : Type 0 where
  pub inside : f.p < length pairs
  pub read : fragment_at table f.p ≡ Some (fragment_seen f.fragment)
  pub bound : AreBound pairs f.p f.libraries
  pub few : length f.libraries ≤ count_of f

-- a fragment that is done was read, all its library entries were bound, and the targets of its imports that are
-- known are right
pub record IsClosed (pairs : List Pair) (p : ℕ) (f : ClosedFragment) : Type 0 where
  pub read : fragment_of pairs p ≡ Ok (fragment_seen f.view)
  pub bound : AreBound pairs p f.libraries
  pub all : length f.libraries ≡ (fragment_seen f.view).loader.header.library_count
  pub imports : length f.targets ≡ (fragment_seen f.view).loader.header.import_count
  pub right : AreRight pairs p f.targets

-- one is in this place
pub record IsWalked (pairs : List Pair) (closed : List (Option ClosedFragment)) (p : ℕ) : Type 0 where
  pub inside : p < length pairs
  pub fragment : ClosedFragment
  pub stands : slice_index_or closed p None ≡ Some fragment
  pub is : IsClosed pairs p fragment

abbrev pub state_of : Walk → Walked
state_of w = record { marked = w.marked.items; order = w.order.items }

-- the tables of a walk are sound
pub record AreTables (pairs : List Pair) (fragments : List (Option FragmentView)) (closed : List (Option ClosedFragment)) (marked : List Bool) (path : List Frame) (order : List ℕ) : Type 0 where
  pub fragments_size : length fragments ≡ length pairs
  pub closed_size : length closed ≡ length pairs
  pub marked_size : length marked ≡ length pairs
  pub read : AreRead pairs fragments
  pub frames : AllByRecursion (IsFrame pairs fragments) path
  pub walked : AllByRecursion (IsWalked pairs closed) order

abbrev pub IsWalk : List Pair → Walk → Type 0
IsWalk pairs w = AreTables pairs w.fragments w.closed w.marked.items w.path.items w.order.items

-- a result continues with the rest, or is the expected refusal
abbrev pub Continues : {A : Type 0} → Result A BindFault → Result Walked BindRefusal → Result Walked BindRefusal → Type 0
Continues (Ok done) now expected = expected ≡ now
Continues (Err e) now expected = FailsAs e expected

-- the rest of a frame: the walk to the next fragment that wasn't visited and the rest of the frame, or only that
-- the fragment joins the order
abbrev pub NextOf : List Pair → Walked → Frame → Frame → Option ℕ → Type 0
NextOf pairs s before now None = (rest_of_frame pairs before s ≡ Ok (joining before.p s)) × (length now.libraries ≡ count_of now)
NextOf pairs s before now (Some q) = (rest_of_frame pairs before s ≡ (visit pairs q s >>= rest_of_frame pairs now)) × (is_marked s q ≡ false) × (q < length pairs)

-- what the rest of a frame is, by the result of the search for the next fragment
abbrev pub Next : List Pair → Walked → Frame → Frame → Result (Option ℕ) BindFault → Type 0
Next pairs s before now (Ok next) = NextOf pairs s before now next
Next pairs s before now (Err e) = FailsAs e (rest_of_frame pairs before s)

-- a frame of the same fragment
pub record IsSameFrame (old new : Frame) : Type 0 where
  pub p : new.p ≡ old.p
  pub fragment : new.fragment ≡ old.fragment

-- the steps left: two for each fragment that wasn't visited, one for each that isn't done
abbrev pub steps_left : Walk → ℕ
steps_left w = 2 * left (state_of w) + length w.path.items
