-- The closure of a fragment: the fragment and all that it needs, libraries before those that need them
-- (Mac OS Runtime Architectures, "Code Fragment Manager", "Preparing a Fragment").
use Rattle.std.specs.Prelude.{ℕ, zero, suc, ◌+◌, Bool, true, false, not, List, [], ◌∷◌, ◌++◌, length, replicate, count_by, slice_index_or, slice_set, Option, None, Some, Result, Ok}
use Rattle.cfm_store.specs.Stores.{Pair}
use Rattle.pef_words.specs.Results.{◌>>=◌}
use Rattle.cfm_closure.specs.Faults.{BindRefusal}
use Rattle.cfm_closure.specs.Fragments.{fragment_of}
use Rattle.cfm_closure.specs.Libraries.{bound_to}

-- which fragments of the store were visited, and which of them are done, in order
pub record Walked : Type 0 where
  pub marked : List Bool
  pub order : List ℕ

-- a fragment was visited; past the store every fragment counts as visited
abbrev pub is_marked : Walked → ℕ → Bool
is_marked s p = slice_index_or s.marked p true

abbrev pub marking : ℕ → Walked → Walked
marking p s = record s { marked = slice_set s.marked p true }

abbrev pub joining : ℕ → Walked → Walked
joining p s = record s { order = s.order ++ p ∷ [] }

-- how many fragments weren't visited yet
abbrev pub left : Walked → ℕ
left s = count_by not s.marked

-- a walk to the fragment of a library entry, if it isn't absent
abbrev pub walk_to : (ℕ → Walked → Result Walked BindRefusal) → Option ℕ → Walked → Result Walked BindRefusal
walk_to walk None s = Ok s
walk_to walk (Some q) s = walk q s

-- walks to the fragments of the n library entries from entry l on, in their order
abbrev pub walks_from : (ℕ → Walked → Result Walked BindRefusal) → List Pair → ℕ → ℕ → ℕ → Walked → Result Walked BindRefusal
walks_from walk pairs p l zero s = Ok s
walks_from walk pairs p l (suc n) s = bound_to pairs p l >>= (λ q. walk_to walk q s >>= walks_from walk pairs p (l + 1) n)

-- a fragment that was visited is passed by. Any other is marked and read, walks lead to its libraries,
-- and it joins the order
abbrev pub walk_at : (ℕ → Walked → Result Walked BindRefusal) → List Pair → ℕ → Walked → Bool → Result Walked BindRefusal
walk_at walk pairs p s true = Ok s
walk_at walk pairs p s false =
    fragment_of pairs p >>= (λ f. walks_from walk pairs p 0 f.loader.header.library_count (marking p s) >>= (λ s. Ok (joining p s)))

-- the walk from a fragment that visits at most n others: each step marks one, so as many as are left are
-- enough
unfoldable pub walk : ℕ → List Pair → ℕ → Walked → Result Walked BindRefusal
walk zero pairs p s = Ok s
walk (suc n) pairs p s = walk_at (walk n pairs) pairs p s (is_marked s p)

-- no fragment was visited
abbrev pub unwalked : List Pair → Walked
unwalked pairs = record { marked = replicate (length pairs) false; order = [] }

-- the closure order of a fragment, or the first refusal on the way
unfoldable pub order_of : List Pair → ℕ → Result (List ℕ) BindRefusal
order_of pairs root = walk (length pairs) pairs root (unwalked pairs) >>= (λ s. Ok s.order)
