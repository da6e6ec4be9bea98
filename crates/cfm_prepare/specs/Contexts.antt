-- Contexts: which connections are open, and which fragments are present in memory for them (Mac OS Runtime
-- Architectures, "Code Fragment Manager", "Preparing a Fragment", "Releasing Fragments"). That there is one
-- context, whose fragments are shared by all its connections, and how connections are numbered, is this
-- project's own rule.
use Rattle.std.specs.Prelude.{◌==◌, ℕ, Bool, false, true, List, [], ◌∷◌, Option, None, Some, if◌then◌else◌}
use Rattle.cfm_memory.specs.Extents.{empty_memory}
use Rattle.cfm_memory.specs.Instances.{Layout}
use Rattle.cfm_memory.specs.declared.place.Reserved.{Reserved}
use Rattle.cfm_store.specs.Additions.{with_put, without_pair}
use Rattle.cfm_store.specs.Stores.{Pair}
use Rattle.cfm_closure.specs.Closures.{Closed}
use Rattle.cfm_prepare.specs.Fragments.{Present, new_among}
use Rattle.cfm_prepare.specs.Lists.{has}
use Rattle.cfm_prepare.specs.Options.{Bounds, Choices, usual_choices}
pub use Rattle.cfm_prepare.specs.Options.{most_connections}

-- an open connection: its number, the requested fragment by its place in the store, that fragment's closure, and the
-- fragments that its preparation placed, in the order of their initialization
pub record Open : Type 0 where
  pub number : ℕ
  pub root : ℕ
  pub closed : Closed
  pub placed : List ℕ

-- a context: what its preparations may take, its store and its memory, how many numbers were given, the open connections,
-- and the fragments that are present
pub record ContextState : Type 0 where
  pub bounds : Bounds
  pub pairs : List Pair
  pub memory : Layout
  pub given : ℕ
  pub connections : List Open
  pub present : List Present

-- nothing was prepared in a context that was made with some choices
abbrev pub made_state : List Pair → Choices → ContextState
made_state pairs choices = record { bounds = choices.bounds; pairs = pairs; memory = empty_memory choices.granule choices.limit; given = 0; connections = []; present = [] }

-- nothing was prepared in a context that was made with a limit alone
abbrev pub fresh_state : List Pair → ℕ → ContextState
fresh_state pairs limit = made_state pairs (usual_choices limit)

-- nothing was prepared, and some ranges of addresses are out of use
abbrev pub unused_state : List Pair → Choices → List Reserved → ContextState
unused_state pairs choices ranges = record (made_state pairs choices) { memory = record (empty_memory choices.granule choices.limit) { reserved = ranges } }

-- a context with one fragment more in its store: in the free place for it, or else after the others
abbrev pub added : ContextState → List ℕ → List ℕ → ContextState
added s name bytes = record s { pairs = with_put s.pairs (record { name = name; bytes = bytes; free = false }) }

-- a context without the fragment in a place of its store, which is free then
abbrev pub removed : ContextState → ℕ → ContextState
removed s p = record s { pairs = without_pair s.pairs p }

-- the connection that a preparation opens to a fragment with a closure
abbrev pub opened : ContextState → ℕ → Closed → Open
opened s root c = record { number = s.given; root = root; closed = c; placed = new_among s.present c.init_order }

-- the open connection with a number
abbrev pub open_of : List Open → ℕ → Option Open
open_of [] number = None
open_of (o ∷ os) number = if o.number == number then Some o else open_of os number

-- the open connections without the one with a number
abbrev pub open_without : List Open → ℕ → List Open
open_without [] number = []
open_without (o ∷ os) number = if o.number == number then os else o ∷ open_without os number

-- whether an open connection's closure has a fragment
abbrev pub is_needed : List Open → ℕ → Bool
is_needed [] p = false
is_needed (o ∷ os) p = if has o.closed.order p then true else is_needed os p

-- the fragments in the closure of an open connection
abbrev pub needed_of : List Open → List Present → List Present
needed_of connections [] = []
needed_of connections (f ∷ fs) = if is_needed connections f.position then f ∷ needed_of connections fs else needed_of connections fs

-- the fragments in none
abbrev pub unneeded_of : List Open → List Present → List Present
unneeded_of connections [] = []
unneeded_of connections (f ∷ fs) = if is_needed connections f.position then unneeded_of connections fs else f ∷ unneeded_of connections fs
