-- Lists of additions, removals, reservations, preparations and closings. Refused ones change nothing, and so are left out.
use Rattle.std.specs.Prelude.{◌≡◌, ℕ, ◌<◌, List, [], ◌∷◌, Ok, length, Contains}
use Rattle.cfm_memory.specs.Extents.{place_at}
use Rattle.cfm_memory.specs.Instances.{Layout, bytes_at}
use Rattle.cfm_memory.specs.declared.place.Place.{Place}
use Rattle.cfm_store.specs.Stores.{Pair}
use Rattle.cfm_closure.specs.Closures.{closed_of}
use Rattle.cfm_closure.specs.Fragments.{fragment_of}
use Rattle.cfm_closure.specs.Targets.{target_of}
use Rattle.cfm_prepare.specs.Contexts.{ContextState, Open}
use Rattle.cfm_prepare.specs.Removals.{Removes}
use Rattle.cfm_prepare.specs.Steps.{Adds, Closes, Prepares, PreparesAt, PutsBack, TakesOut}

-- a fragment was prepared by its name, which gave a number; or it was, with addresses for its sections; or the connection with
-- a number was closed; or a fragment
-- was added with a name and bytes; or one was removed by its name; or some bytes from an address on were taken out of use, or such
-- a range was given back
pub data Step : Type 0 where
  prepared : List ℕ → ℕ → Step
  prepared_given : List ℕ → List ℕ → ℕ → Step
  closed : ℕ → Step
  stored : List ℕ → List ℕ → Step
  taken_out : List ℕ → Step
  reserved : ℕ → ℕ → Step
  freed : ℕ → ℕ → Step

abbrev pub Takes : ContextState → Step → ContextState → Type 0
Takes s (prepared name number) t = Prepares s name number t
Takes s (prepared_given name addresses number) t = PreparesAt s name addresses number t
Takes s (closed number) t = Closes s number t
Takes s (stored name bytes) t = Adds s name bytes t
Takes s (taken_out name) t = Removes s name t
Takes s (reserved address size) t = TakesOut s address size t
Takes s (freed address size) t = PutsBack s address size t

-- steps lead from one state to another
abbrev pub Runs : ContextState → List Step → ContextState → Type 0
Runs s [] t = t ≡ s
Runs s (x ∷ xs) t = (mid : ContextState) × Takes s x mid × Runs mid xs t

-- an open connection's closure is that of its root, also if the store has got or lost pairs since it was opened: its
-- fragments and the targets of their imports are the same
pub record IsStill (pairs : List Pair) (o : Open) : Type 0 where
  pub inside : o.root < length pairs
  pub closed : closed_of pairs o.root ≡ Ok (record o.closed { pairs = pairs })
  pub fragments : (p : ℕ) → Contains o.closed.order p → fragment_of pairs p ≡ fragment_of o.closed.pairs p
  pub targets : (p j : ℕ) → Contains o.closed.order p → target_of pairs p j ≡ target_of o.closed.pairs p j

-- the closures of open connections are those of their roots
abbrev pub AreClosed : List Pair → List Open → Type 0
AreClosed pairs [] = Unit {0}
AreClosed pairs (o ∷ os) = IsStill pairs o × AreClosed pairs os

-- the instances at some places have the bytes that they had
abbrev pub Keeps : Layout → Layout → List Place → Type 0
Keeps m after places = (k : ℕ) → k < length places → bytes_at after.instances (place_at places k).address ≡ bytes_at m.instances (place_at places k).address
