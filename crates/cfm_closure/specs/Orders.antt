-- The two orders of a closure, and their properties apart from their definitions.
use Rattle.std.specs.Prelude.{◌≡◌, ◌≢◌, ◌↔◌, ℕ, ◌<◌, ◌≤◌, true, List, [], ◌∷◌, ◌++◌, length, Option, Some, Ok, Contains, AllPairs}
use Rattle.pef_format.specs.Symbols.{options_of}
use Rattle.pef_loader.specs.Library.{Library}
use Rattle.pef_loader.specs.Loader.{library_of}
use Rattle.cfm_store.specs.Stores.{Pair}
use Rattle.cfm_closure.specs.Fragments.{Fragment, fragment_of}
use Rattle.cfm_closure.specs.Libraries.{bound_to}

-- a library entry wasn't refused, and its fragment, if it isn't absent, is in the order
pub record HasLibrary (pairs : List Pair) (order : List ℕ) (p l : ℕ) : Type 0 where
  pub bound : Option ℕ
  pub is : bound_to pairs p l ≡ Ok bound
  pub inside : (q : ℕ) → bound ≡ Some q → Contains order q

-- a fragment of an order was read, and has all its libraries
pub record IsMember (pairs : List Pair) (order : List ℕ) (p : ℕ) : Type 0 where
  pub place : p < length pairs
  pub fragment : Fragment
  pub read : fragment_of pairs p ≡ Ok fragment
  pub libraries : (l : ℕ) → l < fragment.loader.header.library_count → HasLibrary pairs order p l

-- a closure order has with each of its fragments all its libraries, and each fragment once
pub record IsComplete (pairs : List Pair) (order : List ℕ) : Type 0 where
  pub members : (p : ℕ) → Contains order p → IsMember pairs order p
  pub once : AllPairs (λ p q. p ≢ q) order
  pub count : length order ≤ length pairs

-- the last fragment of an order
abbrev pub EndsWith : List ℕ → ℕ → Type 0
EndsWith order p = (front : List ℕ) × (order ≡ front ++ p ∷ [])

-- library entry l of the fragment in place p wants the fragment in place q to be initialized first: the entry has
-- that option, and q is its library. An entry whose library is absent wants none
pub record WantsFirst (pairs : List Pair) (p l q : ℕ) : Type 0 where
  pub fragment : Fragment
  pub read : fragment_of pairs p ≡ Ok fragment
  pub library : Library
  pub entry : library_of fragment.loader l ≡ Some library
  pub option : (options_of library.fields.options).init_before ≡ true
  pub bound : bound_to pairs p l ≡ Ok (Some q)

-- a fragment waits for none but some others: all that its entries want first are among these
abbrev pub IsReadyAfter : List Pair → List ℕ → ℕ → Type 0
IsReadyAfter pairs before p = (l q : ℕ) → WantsFirst pairs p l q → Contains before q

-- a fragment is next after some others: it is ready after them, and each fragment that is earlier in closure order and
-- is ready after them is one of them
pub record IsNext (pairs : List Pair) (order before : List ℕ) (p : ℕ) : Type 0 where
  pub ready : IsReadyAfter pairs before p
  pub front : List ℕ
  pub rest : List ℕ
  pub place : order ≡ front ++ p ∷ rest
  pub first : (q : ℕ) → Contains front q → IsReadyAfter pairs before q → Contains before q

-- an initialization order has the fragments of a closure order, each once, and each is next after those before it
pub record IsInitOrder (pairs : List Pair) (order init_order : List ℕ) : Type 0 where
  pub same : (p : ℕ) → Contains init_order p ↔ Contains order p
  pub once : AllPairs (λ p q. p ≢ q) init_order
  pub next : (before after : List ℕ) (p : ℕ) → init_order ≡ before ++ p ∷ after → IsNext pairs order before p
