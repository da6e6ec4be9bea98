-- The libraries that a fragment needs and that its store lacks (docs/RULES.md, "Missing libraries"; Mac OS Runtime Architectures,
-- "Code Fragment Manager", "Preparing a Fragment"). They are found by the walk of the closure, but a library that no
-- fragment serves is noted and passed by, whether it is weak or not.
use Rattle.std.specs.Prelude.{ℕ, zero, suc, ◌+◌, Bool, true, false, not, ◌&&◌, List, [], ◌∷◌, length, replicate, slice_index_or, slice_set, Option, None, Some, Result, Ok, if◌then◌else◌}
use Rattle.std.specs.Str.{bytes_eq}
use Rattle.pef_format.specs.Symbols.{options_of}
use Rattle.pef_loader.specs.Library.{Library}
use Rattle.pef_loader.specs.Loader.{Loaded, library_of}
use Rattle.pef_words.specs.Results.{◌>>=◌}
use Rattle.cfm_closure.specs.declared.missing.Served.{Served}
use Rattle.cfm_closure.specs.declared.missing.Served.TheVariants.{By, ByNone}
use Rattle.cfm_closure.specs.declared.versions.Definition.{Definition}
use Rattle.cfm_closure.specs.declared.versions.Implementation.{Implementation}
use Rattle.cfm_closure.specs.declared.versions.Fit.{Fit}
use Rattle.cfm_closure.specs.declared.versions.Fit.TheVariants.{Fits, TooOld, TooNew}
use Rattle.cfm_store.specs.Stores.{Pair, place_of}
use Rattle.cfm_closure.specs.Faults.{BindRefusal}
use Rattle.cfm_closure.specs.Fragments.{Fragment, fragment_of}
use Rattle.cfm_closure.specs.Libraries.{definition_of, fit_with, implementation_of}

-- a library that no fragment serves: its name, the versions of the entry, those of the fragment with this name if there
-- is one, whether the entry is weak, and the fragment with the entry, by its place in the store
pub record Missing : Type 0 where
  pub name : List ℕ
  pub needed : Definition
  pub found : Option Implementation
  pub weak : Bool
  pub fragment : ℕ

-- entry `library` of the fragment in a place, which no fragment serves
abbrev pub missing_entry : ℕ → Library → Option Implementation → Missing
missing_entry p l found = record { name = l.name; needed = definition_of l; found = found; weak = (options_of l.fields.options).weak; fragment = p }

-- if two entries have one name, the first that isn't weak is used, or the first if both are weak
abbrev pub stricter : Missing → Missing → Missing
stricter x m = if x.weak && not m.weak then m else x

-- an entry is noted: each name once, in its first place, with the first entry that isn't weak, if there is one
unfoldable pub noted : List Missing → Missing → List Missing
noted [] m = m ∷ []
noted (x ∷ xs) m = if bytes_eq m.name x.name then stricter x m ∷ xs else x ∷ noted xs m

-- the found fragment serves an entry if its versions fit
abbrev pub serving_by : Fit → Fragment → ℕ → Served
serving_by Fits g q = By q
serving_by TooOld g q = ByNone (Some (implementation_of g))
serving_by TooNew g q = ByNone (Some (implementation_of g))

-- the found fragment is read, also for a weak library
abbrev pub serving_at : List Pair → Library → Option ℕ → Result Served BindRefusal
serving_at pairs l None = Ok (ByNone None)
serving_at pairs l (Some q) = fragment_of pairs q >>= (λ g. Ok (serving_by (fit_with l g) g q))

-- what serves a library entry: the first fragment with its name, if its versions fit
unfoldable pub serving : List Pair → Library → Result Served BindRefusal
serving pairs l = serving_at pairs l (place_of pairs l.name)

-- which fragments of the store were visited, and what is noted
pub record Sought : Type 0 where
  pub marked : List Bool
  pub missing : List Missing

-- a fragment was visited; past the store every fragment counts as visited
abbrev pub was_visited : Sought → ℕ → Bool
was_visited s p = slice_index_or s.marked p true

abbrev pub visiting : ℕ → Sought → Sought
visiting p s = record s { marked = slice_set s.marked p true }

abbrev pub noting : Missing → Sought → Sought
noting m s = record s { missing = noted s.missing m }

-- an entry leads to the fragment that serves it, or is noted
abbrev pub search_by : (ℕ → Sought → Result Sought BindRefusal) → ℕ → Library → Sought → Served → Result Sought BindRefusal
search_by search p l s (By q) = search q s
search_by search p l s (ByNone found) = Ok (noting (missing_entry p l found) s)

abbrev pub search_entry : (ℕ → Sought → Result Sought BindRefusal) → List Pair → ℕ → Option Library → Sought → Result Sought BindRefusal
search_entry search pairs p None s = Ok s
search_entry search pairs p (Some l) s = serving pairs l >>= search_by search p l s

-- the n entries of a fragment from entry l on are searched, in their order
abbrev pub search_from : (ℕ → Sought → Result Sought BindRefusal) → List Pair → ℕ → Loaded → ℕ → ℕ → Sought → Result Sought BindRefusal
search_from search pairs p loader l zero s = Ok s
search_from search pairs p loader l (suc n) s = search_entry search pairs p (library_of loader l) s >>= search_from search pairs p loader (l + 1) n

-- a fragment that was visited is passed by. Any other is marked and read, and its entries are searched
abbrev pub search_at : (ℕ → Sought → Result Sought BindRefusal) → List Pair → ℕ → Sought → Bool → Result Sought BindRefusal
search_at search pairs p s true = Ok s
search_at search pairs p s false =
    fragment_of pairs p >>= (λ f. search_from search pairs p f.loader 0 f.loader.header.library_count (visiting p s))

-- the walk from a fragment that visits at most n others, one within another: as many as the store has are enough
unfoldable pub search : ℕ → List Pair → ℕ → Sought → Result Sought BindRefusal
search zero pairs p s = Ok s
search (suc n) pairs p s = search_at (search n pairs) pairs p s (was_visited s p)

-- no fragment was visited
abbrev pub unsought : List Pair → Sought
unsought pairs = record { marked = replicate (length pairs) false; missing = [] }

-- the libraries that no fragment serves, in the order of the walk from a fragment, or the refusal of a fragment that
-- can't be read
unfoldable pub missing_of : List Pair → ℕ → Result (List Missing) BindRefusal
missing_of pairs root = search (length pairs) pairs root (unsought pairs) >>= (λ s. Ok s.missing)
