-- Properties of closures apart from their definitions.
use Rattle.std.specs.Prelude.{◌≡◌, ◌≢◌, ◌⊎◌, ⊤, ℕ, zero, suc, ◌<◌, Bool, true, List, [], ◌∷◌, ◌++◌, length, Option, None, Some, Result, Ok, Err, Contains}
use Rattle.std.specs.List.{AllByRecursion}
use Rattle.std.specs.Option.{option_map_or}
use Rattle.pef_format.specs.Symbols.{options_of}
use Rattle.pef_format.specs.declared.place.Place.{Place}
use Rattle.pef_loader.specs.Library.{Library}
use Rattle.pef_loader.specs.Loader.{IsLoader, Loaded, library_of}
use Rattle.cfm_store.specs.Stores.{Pair, pair_of, place_of}
use Rattle.cfm_closure.specs.Faults.{BindRefusal, implementation_too_new, implementation_too_old, init_loop, library_missing, no_container, no_loader, reexport_loop, symbol_missing}
use Rattle.cfm_closure.specs.Fragments.{Fragment, fragment_of, import_count, import_place, loader_at}
use Rattle.cfm_closure.specs.Missing.{Missing, missing_entry, serving}
use Rattle.cfm_closure.specs.Walk.{order_of}
use Rattle.cfm_closure.specs.declared.missing.Served.TheVariants.{By, ByNone}
use Rattle.cfm_closure.specs.declared.versions.Implementation.{Implementation}
use Rattle.cfm_closure.specs.declared.targets.Target.{Target}
use Rattle.cfm_closure.specs.declared.targets.Target.TheVariants.{Absolute, At}
use Rattle.cfm_closure.specs.Reexports.{MeetsAgain}
use Rattle.cfm_closure.specs.Targets.{exports_among, follow, symbol_of, target_of}

-- the loader section of a fragment is one of its container
pub record IsSound (f : Fragment) : Type 0 where
  pub loader : IsLoader f.loader
  pub sections : f.loader.sections ≡ f.container.header.instantiated_section_count

-- all fragments of a store are read
abbrev pub AllRead : List Pair → Type 0
AllRead pairs = (p : ℕ) → p < length pairs → (f : Fragment) × (fragment_of pairs p ≡ Ok f)

-- a refusal is one of libraries, of symbols or of the order of initialization, and not of a fragment's bytes
abbrev pub IsOfBinding : BindRefusal → Type 0
IsOfBinding (no_container f v) = ⊥
IsOfBinding (no_loader f v place) = ⊥
IsOfBinding (library_missing f l place) = ⊤
IsOfBinding (symbol_missing f l s place) = ⊤
IsOfBinding (implementation_too_old f l place needed found) = ⊤
IsOfBinding (implementation_too_new f l place needed found) = ⊤
IsOfBinding (reexport_loop f s place) = ⊤
IsOfBinding (init_loop f place) = ⊤

-- a refusal is one of the bytes of a fragment of the store, which is the root or the first with the name
-- that is reported: never a fragment whose bytes are read
pub record IsOfUnread (pairs : List Pair) (root : ℕ) (name : List ℕ) (refusal : BindRefusal) : Type 0 where
  pub position : ℕ
  pub inside : position < length pairs
  pub named : (pair_of pairs position).name ≡ name
  pub found : (position ≡ root) ⊎ (place_of pairs name ≡ Some position)
  pub refused : fragment_of pairs position ≡ Err refusal

-- a section is an instantiated one of a fragment of an order
pub record HasSection (pairs : List Pair) (order : List ℕ) (fragment section : ℕ) : Type 0 where
  pub member : Contains order fragment
  pub place : fragment < length pairs
  pub loader : Loaded
  pub read : loader_at pairs fragment ≡ Some loader
  pub below : section < loader.sections

-- a target that is a place is in a section that an order has
abbrev pub LiesInside : List Pair → List ℕ → Option Target → Type 0
LiesInside pairs order None = ⊤
LiesInside pairs order (Some (Absolute n)) = ⊤
LiesInside pairs order (Some (At fragment section offset)) = HasSection pairs order fragment section

-- an import isn't refused
abbrev pub HasTarget : List Pair → ℕ → ℕ → Type 0
HasTarget pairs p j = (target : Option Target) × (target_of pairs p j ≡ Ok target)

-- the closure order of a root has a fragment with an import, with these names and in this place, from which an
-- export is visited a second time; no import before that one is refused
pub record IsEndless (pairs : List Pair) (root : ℕ) (fragment symbol : List ℕ) (place : Place) : Type 0 where
  pub before : List ℕ
  pub position : ℕ
  pub later : List ℕ
  pub walked : order_of pairs root ≡ Ok (before ++ position ∷ later)
  pub index : ℕ
  pub below : index < import_count pairs position
  pub name : (pair_of pairs position).name ≡ fragment
  pub import_name : symbol_of pairs position index ≡ symbol
  pub there : import_place pairs position index ≡ place
  pub again : MeetsAgain pairs (position, index)
  pub earlier : (p j : ℕ) → Contains before p → j < import_count pairs p → HasTarget pairs p j
  pub first : (j : ℕ) → j < index → HasTarget pairs position j

-- the target of an import, if only the exports of some fragments are counted
abbrev pub target_within : List Pair → List ℕ → ℕ → ℕ → Result (Option Target) BindRefusal
target_within pairs order p j =
    option_map_or (λ answer. answer) (follow (exports_among pairs order) pairs p j) (Err (reexport_loop (pair_of pairs p).name (symbol_of pairs p j) (import_place pairs p j)))

-- an entry of a fragment is served by another one
pub record IsEntryTo (pairs : List Pair) (from to : ℕ) : Type 0 where
  pub fragment : Fragment
  pub read : fragment_of pairs from ≡ Ok fragment
  pub index : ℕ
  pub library : Library
  pub entry : library_of fragment.loader index ≡ Some library
  pub serves : serving pairs library ≡ Ok (By to)

-- n entries lead from a root to a fragment, each from the fragment that serves the one before it
abbrev pub LeadsIn : List Pair → ℕ → ℕ → ℕ → Type 0
LeadsIn pairs root zero p = p ≡ root
LeadsIn pairs root (suc n) p = (q : ℕ) × LeadsIn pairs root n q × IsEntryTo pairs q p

-- a fragment is the root, or entries lead to it
abbrev pub IsSought : List Pair → ℕ → ℕ → Type 0
IsSought pairs root p = (n : ℕ) × LeadsIn pairs root n p

-- a missing library is an entry of the root or of a fragment to which entries lead, and no fragment serves it
pub record IsLacking (pairs : List Pair) (root : ℕ) (m : Missing) : Type 0 where
  pub sought : IsSought pairs root m.fragment
  pub fragment : Fragment
  pub read : fragment_of pairs m.fragment ≡ Ok fragment
  pub index : ℕ
  pub library : Library
  pub entry : library_of fragment.loader index ≡ Some library
  pub none : serving pairs library ≡ Ok (ByNone m.found)
  pub is : m ≡ missing_entry m.fragment library m.found

-- one of the missing libraries has a name, and is weak only if an entry with this name is
abbrev pub IsListed : List ℕ → Bool → List Missing → Type 0
IsListed name weak [] = ⊥
IsListed name weak (m ∷ ms) = ((m.name ≡ name) × (m.weak ≡ true → weak ≡ true)) ⊎ IsListed name weak ms

-- a fragment is read, and each of its entries that no fragment serves is among the missing libraries
pub record LacksOnly (pairs : List Pair) (ms : List Missing) (p : ℕ) : Type 0 where
  pub fragment : Fragment
  pub read : fragment_of pairs p ≡ Ok fragment
  pub listed : (l : ℕ) (library : Library) (found : Option Implementation) → library_of fragment.loader l ≡ Some library → serving pairs library ≡ Ok (ByNone found) → IsListed library.name (options_of library.fields.options).weak ms

-- each of the missing libraries has a name of its own
abbrev pub AreApart : List Missing → Type 0
AreApart [] = ⊤
AreApart (m ∷ ms) = AllByRecursion (λ other. m.name ≢ other.name) ms × AreApart ms

-- each of the missing libraries is weak
abbrev pub AreWeak : List Missing → Type 0
AreWeak ms = AllByRecursion (λ m. m.weak ≡ true) ms
