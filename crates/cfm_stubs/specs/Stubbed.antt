-- A store with stubs of what its fragments lack, and the errors that its closures may have (docs/RULES.md, "Stubs").
use Rattle.std.specs.Prelude.{◌≡◌, ◌⊎◌, ⊤, ℕ, Bool, false, true, List, Some, Ok}
use Rattle.pef_format.specs.declared.export.ExportValue.TheVariants.{Absolute}
use Rattle.pef_format.specs.Exports.{Export, value_of}
use Rattle.pef_format.specs.Symbols.{Import, options_of}
use Rattle.pef_loader.specs.Library.{Library}
use Rattle.pef_loader.specs.Loader.{Loaded, import_of, library_of}
use Rattle.cfm_store.specs.Stores.{Pair, place_of}
use Rattle.cfm_closure.specs.Faults.{BindRefusal, implementation_too_new, implementation_too_old, init_loop, library_missing, no_container, no_loader, reexport_loop, symbol_missing}
use Rattle.cfm_closure.specs.Fragments.{Fragment, fragment_of}
use Rattle.cfm_closure.specs.Libraries.{fit_with}
use Rattle.cfm_closure.specs.Promises.{AllRead}
use Rattle.cfm_closure.specs.Targets.{exported}
use Rattle.cfm_closure.specs.declared.versions.Fit.TheVariants.{Fits}

-- library entry k of the fragment in a place means the fragment in place q
pub record Names (pairs : List Pair) (p k q : ℕ) : Type 0 where
  pub fragment : Fragment
  pub read : fragment_of pairs p ≡ Ok fragment
  pub library : Library
  pub entry : library_of fragment.loader k ≡ Some library
  pub place : place_of pairs library.name ≡ Some q

-- the first export with a name is a number
pub record IsNumber (l : Loaded) (name : List ℕ) (n : ℕ) : Type 0 where
  pub index : ℕ
  pub export : Export
  pub found : exported name l ≡ Some (index, export)
  pub value : value_of export.fields.section export.fields.value ≡ Absolute n

-- the fragment in a place is a stub of a library: its versions fit each entry that means it, and each symbol that is imported from
-- it is a number
pub record IsStub (pairs : List Pair) (number : List ℕ → ℕ) (q : ℕ) : Type 0 where
  pub fragment : Fragment
  pub read : fragment_of pairs q ≡ Ok fragment
  pub fits : (p k : ℕ) (n : Names pairs p k q) → fit_with n.library fragment ≡ Fits
  pub exports : (p j : ℕ) (f : Fragment) (i : Import) → fragment_of pairs p ≡ Ok f → import_of f.loader j ≡ Some i → Names pairs p i.library q → IsNumber fragment.loader i.name (number i.name)

-- a store has a fragment for a library entry, or the entry is weak
abbrev pub HasLibrary : List Pair → Library → Type 0
HasLibrary pairs l = ((q : ℕ) × (place_of pairs l.name ≡ Some q)) ⊎ ((options_of l.fields.options).weak ≡ true)

-- a store whose fragments are all read, which has a fragment for each library entry that isn't weak, and stubs in some places, with
-- these numbers
pub record IsStubbed (pairs : List Pair) (stub : ℕ → Bool) (number : ℕ → List ℕ → ℕ) : Type 0 where
  pub read : AllRead pairs
  pub found : (p k : ℕ) (f : Fragment) (l : Library) → fragment_of pairs p ≡ Ok f → library_of f.loader k ≡ Some l → HasLibrary pairs l
  pub stubs : (q : ℕ) → stub q ≡ true → IsStub pairs (number q) q

-- a library that is there, and isn't a stub
pub record IsOther (pairs : List Pair) (stub : ℕ → Bool) (name : List ℕ) : Type 0 where
  pub place : ℕ
  pub there : place_of pairs name ≡ Some place
  pub other : stub place ≡ false

-- an error that a closure of such a store may have: of a symbol or of versions only if the library isn't a stub, and of loops
abbrev pub MayEnd : List Pair → (ℕ → Bool) → BindRefusal → Type 0
MayEnd pairs stub (no_container f v) = ⊥
MayEnd pairs stub (no_loader f v place) = ⊥
MayEnd pairs stub (library_missing f l place) = ⊥
MayEnd pairs stub (symbol_missing f l s place) = IsOther pairs stub l
MayEnd pairs stub (implementation_too_old f l place needed found) = IsOther pairs stub l
MayEnd pairs stub (implementation_too_new f l place needed found) = IsOther pairs stub l
MayEnd pairs stub (reexport_loop f s place) = ⊤
MayEnd pairs stub (init_loop f place) = ⊤
