-- The invariant of present fragments: their sections are in memory, each at an address of its own.
use Rattle.std.specs.Prelude.{◌≡◌, ◌≢◌, ℕ, ◌+◌, ◌<◌, false, true, List, [], ◌∷◌, length, ◌++◌, Result, Ok, Err, Option, None, Some, if◌then◌else◌}
use Rattle.cfm_memory.specs.Extents.{AreApart, AreHeld, Rule, given_back, place_at}
use Rattle.cfm_memory.specs.Instances.{Layout}
use Rattle.cfm_memory.specs.declared.place.Place.{Place}
use Rattle.cfm_sections.specs.declared.image_fault.ImageFault.{ImageFault}
use Rattle.pef_loader.specs.declared.program_fault.ProgramFault.{ProgramFault}
use Rattle.cfm_store.specs.Stores.{Pair, pair_of}
use Rattle.cfm_prepare.specs.Fragments.{Present, all_given_back, is_present, positions, present_at, present_of}
use Rattle.cfm_prepare.specs.Lists.{IsOnce, has}
use Rattle.cfm_prepare.specs.Placing.{AllPlacedBy, Fits, HasNoPlaceAt}
use Rattle.cfm_prepare.specs.declared.fragment_fault.FragmentFault.{FragmentFault}
use Rattle.cfm_prepare.specs.declared.fragment_fault.FragmentFault.TheVariants as fault

-- each section is held at its size
abbrev pub AllHeld : Layout → List Present → Type 0
AllHeld m fs = (i : ℕ) → i < length fs → AreHeld m (present_at fs i).places

-- no two sections of one fragment have the same address
abbrev pub OwnApart : List Present → Type 0
OwnApart fs = (i : ℕ) → i < length fs → AreApart (present_at fs i).places

-- nor two sections of different fragments
abbrev pub AllApart : List Present → Type 0
AllApart fs = (i j a b : ℕ) → i < length fs → j < length fs → i ≢ j → a < length (present_at fs i).places → b < length (present_at fs j).places
    → (place_at (present_at fs i).places a).address ≢ (place_at (present_at fs j).places b).address

-- fragments that can be written to and released, one by one
pub record AreReady (m : Layout) (fs : List Present) : Type 0 where
  pub held : AllHeld m fs
  pub own : OwnApart fs
  pub apart : AllApart fs

-- a fragment has the places of its sections, each at an address of its own
pub record IsLaidOut (pairs : List Pair) (f : Present) : Type 0 where
  pub fits : Fits pairs f
  pub own : AreApart f.places

-- some fragments have the places of their sections, and no two sections have the same address
pub record AreLaidOut (pairs : List Pair) (fs : List Present) : Type 0 where
  pub each : (i : ℕ) → i < length fs → IsLaidOut pairs (present_at fs i)
  pub apart : AllApart fs

-- memory changed at some places alone. Their instances are held if they were
pub record ChangesAt (m : Layout) (places : List Place) (after : Layout) : Type 0 where
  pub others : given_back after places ≡ given_back m places
  pub held : AreHeld m places → AreHeld after places

-- memory changed in the sections of some fragments alone
pub record ChangesIn (m : Layout) (fs : List Present) (after : Layout) : Type 0 where
  pub others : all_given_back after fs ≡ all_given_back m fs
  pub held : AllHeld m fs → AllHeld after fs

-- how many sections some fragments have in memory
abbrev pub place_count : List Present → ℕ
place_count [] = 0
place_count (f ∷ fs) = length f.places + place_count fs

-- fragments with new positions were placed by a rule after those that exist
pub record HavePlaced (rule : Rule) (pairs : List Pair) (m : Layout) (there : List Present) (new : List ℕ) (now : List Present) (after : Layout) : Type 0 where
  pub fresh : List Present
  pub behind : now ≡ there ++ fresh
  pub are : positions fresh ≡ new
  pub placed : AllPlacedBy rule pairs m fresh after

-- the fragments with some positions, with the places that they have among all
abbrev pub found_in : List Present → List ℕ → List Present
found_in all [] = []
found_in all (p ∷ ps) = present_of all p ∷ found_in all ps

-- some positions, each once, have no fragments
pub record AreAbsent (fs : List Present) (ps : List ℕ) : Type 0 where
  pub once : IsOnce ps
  pub none : (p : ℕ) → has ps p ≡ true → is_present fs p ≡ false

-- new fragments are after those that existed; they can be released, which leaves memory as it was before
pub record HaveBegun (m : Layout) (there : List Present) (new : List ℕ) (now : List Present) (after : Layout) : Type 0 where
  pub fresh : List Present
  pub behind : now ≡ there ++ fresh
  pub are : (p : ℕ) → is_present fresh p ≡ true → has new p ≡ true
  pub others : all_given_back after fresh ≡ m
  pub ready : AreReady after now

-- the fragments with some positions, and the others
abbrev pub these_of : List ℕ → List Present → List Present
these_of ps [] = []
these_of ps (f ∷ fs) = if has ps f.position then f ∷ these_of ps fs else these_of ps fs

abbrev pub others_of : List ℕ → List Present → List Present
others_of ps [] = []
others_of ps (f ∷ fs) = if has ps f.position then others_of ps fs else f ∷ others_of ps fs

-- why a fragment isn't placed by a rule
abbrev pub IsNotPlaced : Rule → List Pair → ℕ → Layout → FragmentFault → Type 0
IsNotPlaced rule pairs p m (fault.NoRoom f place) = HasNoPlaceAt rule pairs m p place × (f.now ≡ (pair_of pairs p).name)
IsNotPlaced rule pairs p m (fault.Pack f k place) = ⊥
IsNotPlaced rule pairs p m (fault.Reloc f k section place) = ⊥
IsNotPlaced rule pairs p m fault.OutOfMemory = Unit {0}

-- the result of filling: the first refusal of an image, or none
abbrev pub FillsUpTo : {A : Type 0} → Result A FragmentFault → Option (List ℕ × ImageFault) → Type 0
FillsUpTo (Ok done) first = first ≡ None
FillsUpTo (Err (fault.NoRoom f place)) first = ⊥
FillsUpTo (Err (fault.Pack f k place)) first = first ≡ Some (f.now, record { fault = k; place = place })
FillsUpTo (Err (fault.Reloc f k section place)) first = ⊥
FillsUpTo (Err fault.OutOfMemory) first = ⊥

-- the result of relocating: the first refusal of a relocation header, or none; or an allocation failed
abbrev pub RelocatesUpTo : {A : Type 0} → Result A FragmentFault → Option (List ℕ × ProgramFault) → Type 0
RelocatesUpTo (Ok done) first = first ≡ None
RelocatesUpTo (Err (fault.NoRoom f place)) first = ⊥
RelocatesUpTo (Err (fault.Pack f k place)) first = ⊥
RelocatesUpTo (Err (fault.Reloc f k section place)) first = first ≡ Some (f.now, record { fault = k; section = section; place = place })
RelocatesUpTo (Err fault.OutOfMemory) first = Unit {0}
