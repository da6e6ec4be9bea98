-- Where several fragments are placed, and their memory after they are prepared together. That their
-- sections are placed in turn, that all are placed before any is filled, and all filled before any is
-- relocated, are this project's own rules.
use Rattle.std.specs.Prelude.{◌≡◌, ◌⊎◌, ℕ, ◌+◌, List, [], ◌∷◌, ◌++◌, None, Some, length, option_map}
use Rattle.cfm_memory.specs.Extents.{ArePlacedBy, LackPlaceBy, Rule, at_given, at_lowest, rule_after}
use Rattle.cfm_memory.specs.Instances.{Layout}
use Rattle.cfm_memory.specs.declared.place.Place.{Place}
use Rattle.pef_format.specs.declared.place.Part.TheVariants as part
use Rattle.pef_format.specs.declared.place.Place.{Place as ContainerPlace}
use Rattle.pef_loader.specs.Places.{place_of}
use Rattle.cfm_closure.specs.Fragments.{container_at}
use Rattle.cfm_sections.specs.Unplaced.{LacksPlaceFor}
use Rattle.cfm_store.specs.Stores.{Pair, pair_of}
use Rattle.cfm_prepare.specs.Addresses.{first_bad_program, section_of}
use Rattle.cfm_prepare.specs.Fragments.{Present, StandAll, all_given_back, extents_in, first_bad_image, positions}

-- a fragment's places are those of its sections: it was placed so in some memory, by some rule
pub record Fits (pairs : List Pair) (f : Present) : Type 0 where
  pub rule : Rule
  pub before : Layout
  pub after : Layout
  pub placed : ArePlacedBy rule before (extents_in pairs f.position) f.places after

-- fragments were placed in a memory, one after another, by a rule, which gave another memory
abbrev pub AllPlacedBy : Rule → List Pair → Layout → List Present → Layout → Type 0
AllPlacedBy rule pairs m [] after = after ≡ m
AllPlacedBy rule pairs m (f ∷ fs) after =
    (mid : Layout) × ArePlacedBy rule m (extents_in pairs f.position) f.places mid × AllPlacedBy (rule_after rule (length f.places)) pairs mid fs after

-- each section at the lowest address with room
abbrev pub AllPlaced : List Pair → Layout → List Present → Layout → Type 0
AllPlaced pairs m fs after = AllPlacedBy at_lowest pairs m fs after

-- the fragment with this name is the one of some that has no places by a rule after those before it
abbrev pub LacksPlaceBy : Rule → List Pair → Layout → List ℕ → List ℕ → Type 0
LacksPlaceBy rule pairs m [] name = ⊥
LacksPlaceBy rule pairs m (p ∷ ps) name =
    (LackPlaceBy rule m (extents_in pairs p) × (name ≡ (pair_of pairs p).name))
    ⊎ ((places : List Place) × (mid : Layout) × ArePlacedBy rule m (extents_in pairs p) places mid × LacksPlaceBy (rule_after rule (length places)) pairs mid ps name)

-- the fragment with this name is the one of some that finds no room after those before it
abbrev pub LacksRoom : List Pair → Layout → List ℕ → List ℕ → Type 0
LacksRoom pairs m ps name = LacksPlaceBy at_lowest pairs m ps name

-- a section of a fragment has no place by a rule: its totalSize is in this place
abbrev pub HasNoPlaceAt : Rule → List Pair → Layout → ℕ → ContainerPlace → Type 0
HasNoPlaceAt rule pairs m p place = (k : ℕ) × LacksPlaceFor rule m (extents_in pairs p) k × (option_map (λ c. place_of c part.Section k 8) (container_at pairs p) ≡ Some place)

-- the first of some fragments that has no places by a rule has this name, and its section this place
abbrev pub LacksPlaceAt : Rule → List Pair → Layout → List ℕ → List ℕ → ContainerPlace → Type 0
LacksPlaceAt rule pairs m [] name place = ⊥
LacksPlaceAt rule pairs m (p ∷ ps) name place =
    (HasNoPlaceAt rule pairs m p place × (name ≡ (pair_of pairs p).name))
    ⊎ ((places : List Place) × (mid : Layout) × ArePlacedBy rule m (extents_in pairs p) places mid × LacksPlaceAt (rule_after rule (length places)) pairs mid ps name place)

-- how many sections some fragments have together
abbrev pub section_total : List Pair → List ℕ → ℕ
section_total pairs [] = 0
section_total pairs (p ∷ ps) = length (extents_in pairs p) + section_total pairs ps

-- a rule is for the sections of some fragments: if addresses are given, there is one for each section
abbrev pub IsRuleFor : Rule → List Pair → List ℕ → Type 0
IsRuleFor at_lowest pairs new = Unit {0}
IsRuleFor (at_given addresses) pairs new = length addresses ≡ section_total pairs new

-- fragments with new positions were placed by a rule
pub record AreNewBy (rule : Rule) (pairs : List Pair) (m : Layout) (new : List ℕ) (fresh : List Present) : Type 0 where
  pub are : positions fresh ≡ new
  pub empty : Layout
  pub placed : AllPlacedBy rule pairs m fresh empty

-- each section at the lowest address with room
abbrev pub AreNew : List Pair → Layout → List ℕ → List Present → Type 0
AreNew pairs m new fresh = AreNewBy at_lowest pairs m new fresh

-- new fragments were prepared in a memory with those that exist, their sections placed by a rule, which gave another memory.
-- They have new places, and nothing else changed. None is refused, and each section has its prepared memory
pub record ArePreparedBy (rule : Rule) (pairs : List Pair) (there : List Present) (m : Layout) (new : List ℕ) (fresh : List Present) (after : Layout) : Type 0 where
  pub are : AreNewBy rule pairs m new fresh
  pub others : all_given_back after fresh ≡ m
  pub filled : first_bad_image pairs fresh ≡ None
  pub relocated : first_bad_program pairs (there ++ fresh) fresh ≡ None
  pub stand : StandAll after fresh (section_of pairs (there ++ fresh))

-- each section at the lowest address with room
abbrev pub ArePrepared : List Pair → List Present → Layout → List ℕ → List Present → Layout → Type 0
ArePrepared pairs there m new fresh after = ArePreparedBy at_lowest pairs there m new fresh after
