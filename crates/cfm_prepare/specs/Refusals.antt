-- Why new fragments aren't prepared. The order of the refusals is this project's own rule.
use Rattle.std.specs.Prelude.{◌≡◌, ℕ, List, ◌++◌, None, Some}
use Rattle.cfm_memory.specs.Extents.{Rule, at_lowest}
use Rattle.cfm_memory.specs.Instances.{Layout}
use Rattle.cfm_sections.specs.declared.image_fault.ImageFault.{ImageFault}
use Rattle.pef_loader.specs.declared.program_fault.ProgramFault.{ProgramFault}
use Rattle.cfm_store.specs.Stores.{Pair}
use Rattle.cfm_prepare.specs.Addresses.{first_bad_program}
use Rattle.cfm_prepare.specs.Fragments.{Present, first_bad_image}
use Rattle.cfm_prepare.specs.Placing.{AreNewBy, LacksPlaceAt}
use Rattle.cfm_prepare.specs.declared.fragment_fault.FragmentFault.{FragmentFault}
use Rattle.cfm_prepare.specs.declared.fragment_fault.FragmentFault.TheVariants as fault

-- new fragments have places by a rule, and this is the first refusal of an image
pub record HasBadImageBy (rule : Rule) (pairs : List Pair) (m : Layout) (new : List ℕ) (name : List ℕ) (k : ImageFault) : Type 0 where
  pub fresh : List Present
  pub are : AreNewBy rule pairs m new fresh
  pub first : first_bad_image pairs fresh ≡ Some (name, k)

-- new fragments have places by a rule and have images, and this is the first refusal of a relocation header
pub record HasBadProgramBy (rule : Rule) (pairs : List Pair) (there : List Present) (m : Layout) (new : List ℕ) (name : List ℕ) (k : ProgramFault) : Type 0 where
  pub fresh : List Present
  pub are : AreNewBy rule pairs m new fresh
  pub filled : first_bad_image pairs fresh ≡ None
  pub first : first_bad_program pairs (there ++ fresh) fresh ≡ Some (name, k)

-- each section finds its place at the lowest address with room
abbrev pub HasBadImage : List Pair → Layout → List ℕ → List ℕ → ImageFault → Type 0
HasBadImage pairs m new name k = HasBadImageBy at_lowest pairs m new name k

abbrev pub HasBadProgram : List Pair → List Present → Layout → List ℕ → List ℕ → ProgramFault → Type 0
HasBadProgram pairs there m new name k = HasBadProgramBy at_lowest pairs there m new name k

-- why new fragments aren't prepared: one has no place by a rule, or else an image is refused, or else a relocation header, or
-- an allocation fails
abbrev pub MayNotPrepareNewBy : Rule → List Pair → List Present → Layout → List ℕ → FragmentFault → Type 0
MayNotPrepareNewBy rule pairs there m new (fault.NoRoom f place) = LacksPlaceAt rule pairs m new f.now place
MayNotPrepareNewBy rule pairs there m new (fault.Pack f k place) = HasBadImageBy rule pairs m new f.now (record { fault = k; place = place })
MayNotPrepareNewBy rule pairs there m new (fault.Reloc f k section place) = HasBadProgramBy rule pairs there m new f.now (record { fault = k; section = section; place = place })
MayNotPrepareNewBy rule pairs there m new fault.OutOfMemory = Unit {0}
