-- The program of a plan. At each step it has, of the instructions that a shortest list for the remaining fixups can begin
-- with, the first in the order below. The rule is this project's own.
use Rattle.std.specs.Prelude.{if◌then◌else◌, ◌≡◌, ◌⊎◌, ℕ, zero, suc, ◌+◌, ◌-◌, ◌/◌, ◌==◌, Bool, true, false, nat_lt, List, [], ◌∷◌, ◌++◌}
use Rattle.pef_reloc.specs.declared.fixup.Base.{Base}
use Rattle.pef_reloc.specs.declared.fixup.Base.TheVariants.{Section, Import}
use Rattle.pef_reloc.specs.declared.fixup.Fixup.{Fixup}
use Rattle.pef_reloc.specs.declared.instr.Instr.{Instr}
use Rattle.pef_reloc.specs.declared.instr.Instr.TheVariants.{BySectDWithSkip, BySectC, BySectD, TVector12, TVector8, VTable8, ImportRun, SmByImport, SmSetSectC, SmSetSectD, SmBySection, IncrPosition, SetPosition, LgByImport}
use Rattle.pef_reloc.specs.Deliveries.{Delivers}
use Rattle.pef_reloc.specs.Limits.{most_sections}
use Rattle.pef_reloc.specs.Steps.{State, next_state, start}
use Rattle.pef_cert.specs.Valid.{RegistersOf}
use Rattle.pef_plan.specs.Exact.{LeastFrom}

-- a shortest flat list that makes some fixups from a state begins with an instruction
pub record CanBegin (s : State) (fixups : List Fixup) (instr : Instr) : Type 0 where
  pub halfwords : ℕ
  pub shortest : LeastFrom s fixups halfwords
  pub others : List Instr
  pub is : shortest.instrs ≡ instr ∷ others

-- an instruction is the first of a list with a property
abbrev pub FirstOf : (Instr → Type 0) → List Instr → Instr → Type 0
FirstOf P [] instr = ⊥
FirstOf P (x ∷ xs) instr = ((x ≡ instr) × P x) ⊎ ((P x → ⊥) × FirstOf P xs instr)

-- the instructions with n counts in rising order, from one on
unfoldable pub counted : (ℕ → Instr) → ℕ → ℕ → List Instr
counted make count zero = []
counted make count (suc n) = make count ∷ counted make (count + 1) n

-- the instruction that adds an import once
abbrev pub import_once : ℕ → Instr
import_once k = if nat_lt k 512 then SmByImport k else LgByImport k

-- the instructions that can add at a fixup, in order, by its base
abbrev pub additions_in_order : Base → List Instr
additions_in_order (Section k) =
    SmBySection k ∷ [] ++ counted BySectC 1 512 ++ counted TVector8 1 512 ++ counted TVector12 1 512 ++ counted BySectD 1 512 ++ counted VTable8 1 512
additions_in_order (Import k) = import_once k ∷ [] ++ counted ImportRun 1 512

-- those that set a register: to each section that the fixups use, and then to a number that no section has
abbrev pub sets_in_order : List ℕ → List Instr
sets_in_order [] = SmSetSectC most_sections ∷ SmSetSectD most_sections ∷ []
sets_in_order (k ∷ registers) = SmSetSectC k ∷ SmSetSectD k ∷ sets_in_order registers

-- those that skip to a fixup with this base, and the setting that they need
abbrev pub skips_in_order : ℕ → Base → List Instr
skips_in_order ahead (Section k) = SmSetSectD k ∷ counted (BySectDWithSkip (ahead / 4)) 1 63
skips_in_order ahead (Import k) = []

-- those that move to a fixup, which lies this many bytes ahead
abbrev pub moves_in_order : ℕ → Fixup → List Instr
moves_in_order ahead f = SetPosition f.offset ∷ IncrPosition ahead ∷ IncrPosition (ahead - 1020) ∷ skips_in_order ahead f.base

-- those for a fixup that is at the position, and for one that isn't
abbrev pub steps_at : Bool → List ℕ → ℕ → Fixup → List Instr
steps_at true registers position f = additions_in_order f.base ++ sets_in_order registers
steps_at false registers position f = moves_in_order (f.offset - position) f

-- the instructions to choose from, in order, at a position before some fixups
abbrev pub steps_in_order : List ℕ → ℕ → List Fixup → List Instr
steps_in_order registers position [] = []
steps_in_order registers position (f ∷ rest) = steps_at (position == f.offset) registers position f

-- the program from a state on, with the sections that all fixups use
abbrev pub PlannedFrom : List ℕ → State → List Fixup → List Instr → Type 0
PlannedFrom registers s fixups [] = fixups ≡ []
PlannedFrom registers s fixups (x ∷ instrs) =
    FirstOf (CanBegin s fixups) (steps_in_order registers s.position fixups) x
    × ((left : List Fixup) × Delivers x s fixups left × PlannedFrom registers (next_state x s) left instrs)

-- the program for some fixups
pub record Planned (fixups : List Fixup) (program : List Instr) : Type 0 where
  pub registers : List ℕ
  pub registers_are : RegistersOf fixups registers
  pub steps : PlannedFrom registers start fixups program
