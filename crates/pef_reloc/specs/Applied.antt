-- The effect of relocation on the memory of a section (Mac OS Runtime Architectures, "PEF Structure",
-- on relocation). Which of several refusals comes first, and that a register with its start value
-- adds 0 if there is no such section, are this project's own rules.
use Rattle.std.specs.Prelude.{◌≡◌, ℕ, ◌+◌, ◌^◌, ◌%◌, Bool, false, not, nat_lt, nat_le, if◌then◌else◌, List, [], ◌∷◌, ◌++◌, length, take, drop, slice_index, Option, None, Some}
use Rattle.std.specs.Option.{option_map}
use Rattle.byteorder.specs.Endian.{big_number, big_bytes}
use Rattle.pef_reloc.specs.declared.fault.RelocFault.{RelocFault}
use Rattle.pef_reloc.specs.declared.fault.RelocFault.TheVariants.{WordOutside, ImportOutside, SectionOutside}
use Rattle.pef_reloc.specs.declared.fixup.Base.{Base}
use Rattle.pef_reloc.specs.declared.fixup.Base.TheVariants.{Section, Import}
use Rattle.pef_reloc.specs.declared.stop.Stop.{Stop}
use Rattle.pef_reloc.specs.declared.stop.Stop.TheVariants.{PastEnd, NoImport, NoSection}
use Rattle.pef_reloc.specs.Steps.{Act, State, add, need, acts_from, acts_of, next_state, start}
use Rattle.pef_reloc.specs.Unrolled.{Step, instrs_in, instrs_of, unrolled}

-- the addresses of a fragment's instantiated sections, and of the targets of its imports
pub record Addresses : Type 0 where
  pub sections : List ℕ
  pub imports : List ℕ

-- the address of a base, and 0 for one that doesn't exist
abbrev pub address_of : Addresses → Base → ℕ
address_of a (Section k) = slice_index a.sections k
address_of a (Import j) = slice_index a.imports j

-- memory with an address added to the big-endian word at a place, modulo 2^32
unfoldable pub added_at : List ℕ → ℕ → ℕ → List ℕ
added_at memory at address =
    take at memory ++ big_bytes 4 ((big_number 4 (drop at memory) + address) % 2 ^ 32) ++ drop (at + 4) memory

-- memory after something was done, and why it was stopped
pub record Done (F : Type 0) : Type 0 where
  pub memory : List ℕ
  pub fault : Option F

-- an import that doesn't exist; for an addition a section that doesn't exist isn't refused
abbrev pub is_missing : Addresses → Base → Bool
is_missing a (Section k) = false
is_missing a (Import j) = not (nat_lt j (length a.imports))

-- why an act is refused, with this many bytes of memory: which word it is for
abbrev pub act_fault : Addresses → ℕ → Act → Option Stop
act_fault a len (need position k) = if nat_lt k (length a.sections) then None else Some (NoSection position)
act_fault a len (add x) = if is_missing a x.base then Some (NoImport x.offset) else if nat_le (x.offset + 4) len then None else Some (PastEnd x.offset)

-- memory after an act
abbrev pub act_done : Addresses → Act → List ℕ → List ℕ
act_done a (need position k) memory = memory
act_done a (add x) memory = added_at memory x.offset (address_of a x.base)

-- a refusal, with memory unchanged; or if there is none the other result
abbrev pub unless_refused : {F : Type 0} → Option F → List ℕ → Done F → Done F
unless_refused None memory rest = rest
unless_refused (Some fault) memory rest = record { memory = memory; fault = Some fault }

-- the acts in order, up to the first that is refused
unfoldable pub applied : Addresses → List Act → List ℕ → Done Stop
applied a [] memory = record { memory = memory; fault = None }
applied a (act ∷ acts) memory = unless_refused (act_fault a (length memory) act) memory (applied a acts (act_done a act memory))

-- the effect of something after something else, if that isn't refused
abbrev pub then_done : {F : Type 0} → Done F → (List ℕ → Done F) → Done F
then_done done rest = unless_refused done.fault done.memory (rest done.memory)

-- the refusal of the instruction at a place of the program
abbrev pub fault_at : ℕ → Stop → RelocFault
fault_at at (PastEnd word) = WordOutside at word
fault_at at (NoImport word) = ImportOutside at word
fault_at at (NoSection word) = SectionOutside at word

-- what the instruction at a place did
abbrev pub done_at : ℕ → Done Stop → Done RelocFault
done_at at done = record { memory = done.memory; fault = option_map (fault_at at) done.fault }

-- instructions executed in order, up to the first that is refused
unfoldable pub ran : Addresses → List Step → State → List ℕ → Done RelocFault
ran a [] s memory = record { memory = memory; fault = None }
ran a (step ∷ steps) s memory = then_done (done_at step.0 (applied a (acts_of step.1 s) memory)) (ran a steps (next_state step.1 s))

-- memory relocated by the program that the bytes spell, and which instruction is refused
unfoldable pub relocation : List ℕ → Addresses → List ℕ → Done RelocFault
relocation bytes a memory = ran a (unrolled (instrs_of bytes)) start memory

-- memory relocated by the program that the bytes spell, and why it stopped, whichever instruction is
-- refused
unfoldable pub relocated : List ℕ → Addresses → List ℕ → Done Stop
relocated bytes a memory = applied a (acts_from (instrs_in (unrolled (instrs_of bytes))) start) memory

-- the refusal is this one, at some place of the program
abbrev pub IsSomewhere : Option RelocFault → Option Stop → Type 0
IsSomewhere fault None = fault ≡ None
IsSomewhere fault (Some stop) = (at : ℕ) × (fault ≡ Some (fault_at at stop))

-- the same memory, and the same refusal at some place
pub record IsPlaced (d : Done RelocFault) (e : Done Stop) : Type 0 where
  pub memory : d.memory ≡ e.memory
  pub fault : IsSomewhere d.fault e.fault
