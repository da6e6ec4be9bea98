-- The addresses that a fragment is relocated with: those of its sections, and those of its imports' targets
-- (Mac OS Runtime Architectures, "Code Fragment Manager", "Resolving Imports").
use Rattle.std.specs.Prelude.{ℕ, zero, suc, ◌+◌, ◌%◌, ◌^◌, List, [], ◌∷◌, Option, None, Some}
use Rattle.std.specs.Option.{option_or}
use Rattle.std.specs.Result.{result_unwrap_or}
use Rattle.cfm_memory.specs.Extents.{place_at}
use Rattle.pef_reloc.specs.Applied.{Addresses}
use Rattle.pef_loader.specs.declared.program_fault.ProgramFault.{ProgramFault}
use Rattle.cfm_store.specs.Stores.{Pair}
use Rattle.cfm_closure.specs.Fragments.{import_count}
use Rattle.cfm_closure.specs.Targets.{target_of}
use Rattle.cfm_closure.specs.declared.targets.Target.{Target}
use Rattle.cfm_closure.specs.declared.targets.Target.TheVariants.{Absolute, At}
use Rattle.cfm_sections.specs.Prepared.{addresses_at}
use Rattle.cfm_prepare.specs.Fragments.{Present, named, places_of, prepared_in, reloc_refusal_in}

-- the address of a target, if fragments have these places: 0 if there is no target, a number itself, or a
-- section's address plus the offset in it, modulo 2^32
abbrev pub target_address : List Present → Option Target → ℕ
target_address all None = 0
target_address all (Some (Absolute number)) = number
target_address all (Some (At p section offset)) = ((place_at (places_of all p) section).address + offset) % 2 ^ 32

-- the address of an import's target
abbrev pub import_address : List Pair → List Present → ℕ → ℕ → ℕ
import_address pairs all p j = target_address all (result_unwrap_or (target_of pairs p j) None)

-- the addresses of the targets of n imports from a number on
abbrev pub addresses_from : List Pair → List Present → ℕ → ℕ → ℕ → List ℕ
addresses_from pairs all p j zero = []
addresses_from pairs all p j (suc n) = import_address pairs all p j ∷ addresses_from pairs all p (j + 1) n

-- the addresses that a fragment is relocated with
abbrev pub addresses_of : List Pair → List Present → Present → Addresses
addresses_of pairs all f = addresses_at f.places (addresses_from pairs all f.position 0 (import_count pairs f.position))

-- section k of a fragment after relocation
abbrev pub section_of : List Pair → List Present → Present → ℕ → List ℕ
section_of pairs all f k = prepared_in pairs (addresses_of pairs all f) f.position k

-- the first refusal among the relocation headers of some fragments
abbrev pub first_bad_program : List Pair → List Present → List Present → Option (List ℕ × ProgramFault)
first_bad_program pairs all [] = None
first_bad_program pairs all (f ∷ fs) = option_or (named pairs f.position (reloc_refusal_in pairs (addresses_of pairs all f) f.position)) (first_bad_program pairs all fs)
