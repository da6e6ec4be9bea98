-- The place of a refusal changes nothing else of a program's effect.
use Rattle.std.proofs.Common.{◌≡◌, ℕ, List, [], ◌∷◌, Option, None, Some, refl, ap₂, sym, subst}
use Rattle.std.specs.Option.{option_map}
use Rattle.pef_reloc.specs.declared.fault.RelocFault.{RelocFault}
use Rattle.pef_reloc.specs.declared.stop.Stop.{Stop}
use Rattle.pef_reloc.specs.Steps.{State, acts_from, acts_of, next_state, start}
use Rattle.pef_reloc.specs.Unrolled.{Step, instrs_in, instrs_of, unrolled}
use Rattle.pef_reloc.specs.Applied.{Addresses, Done, IsPlaced, applied, fault_at, ran, relocated, relocation, unless_refused}
use Rattle.pef_reloc.proofs.ActLists.{applied-append}
use Rattle.pef_reloc.proofs.Rows.{nothing_done}

-- what is done after an instruction is placed if it is for each memory
placed-then : (at : ℕ) (fault : Option Stop) (mid : List ℕ) (d : Done RelocFault) (e : Done Stop) → IsPlaced d e → IsPlaced (unless_refused (option_map (fault_at at) fault) mid d) (unless_refused fault mid e)
placed-then at None mid d e same = same
placed-then at (Some stop) mid d e same = record { memory = refl; fault = (at, refl) }

pub ran-placed : (a : Addresses) (steps : List Step) (s : State) (memory : List ℕ) → IsPlaced (ran a steps s memory) (applied a (acts_from (instrs_in steps) s) memory)
unfolding ran
ran-placed a [] s memory =
    let P : Done Stop → Type 0 = λ e. IsPlaced (record { memory = memory; fault = None }) e in
    subst P (sym (nothing_done a memory)) (record { memory = refl; fault = refl })
ran-placed a (x ∷ xs) s memory =
    let first = applied a (acts_of x.1 s) memory in
    let next = next_state x.1 s in
    let P : Done Stop → Type 0 = λ e. IsPlaced (ran a (x ∷ xs) s memory) e in
    subst P (sym (applied-append a (acts_of x.1 s) (acts_from (instrs_in xs) next) memory))
    (placed-then x.0 first.fault first.memory (ran a xs next first.memory) (applied a (acts_from (instrs_in xs) next) first.memory) (ran-placed a xs next first.memory))

pub relocation-placed : (bytes : List ℕ) (a : Addresses) (memory : List ℕ) → IsPlaced (relocation bytes a memory) (relocated bytes a memory)
unfolding relocation relocated
relocation-placed bytes a memory = ran-placed a (unrolled (instrs_of bytes)) start memory

-- a program that isn't refused
unrefused : (d : Done RelocFault) (e : Done Stop) (m : List ℕ) → IsPlaced d e → e ≡ record { memory = m; fault = None } → d ≡ record { memory = m; fault = None }
unrefused d e m placed is =
    let P : Done Stop → Type 0 = λ x. IsPlaced d x in
    let same = subst P is placed in
    ap₂ (λ memory fault. record { memory = memory; fault = fault }) same.memory same.fault

pub relocation-done : (bytes : List ℕ) (a : Addresses) (memory m : List ℕ) → relocated bytes a memory ≡ record { memory = m; fault = None } → relocation bytes a memory ≡ record { memory = m; fault = None }
relocation-done bytes a memory m is = unrefused (relocation bytes a memory) (relocated bytes a memory) m (relocation-placed bytes a memory) is
