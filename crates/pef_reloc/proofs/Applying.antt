-- A readable program as it is applied, instruction by instruction.
use Rattle.std.proofs.Common.{◌≡◌, ℕ, ◌+◌, ◌*◌, ◌^◌, ◌<◌, ◌≤◌, Bool, true, false, cond, List, [], ◌∷◌, ◌++◌, drop, length, nat_le, Option, None, Some, Ok, Err, IfSome, refl, ap, sym, subst, ◌∙◌, arith}
use Rattle.std.specs.Option.{option_or}
use Rattle.std.proofs.lemmas.Bool.{leb-true}
use Rattle.pef_reloc.specs.declared.fault.RelocFault.{RelocFault}
use Rattle.pef_reloc.specs.declared.fault.RelocFault.TheVariants.{TooManySteps}
use Rattle.pef_reloc.specs.declared.instr.Instr.{Instr}
use Rattle.pef_reloc.specs.declared.instr.Repeat.{Repeat}
use Rattle.pef_reloc.specs.declared.machine.Machine.{Machine}
use Rattle.pef_reloc.specs.Instrs.{instr_length, repeat_of}
use Rattle.pef_reloc.specs.Decoding.{Code, code_at, first_instr}
use Rattle.pef_reloc.specs.Steps.{start}
use Rattle.pef_reloc.specs.Limits.{step_limit}
use Rattle.pef_reloc.specs.Unrolled.{code_fault, executed, instrs_of, place_after, program_fault, repeat_fault, steps_as, steps_fault, unrolled, unrolled_after}
use Rattle.pef_reloc.specs.Applied.{Addresses, relocation}
use Rattle.pef_reloc.specs.Kept.Machines.{Holds, Moves, Runs}
use Rattle.pef_reloc.specs.Kept.Places.{Before}
use Rattle.pef_reloc.proofs.Blocks.{repeat-reach}
use Rattle.pef_reloc.proofs.CodeLemmas.{code-end, code-next}
use Rattle.pef_reloc.proofs.Readings.{fault-none}
use Rattle.pef_reloc.proofs.Runs.{Leaves, leaves-all, leaves-more, leaves-fault, leaves-none}

-- the part that is left to apply
pub record ApplyLeft (bytes : List ℕ) (a : Addresses) (at : ℕ) (m : Machine) (memory whole : List ℕ) : Type 0 where
  pub before : List Instr
  pub steps : ℕ
  pub stands : Before bytes before at
  pub fine : code_fault before steps (code_at at (drop at bytes)) ≡ None
  pub under : steps ≤ step_limit
  pub position : m.position ≤ 2 ^ 26 + 2 ^ 39 * steps
  pub imports : m.import_index ≤ 2 ^ 26 + 2 ^ 39 * steps
  pub leaves : Leaves a m memory (unrolled_after before (code_at at (drop at bytes)).instrs) whole (unrolled (instrs_of bytes)) start

pub apply-start : (bytes : List ℕ) (a : Addresses) (m : Machine) (memory : List ℕ) → program_fault bytes ≡ None → Holds a m start → m.position ≡ 0 → m.import_index ≡ 0 → ApplyLeft bytes a 0 m memory memory
unfolding program_fault instrs_of
apply-start bytes a m memory fine holds position imports = record {
  before = [];
  steps = 0;
  stands = refl;
  fine = fine;
  under = omega arith;
  position = omega arith;
  imports = omega arith;
  leaves = leaves-all a m memory (unrolled_after [] (code_at 0 bytes).instrs) start holds;
}

-- the facts of an instruction that isn't refused
pub record Fine (before : List Instr) (steps : ℕ) (x : Instr) : Type 0 where
  pub block : repeat_fault before (repeat_of x) ≡ None
  pub under : steps + steps_as before (repeat_of x) ≤ step_limit

pub steps_fine : (place n : ℕ) → steps_fault place n ≡ None → n ≤ step_limit
steps_fine place n none =
    let go : (b : Bool) → cond b None (Some (TooManySteps place)) ≡ None → b ≡ true = λ b. elim b as (λ v. cond v None (Some (TooManySteps place)) ≡ None → v ≡ true) [ true ↦ (λ e. refl) | false ↦ (λ e. absurd (cc e)) ] in
    leb-true n step_limit (go (nat_le n step_limit) none)

parts : (block steps rest last : Option RelocFault) → option_or (option_or (option_or block steps) rest) last ≡ None → (block ≡ None) × (steps ≡ None) × (option_or rest last ≡ None)
parts None None rest last none = (refl, refl, none)
parts None (Some f) rest last none = absurd (cc none)
parts (Some f) steps rest last none = absurd (cc none)

pub fine_parts : (bytes : List ℕ) (at : ℕ) (x : Instr) (before : List Instr) (steps : ℕ) → at < length bytes → first_instr at (drop at bytes) ≡ Ok x → code_fault before steps (code_at at (drop at bytes)) ≡ None → (repeat_fault before (repeat_of x) ≡ None) × (steps_fault (place_after before) (steps + steps_as before (repeat_of x)) ≡ None) × (code_fault (x ∷ before) (steps + steps_as before (repeat_of x)) (code_at (at + 2 * instr_length x) (drop (at + 2 * instr_length x) bytes)) ≡ None)
fine_parts bytes at x before steps under here none =
    parts (repeat_fault before (repeat_of x)) (steps_fault (place_after before) (steps + steps_as before (repeat_of x))) _ _ (sym (ap (code_fault before steps) (code-next bytes at x under here)) ∙ none)

pub fine-here : (bytes : List ℕ) (at : ℕ) (x : Instr) (before : List Instr) (steps : ℕ) → at < length bytes → first_instr at (drop at bytes) ≡ Ok x → code_fault before steps (code_at at (drop at bytes)) ≡ None → Fine before steps x
fine-here bytes at x before steps under here none =
    let p = fine_parts bytes at x before steps under here none in
    record { block = p.0; under = steps_fine _ _ p.1 }

pub fine-next : (bytes : List ℕ) (at : ℕ) (x : Instr) (before : List Instr) (steps : ℕ) → at < length bytes → first_instr at (drop at bytes) ≡ Ok x → code_fault before steps (code_at at (drop at bytes)) ≡ None → code_fault (x ∷ before) (steps + steps_as before (repeat_of x)) (code_at (at + 2 * instr_length x) (drop (at + 2 * instr_length x) bytes)) ≡ None
fine-next bytes at x before steps under here none = (fine_parts bytes at x before steps under here none).2

-- a readable program has an instruction wherever one is read
pub fine-begins : (bytes : List ℕ) (at : ℕ) (before : List Instr) (steps : ℕ) (f : RelocFault) → at < length bytes → first_instr at (drop at bytes) ≡ Err f → code_fault before steps (code_at at (drop at bytes)) ≡ None → ⊥
fine-begins bytes at before steps f under here none =
    let no : ◌≡◌ {A = Option RelocFault} (Some f) None = sym (fault-none bytes at before steps f under here) ∙ none in cc no

pub room : (bytes : List ℕ) (before : List Instr) (r : Option Repeat) (at : ℕ) → Before bytes before at → repeat_fault before r ≡ None → IfSome r (λ x. 2 * x.blocks ≤ at)
room bytes before None at stands none = tt
room bytes before (Some r) at stands none = (repeat-reach bytes before r at stands none).room

pub apply-room : (bytes : List ℕ) (a : Addresses) (at : ℕ) (m : Machine) (memory whole : List ℕ) (x : Instr) → ApplyLeft bytes a at m memory whole → at < length bytes → first_instr at (drop at bytes) ≡ Ok x → IfSome (repeat_of x) (λ r. 2 * r.blocks ≤ at)
apply-room bytes a at m memory whole x left under here =
    room bytes left.before (repeat_of x) at left.stands (fine-here bytes at x left.before left.steps under here left.fine).block

pub some_steps : (before : List Instr) (r : Option Repeat) → 1 ≤ steps_as before r
some_steps before None = omega arith
some_steps before (Some r) = omega arith

-- the instruction and the rest after it
split : (bytes : List ℕ) (a : Addresses) (at : ℕ) (m : Machine) (memory whole : List ℕ) (x : Instr) (left : ApplyLeft bytes a at m memory whole) → at < length bytes → first_instr at (drop at bytes) ≡ Ok x → Leaves a m memory (executed left.before x ++ unrolled_after (x ∷ left.before) (code_at (at + 2 * instr_length x) (drop (at + 2 * instr_length x) bytes)).instrs) whole (unrolled (instrs_of bytes)) start
split bytes a at m memory whole x left under here =
    let P : Code → Type 0 = λ code. Leaves a m memory (unrolled_after left.before code.instrs) whole (unrolled (instrs_of bytes)) start in
    subst P (code-next bytes at x under here) left.leaves

pub apply-more : (bytes : List ℕ) (a : Addresses) (at : ℕ) (m m' : Machine) (memory memory' whole : List ℕ) (x : Instr) (left : ApplyLeft bytes a at m memory whole) → at < length bytes → first_instr at (drop at bytes) ≡ Ok x → Runs a m m' memory memory' (executed left.before x) None → Moves m m' (2 ^ 39) → ApplyLeft bytes a (at + 2 * instr_length x) m' memory' whole
apply-more bytes a at m m' memory memory' whole x left under here ran moves =
    let p = fine_parts bytes at x left.before left.steps under here left.fine in
    let some = some_steps left.before (repeat_of x) in
    record {
      before = x ∷ left.before;
      steps = left.steps + steps_as left.before (repeat_of x);
      stands = (at, refl, here, left.stands);
      fine = p.2;
      under = steps_fine _ _ p.1;
      position = omega (arith, moves.position, left.position, some);
      imports = omega (arith, moves.imports, left.imports, some);
      leaves = leaves-more a m m' memory memory' (executed left.before x) (unrolled_after (x ∷ left.before) (code_at (at + 2 * instr_length x) (drop (at + 2 * instr_length x) bytes)).instrs) whole (unrolled (instrs_of bytes)) start (split bytes a at m memory whole x left under here) ran;
    }

pub apply-fault : (bytes : List ℕ) (a : Addresses) (at : ℕ) (m m' : Machine) (memory memory' whole : List ℕ) (x : Instr) (f : RelocFault) (left : ApplyLeft bytes a at m memory whole) → at < length bytes → first_instr at (drop at bytes) ≡ Ok x → Runs a m m' memory memory' (executed left.before x) (Some f) → relocation bytes a whole ≡ record { memory = memory'; fault = Some f }
unfolding relocation
apply-fault bytes a at m m' memory memory' whole x f left under here ran =
    leaves-fault a m m' memory memory' (executed left.before x) (unrolled_after (x ∷ left.before) (code_at (at + 2 * instr_length x) (drop (at + 2 * instr_length x) bytes)).instrs) whole (unrolled (instrs_of bytes)) start f (split bytes a at m memory whole x left under here) ran

pub apply-end : (bytes : List ℕ) (a : Addresses) (at : ℕ) (m : Machine) (memory whole : List ℕ) → ApplyLeft bytes a at m memory whole → length bytes ≤ at → relocation bytes a whole ≡ record { memory = memory; fault = None }
unfolding relocation
apply-end bytes a at m memory whole left past =
    let P : Code → Type 0 = λ code. Leaves a m memory (unrolled_after left.before code.instrs) whole (unrolled (instrs_of bytes)) start in
    leaves-none a m memory whole (unrolled (instrs_of bytes)) start (subst P (code-end bytes at past) left.leaves)
