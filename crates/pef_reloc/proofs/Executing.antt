-- What a program executes, as an iterator gives it.
use Rattle.std.proofs.Common.{◌≡◌, ℕ, ◌+◌, ◌*◌, ◌≤◌, List, [], ◌∷◌, ◌++◌, Option, None, Some, refl, ap, sym, ◌∙◌, arith}
use Rattle.pef_reloc.specs.declared.instr.Instr.{Instr}
use Rattle.pef_reloc.specs.declared.instr.Repeat.{Repeat}
use Rattle.pef_reloc.specs.declared.program.Instrs.{Instrs}
use Rattle.pef_reloc.specs.Instrs.{instr_length, repeat_of}
use Rattle.pef_reloc.specs.Kept.Executions.{IsPassed, behind, begun, executed_at, executed_from}
use Rattle.pef_reloc.specs.Unrolled.{repeated}
use Rattle.pef_reloc.specs.Views.{listed}

-- an instruction that is taken executes something, and the others execute the rest
pub begun-taken : (old new : Instrs) (x : Instr) → listed old ≡ x ∷ listed new → IsPassed old x new → begun old ≡ executed_at old.bytes.now old.at x (repeat_of x) ++ begun new
begun-taken old new x takes passed =
    let rest : executed_from old.bytes.now (old.at + 2 * instr_length x) (listed new) ≡ begun new = rw (passed.bytes, passed.place) refl in
    ap (executed_from old.bytes.now old.at) takes ∙ ap (λ others. executed_at old.bytes.now old.at x (repeat_of x) ++ others) rest

pub begun-plain : (old new : Instrs) (x : Instr) → listed old ≡ x ∷ listed new → IsPassed old x new → repeat_of x ≡ None → begun old ≡ x ∷ begun new
begun-plain old new x takes passed plain =
    begun-taken old new x takes passed ∙ ap (λ (r : Option Repeat). executed_at old.bytes.now old.at x r ++ begun new) plain

pub begun-repeat : (old new : Instrs) (x : Instr) (r : Repeat) (block : List Instr) → listed old ≡ x ∷ listed new → IsPassed old x new → repeat_of x ≡ Some r → block ≡ behind new.bytes.now old.at r.blocks → begun old ≡ repeated r.passes block ++ begun new
begun-repeat old new x r block takes passed repeats is =
    let here : block ≡ behind old.bytes.now old.at r.blocks = rw (← passed.bytes) is in
    begun-taken old new x takes passed
    ∙ (ap (λ (r : Option Repeat). executed_at old.bytes.now old.at x r ++ begun new) repeats
    ∙ ap (λ instrs. repeated r.passes instrs ++ begun new) (sym here))

-- no instruction of a block is left
pub begun-only : (pass pass' block rest rest' : List Instr) (n : ℕ) → pass ≡ [] → pass' ≡ [] → n ≤ 0 → rest ≡ rest' → pass' ++ rest' ≡ pass ++ (repeated n block ++ rest)
begun-only pass pass' block rest rest' n none none' over is =
    let zero_is : n ≡ 0 = omega arith in
    rw (none, none', zero_is, is) refl

pub begun-first : (pass pass' block rest rest' : List Instr) (n : ℕ) (x : Instr) → pass ≡ [] → pass' ≡ [] → n ≤ 0 → rest ≡ x ∷ rest' → pass ++ (repeated n block ++ rest) ≡ x ∷ (pass' ++ (repeated n block ++ rest'))
begun-first pass pass' block rest rest' n x none none' over is =
    let zero_is : n ≡ 0 = omega arith in
    rw (none, none', zero_is, is) refl
