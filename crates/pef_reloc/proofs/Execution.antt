-- What an iterator gives of a readable program is what the program executes, which is no more than the limit.
use Rattle.std.proofs.Common.{◌≡◌, ℕ, zero, suc, ◌+◌, ◌*◌, ◌-◌, ◌<◌, ◌≤◌, Bool, true, false, nat_lt, List, [], ◌∷◌, ◌++◌, drop, length, Option, None, Some, Result, Ok, Err, refl, ap, ap₂, sym, ◌∙◌, arith}
use Rattle.std.proofs.lemmas.Bool.{ltb-true, ltb-false}
use Rattle.std.proofs.lemmas.List.{length-append}
use Rattle.pef_reloc.specs.declared.fault.RelocFault.{RelocFault}
use Rattle.pef_reloc.specs.declared.instr.Instr.{Instr}
use Rattle.pef_reloc.specs.declared.instr.Repeat.{Repeat}
use Rattle.pef_reloc.specs.Instrs.{instr_length, repeat_of}
use Rattle.pef_reloc.specs.Decoding.{Code, code_at, first_instr}
use Rattle.pef_reloc.specs.Limits.{step_limit}
use Rattle.pef_reloc.specs.Unrolled.{Step, block_of, code_fault, executed_as, instrs_in, instrs_of, place_after, program_fault, repeat_fault, repeated, steps_as, steps_from, unrolled, unrolled_after}
use Rattle.pef_reloc.specs.Kept.Executions.{executed_at, executed_from}
use Rattle.pef_reloc.specs.Kept.Places.{Before}
use Rattle.pef_reloc.proofs.ActLists.{instrs_in-append}
use Rattle.pef_reloc.proofs.Applying.{fine-begins, fine-here, fine-next}
use Rattle.pef_reloc.proofs.CodeLemmas.{code-end, code-next, some_length}
use Rattle.pef_reloc.proofs.Prefixes.{behind-block}

-- instructions without their places
pub instrs_in-steps : (at : ℕ) (instrs : List Instr) → instrs_in (steps_from at instrs) ≡ instrs
instrs_in-steps at [] = refl
instrs_in-steps at (x ∷ xs) = ap (λ others. x ∷ others) (instrs_in-steps (at + 2 * instr_length x) xs)

instrs_in-repeated : (n : ℕ) (steps : List Step) → instrs_in (repeated n steps) ≡ repeated n (instrs_in steps)
instrs_in-repeated zero steps = refl
instrs_in-repeated (suc n) steps = instrs_in-append steps (repeated n steps) ∙ ap (λ others. instrs_in steps ++ others) (instrs_in-repeated n steps)

-- what one instruction executes
executed_same : (bytes : List ℕ) (before : List Instr) (at : ℕ) (x : Instr) (r : Option Repeat) → at ≤ length bytes → Before bytes before at → repeat_fault before r ≡ None → executed_at bytes at x r ≡ instrs_in (executed_as before x r)
executed_same bytes before at x None inside stands none = refl
executed_same bytes before at x (Some r) inside stands none =
    ap (repeated r.passes) (behind-block bytes before r at inside stands none ∙ sym (instrs_in-steps (place_after before - 2 * r.blocks) (block_of before r)))
    ∙ sym (instrs_in-repeated r.passes (steps_from (place_after before - 2 * r.blocks) (block_of before r)))

few_executed : (before : List Instr) (x : Instr) (r : Option Repeat) → length (instrs_in (executed_as before x r)) ≤ steps_as before r
few_executed before x None = omega arith
few_executed before x (Some r) =
    let same : length (instrs_in (repeated r.passes (steps_from (place_after before - 2 * r.blocks) (block_of before r)))) ≡ length (repeated r.passes (block_of before r)) =
    ap (λ (xs : List Instr). length xs) (instrs_in-repeated r.passes (steps_from (place_after before - 2 * r.blocks) (block_of before r)) ∙ ap (repeated r.passes) (instrs_in-steps (place_after before - 2 * r.blocks) (block_of before r)))
    in omega (arith, same)

-- what is executed from a place on, after this many steps
pub record Executing (bytes : List ℕ) (at : ℕ) (before : List Instr) (steps : ℕ) (instrs : List Instr) : Type 0 where
  pub same : executed_from bytes at instrs ≡ instrs_in (unrolled_after before instrs)
  pub few : steps + length (executed_from bytes at instrs) ≤ step_limit

-- the same from any place that is at most n bytes before the end
abbrev Reaches : List ℕ → ℕ → Type 0
Reaches bytes n = (at : ℕ) (before : List Instr) (steps : ℕ) → length bytes ≤ at + n → Before bytes before at → steps ≤ step_limit → code_fault before steps (code_at at (drop at bytes)) ≡ None → Executing bytes at before steps (code_at at (drop at bytes)).instrs

at_end : (bytes : List ℕ) (at : ℕ) (before : List Instr) (steps : ℕ) → length bytes ≤ at → steps ≤ step_limit → Executing bytes at before steps (code_at at (drop at bytes)).instrs
at_end bytes at before steps past under = rw (ap (λ (k : Code). k.instrs) (code-end bytes at past)) (record { same = refl; few = omega (arith, under) })

more : (n : ℕ) (bytes : List ℕ) → Reaches bytes n → (at : ℕ) (before : List Instr) (steps : ℕ) (x : Instr) → length bytes ≤ at + suc n → Before bytes before at → code_fault before steps (code_at at (drop at bytes)) ≡ None → at < length bytes → first_instr at (drop at bytes) ≡ Ok x → Executing bytes at before steps (code_at at (drop at bytes)).instrs
more n bytes later at before steps x fuel stands fine inside here =
    let next : ℕ = at + 2 * instr_length x in
    let some = some_length x in
    let it = fine-here bytes at x before steps inside here fine in
    let rest = later next (x ∷ before) (steps + steps_as before (repeat_of x)) (omega (arith, fuel, some)) (at, refl, here, stands) it.under (fine-next bytes at x before steps inside here fine) in
    let first = executed_same bytes before at x (repeat_of x) (omega (arith, inside)) stands it.block in
    let few : length (executed_at bytes at x (repeat_of x)) ≤ steps_as before (repeat_of x) = rw first (few_executed before x (repeat_of x)) in
    let others : List Instr = (code_at next (drop next bytes)).instrs in
    let both : length (executed_at bytes at x (repeat_of x) ++ executed_from bytes next others) ≡ length (executed_at bytes at x (repeat_of x)) + length (executed_from bytes next others) = length-append (executed_at bytes at x (repeat_of x)) (executed_from bytes next others) in
    rw (ap (λ (k : Code). k.instrs) (code-next bytes at x inside here)) (record {
      same = ap₂ (λ (xs ys : List Instr). xs ++ ys) first rest.same ∙ sym (instrs_in-append (executed_as before x (repeat_of x)) (unrolled_after (x ∷ before) others));
      few = omega (arith, rest.few, few, both);
    })

chosen : (n : ℕ) (bytes : List ℕ) → Reaches bytes n → (at : ℕ) (before : List Instr) (steps : ℕ) (b : Bool) (r : Result Instr RelocFault) → length bytes ≤ at + suc n → Before bytes before at → steps ≤ step_limit → code_fault before steps (code_at at (drop at bytes)) ≡ None → nat_lt at (length bytes) ≡ b → first_instr at (drop at bytes) ≡ r → Executing bytes at before steps (code_at at (drop at bytes)).instrs
chosen n bytes later at before steps false r fuel stands under fine test here = at_end bytes at before steps (ltb-false _ _ test) under
chosen n bytes later at before steps true (Err f) fuel stands under fine test here = absurd (fine-begins bytes at before steps f (ltb-true _ _ test) here fine)
chosen n bytes later at before steps true (Ok x) fuel stands under fine test here = more n bytes later at before steps x fuel stands fine (ltb-true _ _ test) here

executing : (n : ℕ) (bytes : List ℕ) → Reaches bytes n
executing zero bytes at before steps fuel stands under fine = at_end bytes at before steps (omega (arith, fuel)) under
executing (suc n) bytes at before steps fuel stands under fine =
    chosen n bytes (executing n bytes) at before steps (nat_lt at (length bytes)) (first_instr at (drop at bytes)) fuel stands under fine refl refl

-- the whole of a readable program
pub executed-whole : (bytes : List ℕ) → program_fault bytes ≡ None → executed_from bytes 0 (code_at 0 bytes).instrs ≡ instrs_in (unrolled (instrs_of bytes))
unfolding program_fault instrs_of
executed-whole bytes fine = (executing (length bytes) bytes 0 [] 0 (omega arith) refl (omega arith) fine).same

pub executed-few : (bytes : List ℕ) → program_fault bytes ≡ None → length (executed_from bytes 0 (code_at 0 bytes).instrs) ≤ step_limit
unfolding program_fault instrs_of
executed-few bytes fine = let it = executing (length bytes) bytes 0 [] 0 (omega arith) refl (omega arith) fine in omega (arith, it.few)
