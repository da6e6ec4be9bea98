-- The steps of a program, which a reader adds up instruction by instruction.
use Rattle.std.proofs.Common.{◌≡◌, ℕ, suc, ◌+◌, ◌-◌, ◌*◌, List, [], ◌∷◌, ◌++◌, cond, length, Option, None, Some, refl, sym, ap, ◌∙◌, arith, length-append}
use Rattle.std.specs.Option.{is_some}
use Rattle.pef_reloc.specs.declared.instr.Instr.{Instr}
use Rattle.pef_reloc.specs.declared.instr.Repeat.{Repeat}
use Rattle.pef_reloc.specs.Instrs.{instr_length, repeat_of}
use Rattle.pef_reloc.proofs.Windows.{length-repeated}
use Rattle.pef_reloc.specs.Unrolled.{block_of, executed_as, instrs_of, place_after, repeat_count, repeated, steps_as, steps_from, steps_of, unrolled_after, Step}

-- the steps that a list of instructions takes after others
abbrev pub steps_after : List Instr → List Instr → ℕ
steps_after before [] = 0
steps_after before (instr ∷ instrs) = steps_as before (repeat_of instr) + steps_after (instr ∷ before) instrs

length-steps : (at : ℕ) (block : List Instr) → length (steps_from at block) ≡ length block
length-steps at [] = refl
length-steps at (x ∷ xs) = ap suc (length-steps (at + 2 * instr_length x) xs)

-- a block has as many steps as instructions, however often it is repeated
same-repeated : (n at : ℕ) (block : List Instr) → length (repeated n (steps_from at block)) ≡ length (repeated n block)
same-repeated n at block = length-repeated n (steps_from at block) ∙ ap (λ k. n * k) (length-steps at block) ∙ sym (length-repeated n block)

-- what a program executes, and its repeats, are its steps
counted-after : (before instrs : List Instr) → length (unrolled_after before instrs) + repeat_count instrs ≡ steps_after before instrs
counted-after before [] = refl
counted-after before (instr ∷ instrs) = here (repeat_of instr) (counted-after (instr ∷ before) instrs)
  where
    rest : List Step
    rest = unrolled_after (instr ∷ before) instrs

    here : (r : Option Repeat) → length rest + repeat_count instrs ≡ steps_after (instr ∷ before) instrs → length (executed_as before instr r ++ rest) + cond (is_some r) (suc (repeat_count instrs)) (repeat_count instrs) ≡ steps_as before r + steps_after (instr ∷ before) instrs
    here None later = omega (arith, later)
    here (Some r) later =
        let at = place_after before - 2 * r.blocks in
        omega (arith, later, length-append (repeated r.passes (steps_from at (block_of before r))) rest, same-repeated r.passes at (block_of before r))

pub counted-all : (bytes : List ℕ) → steps_after [] (instrs_of bytes) ≡ steps_of bytes
unfolding steps_of
counted-all bytes = sym (counted-after [] (instrs_of bytes))
