-- Instruction by instruction: lists of them, what one adds first, and the fixups left to make.
use Rattle.std.proofs.Common.{◌≡◌, ◌+◌, ◌≤◌, true, List, [], ◌∷◌, ◌++◌, length, refl, ap, sym, ◌∙◌, arith, append_assoc}
use Rattle.std.specs.Option.{is_none}
use Rattle.std.proofs.lemmas.Bool.{and_from, and_parts}
use Rattle.pef_reloc.specs.declared.fixup.Fixup.{Fixup}
use Rattle.pef_reloc.specs.declared.instr.Instr.{Instr}
use Rattle.pef_reloc.specs.Deliveries.{Delivers, MakesFrom, is_flat_instr}
use Rattle.pef_reloc.specs.Instrs.{instr_fits, instrs_fit, program_length, repeat_free, repeat_of}
use Rattle.pef_reloc.specs.Steps.{State, additions, is_flat, next_state, state_after, trace}
use Rattle.pef_reloc.proofs.CodeLemmas.{some_length}

-- the additions of instructions after others
pub trace-append : (xs ys : List Instr) (s : State) → trace (xs ++ ys) s ≡ trace xs s ++ trace ys (state_after xs s)
trace-append [] ys s = refl
trace-append (x ∷ xs) ys s =
    ap (λ fs. additions x s ++ fs) (trace-append xs ys (next_state x s))
    ∙ sym (append_assoc (additions x s) (trace xs (next_state x s)) (trace ys (state_after xs (next_state x s))))

-- the halfwords of instructions after others
pub program_length-append : (xs ys : List Instr) → program_length (xs ++ ys) ≡ program_length xs + program_length ys
program_length-append [] ys = omega arith
program_length-append (x ∷ xs) ys = let e = program_length-append xs ys in omega (arith, e)

-- a list has no more instructions than halfwords, and no more than two halfwords for each
pub count-length : (xs : List Instr) → length xs ≤ program_length xs
count-length [] = omega arith
count-length (x ∷ xs) = omega (arith, some_length x, count-length xs)

-- a flat list is a flat instruction and a flat list
pub record FlatParts (x : Instr) (xs : List Instr) : Type 0 where
  pub first : is_flat_instr x ≡ true
  pub others : is_flat xs ≡ true

pub flat_parts : (x : Instr) (xs : List Instr) → is_flat (x ∷ xs) ≡ true → FlatParts x xs
flat_parts x xs flat =
    let both = and_parts (repeat_free (x ∷ xs)) (instrs_fit (x ∷ xs)) flat in
    let free = and_parts (is_none (repeat_of x)) (repeat_free xs) both.0 in
    let fits = and_parts (instr_fits x) (instrs_fit xs) both.1 in
    record {
      first = and_from (is_none (repeat_of x)) (instr_fits x) free.0 fits.0;
      others = and_from (repeat_free xs) (instrs_fit xs) free.1 fits.1;
    }

pub flat_more : (x : Instr) (xs : List Instr) → is_flat_instr x ≡ true → is_flat xs ≡ true → is_flat (x ∷ xs) ≡ true
flat_more x xs first others =
    let one = and_parts (is_none (repeat_of x)) (instr_fits x) first in
    let more = and_parts (repeat_free xs) (instrs_fit xs) others in
    and_from (repeat_free (x ∷ xs)) (instrs_fit (x ∷ xs))
    (and_from (is_none (repeat_of x)) (repeat_free xs) one.0 more.0)
    (and_from (instr_fits x) (instrs_fit xs) one.1 more.1)

-- flat lists in a row are flat
pub flat-append : (xs ys : List Instr) → is_flat xs ≡ true → is_flat ys ≡ true → is_flat (xs ++ ys) ≡ true
flat-append [] ys left right = right
flat-append (x ∷ xs) ys left right =
    let parts = flat_parts x xs left in
    flat_more x (xs ++ ys) parts.first (flat-append xs ys parts.others right)

-- and so is the second part of one, and the first
pub flat-after : (xs ys : List Instr) → is_flat (xs ++ ys) ≡ true → is_flat ys ≡ true
flat-after [] ys flat = flat
flat-after (x ∷ xs) ys flat = flat-after xs ys (flat_parts x (xs ++ ys) flat).others

pub flat-before : (xs ys : List Instr) → is_flat (xs ++ ys) ≡ true → is_flat xs ≡ true
flat-before [] ys flat = refl
flat-before (x ∷ xs) ys flat =
    let parts = flat_parts x (xs ++ ys) flat in
    flat_more x xs parts.first (flat-before xs ys parts.others)

-- a list that makes fixups delivers some by its first instruction, and makes the others by the rest
pub record FirstDelivers (x : Instr) (xs : List Instr) (s : State) (fixups : List Fixup) : Type 0 where
  pub left : List Fixup
  pub delivers : Delivers x s fixups left
  pub makes : MakesFrom (next_state x s) left xs

pub first_delivers : (x : Instr) (xs : List Instr) (s : State) (fixups : List Fixup) → MakesFrom s fixups (x ∷ xs) → FirstDelivers x xs s fixups
first_delivers x xs s fixups makes = record {
  left = trace xs (next_state x s);
  delivers = record { is = sym makes.is };
  makes = record { is = refl };
}

-- an instruction in front of a list
pub makes_more : (x : Instr) (xs : List Instr) (s : State) (fixups left : List Fixup) → Delivers x s fixups left → MakesFrom (next_state x s) left xs → MakesFrom s fixups (x ∷ xs)
makes_more x xs s fixups left delivers makes = record { is = ap (λ fs. additions x s ++ fs) makes.is ∙ sym delivers.is }
