-- How many additions a program makes.
use Rattle.std.proofs.Common.{◌≡◌, ℕ, zero, suc, ◌+◌, ◌*◌, List, [], ◌∷◌, ◌++◌, length, None, refl, ap, sym, ◌∙◌, arith, length-append}
use Rattle.pef_reloc.specs.declared.fixup.Base.{Base}
use Rattle.pef_reloc.specs.declared.instr.Instr.{Instr}
use Rattle.pef_reloc.specs.declared.instr.Instr.TheVariants.{BySectDWithSkip, BySectC, BySectD, TVector12, TVector8, VTable8, ImportRun, SmByImport, SmSetSectC, SmSetSectD, SmBySection, IncrPosition, SmRepeat, SetPosition, LgByImport, LgRepeat, LgBySection, LgSetSectC, LgSetSectD}
use Rattle.pef_reloc.specs.declared.program.Instrs.{Instrs}
use Rattle.pef_reloc.specs.Instrs.{repeat_of}
use Rattle.pef_reloc.specs.Kept.Counts.{addition_count, additions_in}
use Rattle.pef_reloc.specs.Kept.Executions.{IsPassed, begun, executed_at}
use Rattle.pef_reloc.specs.Steps.{State, additions, next_state, numbered, pairs, row, start, trace}
use Rattle.pef_reloc.specs.Traces.{fixups_of}
use Rattle.pef_reloc.specs.Unrolled.{instrs_in, instrs_of, program_fault, repeated, unrolled}
use Rattle.pef_reloc.specs.Views.{listed, placed}
use Rattle.pef_reloc.proofs.Executing.{begun-taken}
use Rattle.pef_reloc.proofs.Execution.{executed-whole, instrs_in-steps}

row-length : (n p w : ℕ) (b : Base) → length (row n p w b) ≡ n
unfolding row
row-length zero p w b = refl
row-length (suc n) p w b = ap suc (row-length n (p + w) w b)

pairs-length : (n p w : ℕ) (b b' : Base) → length (pairs n p w b b') ≡ 2 * n
unfolding pairs
pairs-length zero p w b b' = refl
pairs-length (suc n) p w b b' = let rest = pairs-length n (p + w) w b b' in omega (arith, rest)

numbered-length : (n p m : ℕ) → length (numbered n p m) ≡ n
unfolding numbered
numbered-length zero p m = refl
numbered-length (suc n) p m = ap suc (numbered-length n (p + 4) (m + 1))

instr-length : (instr : Instr) (s : State) → length (additions instr s) ≡ addition_count instr
instr-length (BySectDWithSkip skip count) s = row-length count _ _ _
instr-length (BySectC n) s = row-length n _ _ _
instr-length (BySectD n) s = row-length n _ _ _
instr-length (TVector12 n) s = pairs-length n _ _ _ _
instr-length (TVector8 n) s = pairs-length n _ _ _ _
instr-length (VTable8 n) s = row-length n _ _ _
instr-length (ImportRun n) s = numbered-length n _ _
instr-length (SmByImport k) s = refl
instr-length (SmSetSectC k) s = refl
instr-length (SmSetSectD k) s = refl
instr-length (SmBySection k) s = refl
instr-length (IncrPosition e) s = refl
instr-length (SmRepeat blocks count) s = refl
instr-length (SetPosition q) s = refl
instr-length (LgByImport k) s = refl
instr-length (LgRepeat blocks count) s = refl
instr-length (LgBySection k) s = refl
instr-length (LgSetSectC k) s = refl
instr-length (LgSetSectD k) s = refl

trace-length : (instrs : List Instr) (s : State) → length (trace instrs s) ≡ additions_in instrs
trace-length [] s = refl
trace-length (x ∷ xs) s =
    let here = instr-length x s in
    let rest = trace-length xs (next_state x s) in
    let both = length-append (additions x s) (trace xs (next_state x s)) in
    omega (arith, here, rest, both)

in-append : (xs ys : List Instr) → additions_in (xs ++ ys) ≡ additions_in xs + additions_in ys
in-append [] ys = omega arith
in-append (x ∷ xs) ys = let rest = in-append xs ys in omega (arith, rest)

-- the passes of a block
pub in-repeated : (n : ℕ) (block : List Instr) → additions_in (repeated n block) ≡ n * additions_in block
in-repeated zero block = omega arith
in-repeated (suc n) block = let rest = in-repeated n block in let both = in-append block (repeated n block) in omega (arith, rest, both)

-- the additions of a readable program
pub whole-count : (bytes : List ℕ) (walk : Instrs) → program_fault bytes ≡ None → walk.bytes.now ≡ bytes → walk.at ≡ 0 → additions_in (begun walk) ≡ length (fixups_of bytes)
unfolding fixups_of
whole-count bytes walk fine same at = rw (same, at) (ap additions_in (executed-whole bytes fine) ∙ sym (trace-length (instrs_in (unrolled (instrs_of bytes))) start))

-- an instruction that is taken, with its place
pub listed-taken : (old new : Instrs) (at : ℕ) (x : Instr) → placed old ≡ (at, x) ∷ placed new → listed old ≡ x ∷ listed new
listed-taken old new at x takes =
    sym (instrs_in-steps old.at (listed old)) ∙ (ap instrs_in takes ∙ ap (λ xs. x ∷ xs) (instrs_in-steps new.at (listed new)))

-- .. and the additions of it and of the others
pub next-count : (old new : Instrs) (at : ℕ) (x : Instr) (count : ℕ) → placed old ≡ (at, x) ∷ placed new → IsPassed old x new → at ≡ old.at → count ≡ additions_in (executed_at new.bytes.now at x (repeat_of x)) → additions_in (begun old) ≡ count + additions_in (begun new)
next-count old new at x count takes passed place is =
    let here : count ≡ additions_in (executed_at old.bytes.now old.at x (repeat_of x)) = rw (← passed.bytes, ← place) is in
    ap additions_in (begun-taken old new x (listed-taken old new at x takes) passed)
    ∙ (in-append (executed_at old.bytes.now old.at x (repeat_of x)) (begun new) ∙ ap (λ n. n + additions_in (begun new)) (sym here))

-- nothing is left
pub none-left : (walk : Instrs) → placed walk ≡ [] → additions_in (begun walk) ≡ 0
none-left walk none =
    let nothing : listed walk ≡ [] = sym (instrs_in-steps walk.at (listed walk)) ∙ ap instrs_in none in
    rw nothing refl
