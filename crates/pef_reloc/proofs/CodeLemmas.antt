-- The code of a program's bytes, instruction by instruction.
use Rattle.std.proofs.Common.{◌≡◌, ℕ, zero, suc, ◌+◌, ◌*◌, ◌<◌, ◌≤◌, List, [], ◌∷◌, length, drop, Some, Result, Ok, Err, refl, ap, ◌∙◌, arith, length-drop}
use Rattle.std.proofs.lemmas.List.{drop-drop, drop_all}
use Rattle.pef_reloc.specs.declared.fault.RelocFault.{RelocFault}
use Rattle.pef_reloc.specs.declared.instr.Instr.{Instr}
use Rattle.pef_reloc.specs.declared.instr.Instr.TheVariants.{SetPosition, LgByImport, LgRepeat, LgBySection, LgSetSectC, LgSetSectD}
use Rattle.pef_reloc.specs.Instrs.{instr_length}
use Rattle.pef_reloc.specs.Decoding.{Code, no_code, code_more, code_from, code_within, code_at, first_instr}

-- an instruction has a halfword
pub some_length : (instr : Instr) → 1 ≤ instr_length instr
some_length (SetPosition q) = omega arith
some_length (LgByImport k) = omega arith
some_length (LgRepeat blocks count) = omega arith
some_length (LgBySection k) = omega arith
some_length (LgSetSectC k) = omega arith
some_length (LgSetSectD k) = omega arith
some_length _ = omega arith

-- the code after an instruction, however many instructions are allowed
from_enough : (r : Result Instr RelocFault) (f g : Instr → Code) → ((instr : Instr) → f instr ≡ g instr) → code_from r f ≡ code_from r g
from_enough (Ok instr) f g e = ap (code_more instr) (e instr)
from_enough (Err fault) f g e = refl

pub code_within-enough : (n m at : ℕ) (bytes : List ℕ) → length bytes ≤ n → length bytes ≤ m → code_within n at bytes ≡ code_within m at bytes
unfolding code_within
code_within-enough zero zero at bytes low high = refl
code_within-enough zero (suc m) at [] low high = refl
code_within-enough zero (suc m) at (b ∷ bytes) low high = absurd (omega arith)
code_within-enough (suc n) zero at [] low high = refl
code_within-enough (suc n) zero at (b ∷ bytes) low high = absurd (omega arith)
code_within-enough (suc n) (suc m) at [] low high = refl
code_within-enough (suc n) (suc m) at (b ∷ bytes) low high =
    from_enough (first_instr at (b ∷ bytes)) (λ instr. code_within n (at + 2 * instr_length instr) (drop (2 * instr_length instr) (b ∷ bytes))) (λ instr. code_within m (at + 2 * instr_length instr) (drop (2 * instr_length instr) (b ∷ bytes)))
    (λ instr. let some = some_length instr in
    code_within-enough n m (at + 2 * instr_length instr) (drop (2 * instr_length instr) (b ∷ bytes))
    (omega (arith, length-drop (2 * instr_length instr) (b ∷ bytes)))
    (omega (arith, length-drop (2 * instr_length instr) (b ∷ bytes))))

-- the code of some bytes begins with their first instruction
pub code_at-begins : (at : ℕ) (bytes : List ℕ) → 0 < length bytes → code_at at bytes ≡ code_from (first_instr at bytes) (λ instr. code_at (at + 2 * instr_length instr) (drop (2 * instr_length instr) bytes))
unfolding code_at code_within
code_at-begins at [] some = absurd (omega arith)
code_at-begins at (b ∷ bytes) some =
    from_enough (first_instr at (b ∷ bytes)) (λ instr. code_within (length bytes) (at + 2 * instr_length instr) (drop (2 * instr_length instr) (b ∷ bytes))) (λ instr. code_at (at + 2 * instr_length instr) (drop (2 * instr_length instr) (b ∷ bytes)))
    (λ instr. let some = some_length instr in
    code_within-enough (length bytes) (length (drop (2 * instr_length instr) (b ∷ bytes))) (at + 2 * instr_length instr) (drop (2 * instr_length instr) (b ∷ bytes))
    (omega (arith, length-drop (2 * instr_length instr) (b ∷ bytes))) (omega arith))

pub code_at-nothing : (at : ℕ) → code_at at [] ≡ no_code
unfolding code_at code_within
code_at-nothing at = refl

-- no bytes are left
pub code-end : (bytes : List ℕ) (at : ℕ) → length bytes ≤ at → code_at at (drop at bytes) ≡ no_code
code-end bytes at past = rw (drop_all at bytes past) (code_at-nothing at)

-- an instruction at a place, and the code after it
pub code-next : (bytes : List ℕ) (at : ℕ) (instr : Instr) → at < length bytes → first_instr at (drop at bytes) ≡ Ok instr → code_at at (drop at bytes) ≡ code_more instr (code_at (at + 2 * instr_length instr) (drop (at + 2 * instr_length instr) bytes))
code-next bytes at instr under e =
    let some : 0 < length (drop at bytes) = omega (arith, length-drop at bytes) in
    code_at-begins at (drop at bytes) some ∙ rw (e, drop-drop) refl

-- no instruction at a place
pub code-fault : (bytes : List ℕ) (at : ℕ) (f : RelocFault) → at < length bytes → first_instr at (drop at bytes) ≡ Err f → code_at at (drop at bytes) ≡ record { instrs = []; fault = Some f }
code-fault bytes at f under e =
    let some : 0 < length (drop at bytes) = omega (arith, length-drop at bytes) in
    code_at-begins at (drop at bytes) some ∙ rw e refl

-- and at most two
pub most_length : (instr : Instr) → instr_length instr ≤ 2
most_length (SetPosition q) = omega arith
most_length (LgByImport k) = omega arith
most_length (LgRepeat blocks count) = omega arith
most_length (LgBySection k) = omega arith
most_length (LgSetSectC k) = omega arith
most_length (LgSetSectD k) = omega arith
most_length _ = omega arith
