-- A program as it is read, instruction by instruction.
use Rattle.std.proofs.Common.{arith, ◌≡◌, ℕ, ◌+◌, ◌*◌, ◌<◌, ◌≤◌, List, [], ◌∷◌, drop, length, Option, None, Some, Ok, Err, refl, ap, sym, ◌∙◌}
use Rattle.std.specs.Option.{option_or}
use Rattle.pef_reloc.specs.declared.fault.RelocFault.{RelocFault}
use Rattle.pef_reloc.specs.declared.instr.Instr.{Instr}
use Rattle.pef_reloc.specs.declared.recent.Reader.{Reader}
use Rattle.pef_reloc.specs.Instrs.{instr_length, repeat_of}
use Rattle.pef_reloc.specs.Decoding.{Code, code_at, first_instr}
use Rattle.pef_reloc.specs.Kept.Places.{Before}
use Rattle.pef_reloc.specs.Kept.Readers.{Marks, Passes}
use Rattle.pef_reloc.specs.Unrolled.{code_fault, instr_fault, instrs_of, program_fault, steps_as, steps_of}
use Rattle.pef_reloc.proofs.StepCounts.{counted-all, steps_after}
use Rattle.pef_reloc.proofs.CodeLemmas.{code-end, code-next, code-fault}

-- the refusal of the rest is that of the program, and its steps are those that are left
pub record ReadLeft (bytes : List ℕ) (at : ℕ) (reader : Reader) : Type 0 where
  pub before : List Instr
  pub stands : Before bytes before at
  pub marks : Marks reader.begins before
  pub rest : code_fault before reader.steps (code_at at (drop at bytes)) ≡ program_fault bytes
  pub counted : reader.steps + steps_after before (code_at at (drop at bytes)).instrs ≡ steps_of bytes

pub read-start : (bytes : List ℕ) (reader : Reader) → Marks reader.begins [] → reader.steps ≡ 0 → ReadLeft bytes 0 reader
unfolding program_fault instrs_of
read-start bytes reader marks steps = record { before = []; stands = refl; marks = marks; rest = rw steps refl; counted = omega (arith, steps, counted-all bytes) }

-- an instruction that isn't refused is passed over
passed : (f : Option RelocFault) (rest last : Option RelocFault) → f ≡ None → option_or (option_or f rest) last ≡ option_or rest last
passed f rest last none = rw none refl

stopped : (f : Option RelocFault) (g : RelocFault) (rest last : Option RelocFault) → f ≡ Some g → option_or (option_or f rest) last ≡ Some g
stopped f g rest last some = rw some refl

pub fault-next : (bytes : List ℕ) (at : ℕ) (x : Instr) (before : List Instr) (steps : ℕ) → at < length bytes → first_instr at (drop at bytes) ≡ Ok x → instr_fault before steps (repeat_of x) ≡ None → code_fault before steps (code_at at (drop at bytes)) ≡ code_fault (x ∷ before) (steps + steps_as before (repeat_of x)) (code_at (at + 2 * instr_length x) (drop (at + 2 * instr_length x) bytes))
fault-next bytes at x before steps under here none =
    ap (code_fault before steps) (code-next bytes at x under here)
    ∙ passed (instr_fault before steps (repeat_of x)) _ _ none

pub fault-here : (bytes : List ℕ) (at : ℕ) (x : Instr) (before : List Instr) (steps : ℕ) (f : RelocFault) → at < length bytes → first_instr at (drop at bytes) ≡ Ok x → instr_fault before steps (repeat_of x) ≡ Some f → code_fault before steps (code_at at (drop at bytes)) ≡ Some f
fault-here bytes at x before steps f under here some =
    ap (code_fault before steps) (code-next bytes at x under here)
    ∙ stopped (instr_fault before steps (repeat_of x)) f _ _ some

pub fault-none : (bytes : List ℕ) (at : ℕ) (before : List Instr) (steps : ℕ) (f : RelocFault) → at < length bytes → first_instr at (drop at bytes) ≡ Err f → code_fault before steps (code_at at (drop at bytes)) ≡ Some f
fault-none bytes at before steps f under here = ap (code_fault before steps) (code-fault bytes at f under here)

pub fault-end : (bytes : List ℕ) (at : ℕ) (before : List Instr) (steps : ℕ) → length bytes ≤ at → code_fault before steps (code_at at (drop at bytes)) ≡ None
fault-end bytes at before steps past = ap (code_fault before steps) (code-end bytes at past)

-- the steps of an instruction are added to those so far
counted-next : (bytes : List ℕ) (at : ℕ) (x : Instr) (before : List Instr) (old new : ℕ) → at < length bytes → first_instr at (drop at bytes) ≡ Ok x → new ≡ old + steps_as before (repeat_of x) → old + steps_after before (code_at at (drop at bytes)).instrs ≡ steps_of bytes
    → new + steps_after (x ∷ before) (code_at (at + 2 * instr_length x) (drop (at + 2 * instr_length x) bytes)).instrs ≡ steps_of bytes
counted-next bytes at x before old new under here more counted =
    let next = ap (λ (code : Code). steps_after before code.instrs) (code-next bytes at x under here) in
    omega (arith, more, next, counted)

pub counted-end : (bytes : List ℕ) (at steps : ℕ) (before : List Instr) → length bytes ≤ at → steps + steps_after before (code_at at (drop at bytes)).instrs ≡ steps_of bytes → steps ≡ steps_of bytes
counted-end bytes at steps before past counted =
    let none = ap (λ (code : Code). steps_after before code.instrs) (code-end bytes at past) in
    omega (arith, none, counted)

-- an instruction was passed
pub read-more : (bytes : List ℕ) (at : ℕ) (old new : Reader) (x : Instr) (left : ReadLeft bytes at old) → at < length bytes → first_instr at (drop at bytes) ≡ Ok x → Passes old new left.before x None → ReadLeft bytes (at + 2 * instr_length x) new
read-more bytes at old new x left under here passes = record {
  before = x ∷ left.before;
  stands = (at, refl, here, left.stands);
  marks = passes.marks refl;
  rest = rw (passes.steps refl) (sym (fault-next bytes at x left.before old.steps under here (sym passes.fault)) ∙ left.rest);
  counted = counted-next bytes at x left.before old.steps new.steps under here (passes.steps refl) left.counted;
}
