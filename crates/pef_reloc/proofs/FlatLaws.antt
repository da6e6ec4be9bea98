-- Laws for the crates that write programs: how bytes that spell instructions are read, and the
-- effect of instructions without repeats.
use Rattle.std.proofs.Common.{◌≡◌, ℕ, ◌+◌, ◌*◌, ◌<◌, ◌≤◌, true, nat_lt, List, [], ◌∷◌, ◌++◌, drop, length, map, Option, None, Some, refl, ap, sym, ◌∙◌, arith, length-append, append_assoc}
use Rattle.std.proofs.lemmas.List.{map-append}
use Rattle.std.proofs.Math.Seq.{drop-append_seam}
use Rattle.std.specs.Option.{is_none}
use Rattle.std.proofs.lemmas.Bool.{and_parts, le-leb}
use Rattle.pef_reloc.specs.declared.instr.Instr.{Instr}
use Rattle.pef_reloc.specs.declared.instr.Instr.TheVariants.{BySectDWithSkip, BySectC, BySectD, TVector12, TVector8, VTable8, ImportRun, SmByImport, SmSetSectC, SmSetSectD, SmBySection, IncrPosition, SmRepeat, SetPosition, LgByImport, LgRepeat, LgBySection, LgSetSectC, LgSetSectD}
use Rattle.pef_reloc.specs.declared.instr.Repeat.{Repeat}
use Rattle.pef_reloc.specs.Instrs.{halfword_bytes, halfwords_of, instr_fits, instr_length, instrs_fit, program_length, repeat_free, repeat_of, spelled}
use Rattle.pef_reloc.specs.Decoding.{Code, code_more, code_at}
use Rattle.pef_reloc.specs.Steps.{State, Act, add, need, acts_from, additions, all_below, is_flat, named_sections, names_below, next_state, start, trace}
use Rattle.pef_reloc.specs.Limits.{step_limit}
use Rattle.pef_reloc.specs.Unrolled.{first_fault, instrs_in, instrs_of, program_fault, unrolled, unrolled_after}
use Rattle.pef_reloc.specs.Applied.{Addresses, applied, relocated}
use Rattle.pef_reloc.proofs.Acts.{need-there}
use Rattle.pef_reloc.proofs.ActLists.{applied-append, then_same}
use Rattle.pef_reloc.proofs.CodeLemmas.{code_at-begins, code_at-nothing, some_length}
use Rattle.pef_reloc.proofs.Decodes.{reads_back}
use Rattle.pef_reloc.proofs.Spellings.{spelled-nothing, spelled-one}

-- an instruction is spelled in two bytes a halfword
pub length_spelling : (x : Instr) → length (halfword_bytes (halfwords_of x)) ≡ 2 * instr_length x
unfolding halfwords_of
length_spelling (BySectDWithSkip skip count) = refl
length_spelling (BySectC n) = refl
length_spelling (BySectD n) = refl
length_spelling (TVector12 n) = refl
length_spelling (TVector8 n) = refl
length_spelling (VTable8 n) = refl
length_spelling (ImportRun n) = refl
length_spelling (SmByImport k) = refl
length_spelling (SmSetSectC k) = refl
length_spelling (SmSetSectD k) = refl
length_spelling (SmBySection k) = refl
length_spelling (IncrPosition e) = refl
length_spelling (SmRepeat blocks count) = refl
length_spelling (SetPosition q) = refl
length_spelling (LgByImport k) = refl
length_spelling (LgRepeat blocks count) = refl
length_spelling (LgBySection k) = refl
length_spelling (LgSetSectC k) = refl
length_spelling (LgSetSectD k) = refl

-- and so are instructions one after the other
pub length-spelled : (xs : List Instr) → length (spelled xs) ≡ 2 * program_length xs
length-spelled [] = ap length spelled-nothing
length-spelled (x ∷ xs) =
    omega (arith, ap length (spelled-one x xs) ∙ length-append (halfword_bytes (halfwords_of x)) (spelled xs), length_spelling x, length-spelled xs)

-- the bytes after those of an instruction
pub behind : (x : Instr) (rest : List ℕ) → drop (2 * instr_length x) (halfword_bytes (halfwords_of x) ++ rest) ≡ rest
behind x rest =
    ap (λ n. drop n (halfword_bytes (halfwords_of x) ++ rest)) (sym (length_spelling x))
    ∙ drop-append_seam (halfword_bytes (halfwords_of x)) rest

-- the bytes that spell instructions that fit are read as these instructions
pub code_at-spelled : (at : ℕ) (xs : List Instr) → instrs_fit xs ≡ true → code_at at (spelled xs) ≡ record { instrs = xs; fault = None }
code_at-spelled at [] fits = ap (code_at at) spelled-nothing ∙ code_at-nothing at
code_at-spelled at (x ∷ xs) fits =
    let p = and_parts (instr_fits x) (instrs_fit xs) fits in
    let some : 0 < length (halfword_bytes (halfwords_of x) ++ spelled xs) = omega (arith, length-append (halfword_bytes (halfwords_of x)) (spelled xs), length_spelling x, some_length x) in
    ap (code_at at) (spelled-one x xs)
    ∙ (code_at-begins at (halfword_bytes (halfwords_of x) ++ spelled xs) some
    ∙ rw (reads_back at x (spelled xs) p.0) (ap (code_more x) (ap (code_at (at + 2 * instr_length x)) (behind x (spelled xs)) ∙ code_at-spelled (at + 2 * instr_length x) xs p.1)))

pub instrs_of-spelled : (xs : List Instr) → instrs_fit xs ≡ true → instrs_of (spelled xs) ≡ xs
unfolding instrs_of
instrs_of-spelled xs fits = ap (λ (code : Code). code.instrs) (code_at-spelled 0 xs fits)

none_is : (r : Option Repeat) → is_none r ≡ true → r ≡ None
none_is None e = refl
none_is (Some r) e = absurd (cc e)

-- instructions without repeats are refused only for their number
pub first_fault-flat : (before : List Instr) (steps : ℕ) (xs : List Instr) → repeat_free xs ≡ true → steps + length xs ≤ step_limit → first_fault before steps xs ≡ None
first_fault-flat before steps [] free few = refl
first_fault-flat before steps (x ∷ xs) free few =
    let p = and_parts (is_none (repeat_of x)) (repeat_free xs) free in
    let under = le-leb (steps + 1) step_limit (omega arith) in
    rw (none_is (repeat_of x) p.0, under) (first_fault-flat (x ∷ before) (steps + 1) xs p.1 (omega arith))

-- and execute themselves
pub unrolled_after-flat : (before xs : List Instr) → repeat_free xs ≡ true → instrs_in (unrolled_after before xs) ≡ xs
unrolled_after-flat before [] free = refl
unrolled_after-flat before (x ∷ xs) free =
    let p = and_parts (is_none (repeat_of x)) (repeat_free xs) free in
    rw (none_is (repeat_of x) p.0) (ap (λ ys. x ∷ ys) (unrolled_after-flat (x ∷ before) xs p.1))

pub unrolled-flat : (xs : List Instr) → repeat_free xs ≡ true → instrs_in (unrolled xs) ≡ xs
unrolled-flat xs free = unrolled_after-flat [] xs free

-- the bytes of a flat list are a readable program
pub program_fault-spelled : (xs : List Instr) → is_flat xs ≡ true → length xs ≤ step_limit → program_fault (spelled xs) ≡ None
unfolding program_fault
program_fault-spelled xs flat few =
    let p = and_parts (repeat_free xs) (instrs_fit xs) flat in
    rw (code_at-spelled 0 xs p.1, first_fault-flat [] 0 xs p.0 (omega arith)) refl

-- and have the effect of the list
pub relocated-spelled : (xs : List Instr) (a : Addresses) (memory : List ℕ) → is_flat xs ≡ true → relocated (spelled xs) a memory ≡ applied a (acts_from xs start) memory
unfolding relocated
relocated-spelled xs a memory flat =
    let p = and_parts (repeat_free xs) (instrs_fit xs) flat in
    ap (λ ys. applied a (acts_from ys start) memory) (ap (λ ys. instrs_in (unrolled ys)) (instrs_of-spelled xs p.1) ∙ unrolled-flat xs p.0)

-- a look for sections that exist has no effect
needs_met : (a : Addresses) (p : ℕ) (sections : List ℕ) (acts : List Act) (memory : List ℕ) → all_below (length a.sections) sections ≡ true → applied a (map (need p) sections ++ acts) memory ≡ applied a acts memory
needs_met a p [] acts memory below = refl
needs_met a p (k ∷ sections) acts memory below =
    let q = and_parts (nat_lt k (length a.sections)) (all_below (length a.sections) sections) below in
    need-there a p k (map (need p) sections ++ acts) memory q.0 ∙ needs_met a p sections acts memory q.1

-- instructions that name sections that exist do their additions, with no other refusal
pub applied-trace : (a : Addresses) (xs : List Instr) (s : State) (memory : List ℕ) → names_below (length a.sections) xs ≡ true → applied a (acts_from xs s) memory ≡ applied a (map add (trace xs s)) memory
applied-trace a [] s memory below = refl
applied-trace a (x ∷ xs) s memory below =
    let p = and_parts (all_below (length a.sections) (named_sections x)) (names_below (length a.sections) xs) below in
    ap (λ acts. applied a acts memory) (append_assoc (map (need s.position) (named_sections x)) (map add (additions x s)) (acts_from xs (next_state x s)))
    ∙ (needs_met a s.position (named_sections x) (map add (additions x s) ++ acts_from xs (next_state x s)) memory p.0
    ∙ (applied-append a (map add (additions x s)) (acts_from xs (next_state x s)) memory
    ∙ (then_same (applied a (map add (additions x s)) memory) (applied a (acts_from xs (next_state x s))) (applied a (map add (trace xs (next_state x s)))) (λ m. applied-trace a xs (next_state x s) m p.1)
    ∙ (sym (applied-append a (map add (additions x s)) (map add (trace xs (next_state x s))) memory)
    ∙ ap (λ acts. applied a acts memory) (sym (map-append add (additions x s) (trace xs (next_state x s))))))))
