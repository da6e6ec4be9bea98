-- Instructions between two places of the bytes, as a loop runs them.
use Rattle.std.proofs.Common.{◌≡◌, ℕ, zero, suc, ◌+◌, ◌*◌, ◌-◌, ◌<◌, ◌≤◌, Bool, true, false, cond, List, [], ◌∷◌, ◌++◌, drop, nat_le, None, Some, Result, Ok, Err, refl, sym, subst, ◌∙◌, arith}
use Rattle.std.proofs.lemmas.Bool.{leb-true}
use Rattle.pef_reloc.specs.declared.fault.RelocFault.{RelocFault}
use Rattle.pef_reloc.specs.declared.fault.RelocFault.TheVariants.{RepeatCuts}
use Rattle.pef_reloc.specs.declared.instr.Instr.{Instr}
use Rattle.pef_reloc.specs.declared.instr.Repeat.{Repeat}
use Rattle.pef_reloc.specs.declared.machine.Machine.{Machine}
use Rattle.pef_reloc.specs.Decoding.{first_instr}
use Rattle.pef_reloc.specs.Instrs.{instr_length}
use Rattle.pef_reloc.specs.Steps.{State}
use Rattle.pef_reloc.specs.Unrolled.{reached, repeated, block_of, block_fault, place_after, repeat_fault, Step, steps_from}
use Rattle.pef_reloc.specs.Applied.{Addresses}
use Rattle.pef_reloc.specs.Kept.Machines.{Holds, Moves, Runs}
use Rattle.pef_reloc.specs.Kept.Places.{Before, Spans}
use Rattle.pef_reloc.proofs.CodeLemmas.{some_length}
use Rattle.pef_reloc.proofs.Runs.{Leaves, leaves-all, leaves-more, leaves-fault, leaves-none, leaves-holds}

-- the place that instructions end at isn't before the one that they begin at
pub spans-order : (bytes : List ℕ) (from : ℕ) (instrs : List Instr) (to : ℕ) → Spans bytes from instrs to → from ≤ to
spans-order bytes from [] to spans = omega arith
spans-order bytes from (x ∷ xs) to spans =
    let later = spans-order bytes (from + 2 * instr_length x) xs to spans.1 in
    omega (arith, later)

-- the instructions of a block that are left from a place on
pub record BlockLeft (a : Addresses) (m : Machine) (memory bytes : List ℕ) (at to : ℕ) (m0 : Machine) (whole : List ℕ) (block : List Step) : Type 0 where
  pub rest : List Instr
  pub spans : Spans bytes at rest to
  pub leaves : (s : State) → Holds a m0 s → Leaves a m memory (steps_from at rest) whole block s

-- an instruction that ran
more : (a : Addresses) (m m' : Machine) (memory memory' bytes : List ℕ) (at to : ℕ) (m0 : Machine) (whole : List ℕ) (block : List Step) (x : Instr) (rest : List Instr) → Spans bytes at rest to → ((s : State) → Holds a m0 s → Leaves a m memory (steps_from at rest) whole block s) → at < to → first_instr at (drop at bytes) ≡ Ok x → Runs a m m' memory memory' ((at, x) ∷ []) None → BlockLeft a m' memory' bytes (at + 2 * instr_length x) to m0 whole block
more a m m' memory memory' bytes at to m0 whole block x [] spans leaves under here ran = absurd (omega arith)
more a m m' memory memory' bytes at to m0 whole block x (y ∷ ys) spans leaves under here ran =
    let same : y ≡ x = cc (spans.0, here) in
    record {
      rest = ys;
      spans = let P : Instr → Type 0 = λ z. Spans bytes (at + 2 * instr_length z) ys to in subst P same spans.1;
      leaves = λ s h. let P : Instr → Type 0 = λ z. Leaves a m memory ((at, z) ∷ steps_from (at + 2 * instr_length z) ys) whole block s in
          leaves-more a m m' memory memory' ((at, x) ∷ []) (steps_from (at + 2 * instr_length x) ys) whole block s (subst P same (leaves s h)) ran;
    }

pub block-more : (a : Addresses) (m m' : Machine) (memory memory' bytes : List ℕ) (at to : ℕ) (m0 : Machine) (whole : List ℕ) (block : List Step) (x : Instr) → BlockLeft a m memory bytes at to m0 whole block → at < to → first_instr at (drop at bytes) ≡ Ok x → Runs a m m' memory memory' ((at, x) ∷ []) None → BlockLeft a m' memory' bytes (at + 2 * instr_length x) to m0 whole block
block-more a m m' memory memory' bytes at to m0 whole block x left = more a m m' memory memory' bytes at to m0 whole block x left.rest left.spans left.leaves

-- an instruction that was refused
faulted : (a : Addresses) (m m' : Machine) (memory memory' bytes : List ℕ) (at to : ℕ) (m0 : Machine) (whole : List ℕ) (block : List Step) (x : Instr) (f : RelocFault) (rest : List Instr) → Spans bytes at rest to → ((s : State) → Holds a m0 s → Leaves a m memory (steps_from at rest) whole block s) → at < to → first_instr at (drop at bytes) ≡ Ok x → Runs a m m' memory memory' ((at, x) ∷ []) (Some f) → Runs a m0 m' whole memory' block (Some f)
faulted a m m' memory memory' bytes at to m0 whole block x f [] spans leaves under here ran = absurd (omega arith)
faulted a m m' memory memory' bytes at to m0 whole block x f (y ∷ ys) spans leaves under here ran =
    let same : y ≡ x = cc (spans.0, here) in
    record {
      does = λ s h. let P : Instr → Type 0 = λ z. Leaves a m memory ((at, z) ∷ steps_from (at + 2 * instr_length z) ys) whole block s in
          leaves-fault a m m' memory memory' ((at, x) ∷ []) (steps_from (at + 2 * instr_length x) ys) whole block s f (subst P same (leaves s h)) ran;
      holds = λ s h none. absurd (cc none);
    }

pub block-fault : (a : Addresses) (m m' : Machine) (memory memory' bytes : List ℕ) (at to : ℕ) (m0 : Machine) (whole : List ℕ) (block : List Step) (x : Instr) (f : RelocFault) → BlockLeft a m memory bytes at to m0 whole block → at < to → first_instr at (drop at bytes) ≡ Ok x → Runs a m m' memory memory' ((at, x) ∷ []) (Some f) → Runs a m0 m' whole memory' block (Some f)
block-fault a m m' memory memory' bytes at to m0 whole block x f left = faulted a m m' memory memory' bytes at to m0 whole block x f left.rest left.spans left.leaves

-- an instruction begins at a place inside a block
pub begins : (bytes : List ℕ) (at to : ℕ) (f : RelocFault) (rest : List Instr) → Spans bytes at rest to → at < to → first_instr at (drop at bytes) ≡ Err f → ⊥
begins bytes at to f [] spans under none = absurd (omega arith)
begins bytes at to f (y ∷ ys) spans under none = let no : Ok y ≡ Err f = sym spans.0 ∙ none in cc no

pub block-begins : (a : Addresses) (m : Machine) (memory bytes : List ℕ) (at to : ℕ) (m0 : Machine) (whole : List ℕ) (block : List Step) (f : RelocFault) → BlockLeft a m memory bytes at to m0 whole block → at < to → first_instr at (drop at bytes) ≡ Err f → ⊥
block-begins a m memory bytes at to m0 whole block f left = begins bytes at to f left.rest left.spans

-- a block that is run
ended : (a : Addresses) (m : Machine) (memory bytes : List ℕ) (at to : ℕ) (m0 : Machine) (whole : List ℕ) (block : List Step) (rest : List Instr) → Spans bytes at rest to → ((s : State) → Holds a m0 s → Leaves a m memory (steps_from at rest) whole block s) → to ≤ at → Runs a m0 m whole memory block None
ended a m memory bytes at to m0 whole block [] spans leaves past = record {
  does = λ s h. leaves-none a m memory whole block s (leaves s h);
  holds = λ s h none. leaves-holds a m memory whole block s (leaves s h);
}
ended a m memory bytes at to m0 whole block (y ∷ ys) spans leaves past =
    let later = spans-order bytes (at + 2 * instr_length y) ys to spans.1 in
    let some = some_length y in
    absurd (omega (arith, later, some))

pub block-end : (a : Addresses) (m : Machine) (memory bytes : List ℕ) (at to : ℕ) (m0 : Machine) (whole : List ℕ) (block : List Step) → BlockLeft a m memory bytes at to m0 whole block → to ≤ at → Runs a m0 m whole memory block None
block-end a m memory bytes at to m0 whole block left = ended a m memory bytes at to m0 whole block left.rest left.spans left.leaves

-- one more pass of a block
pub repeated-more : (n i : ℕ) (block : List Step) → i < n → repeated (n - i) block ≡ block ++ repeated (n - (i + 1)) block
repeated-more n i block under = let e : n - i ≡ suc (n - (i + 1)) = omega arith in rw e refl

pub repeated-end : (n i : ℕ) (block : List Step) → n ≤ i → repeated (n - i) block ≡ []
repeated-end n i block past = let e : n - i ≡ 0 = omega arith in rw e refl

-- the place that a repeat reaches back to, and the instructions from there on
pub record Reach (bytes : List ℕ) (at n : ℕ) (block : List Instr) (to : ℕ) : Type 0 where
  pub room : 2 * n ≤ at
  pub spans : Spans bytes (at - 2 * n) block to

chosen : (b : Bool) (r : Result (List Instr) (ℕ → RelocFault)) (f : ℕ → RelocFault) (block : List Instr) → cond b r (Err f) ≡ Ok block → (b ≡ true) × (r ≡ Ok block)
chosen true r f block e = (refl, e)
chosen false r f block e = absurd (cc e)

pub reach : (bytes : List ℕ) (before : List Instr) (n at : ℕ) (acc block : List Instr) (to : ℕ) → Before bytes before at → Spans bytes at acc to → reached before n acc ≡ Ok block → Reach bytes at n block to
reach bytes [] zero at acc block to stands spans e =
    let same : acc ≡ block = cc e in
    let P : List Instr → Type 0 = λ xs. Spans bytes at xs to in
    let Q : ℕ → Type 0 = λ k. Spans bytes k block to in
    let none : at ≡ at - 2 * 0 = omega arith in
    record { room = omega arith; spans = subst Q none (subst P same spans) }
reach bytes (x ∷ before) zero at acc block to stands spans e =
    let same : acc ≡ block = cc e in
    let P : List Instr → Type 0 = λ xs. Spans bytes at xs to in
    let Q : ℕ → Type 0 = λ k. Spans bytes k block to in
    let none : at ≡ at - 2 * 0 = omega arith in
    record { room = omega arith; spans = subst Q none (subst P same spans) }
reach bytes [] (suc n) at acc block to stands spans e = absurd (cc e)
reach bytes (x ∷ before) (suc n) at acc block to (prev, at_is, here, others) spans e =
    let c = chosen (nat_le (instr_length x) (suc n)) (reached before (suc n - instr_length x) (x ∷ acc)) RepeatCuts block e in
    let fits : instr_length x ≤ suc n = leb-true _ _ c.0 in
    let P : ℕ → Type 0 = λ k. Spans bytes k acc to in
    let r = reach bytes before (suc n - instr_length x) prev (x ∷ acc) block to others (here, subst P at_is spans) c.1 in
    let Q : ℕ → Type 0 = λ k. Spans bytes k block to in
    let place : prev - 2 * (suc n - instr_length x) ≡ at - 2 * suc n = omega (arith, r.room) in
    record { room = omega (arith, r.room); spans = subst Q place r.spans }

-- a move after a move
pub moves-more : (m0 m m' : Machine) (i j n : ℕ) → Moves m0 m i → Moves m m' j → i + j ≤ n → Moves m0 m' n
moves-more m0 m m' i j n first second under = record { position = omega (arith, first.position, second.position); imports = omega (arith, first.imports, second.imports) }

-- the passes that are left
pub record PassesLeft (a : Addresses) (m : Machine) (memory : List ℕ) (n i : ℕ) (m0 : Machine) (whole : List ℕ) (block : List Step) : Type 0 where
  pub leaves : (s : State) → Holds a m0 s → Leaves a m memory (repeated (n - i) block) whole (repeated n block) s

pub passes-start : (a : Addresses) (m : Machine) (memory : List ℕ) (n : ℕ) (block : List Step) → PassesLeft a m memory n 0 m memory block
passes-start a m memory n block =
    let all : n ≡ n - 0 = omega arith in
    record { leaves = λ s h. let P : ℕ → Type 0 = λ k. Leaves a m memory (repeated k block) memory (repeated n block) s in subst P all (leaves-all a m memory (repeated n block) s h) }

pub passes-more : (a : Addresses) (m m' : Machine) (memory memory' : List ℕ) (n i : ℕ) (m0 : Machine) (whole : List ℕ) (block : List Step) → PassesLeft a m memory n i m0 whole block → i < n → Runs a m m' memory memory' block None → PassesLeft a m' memory' n (i + 1) m0 whole block
passes-more a m m' memory memory' n i m0 whole block left under ran = record {
  leaves = λ s h. let P : List Step → Type 0 = λ xs. Leaves a m memory xs whole (repeated n block) s in
      leaves-more a m m' memory memory' block (repeated (n - (i + 1)) block) whole (repeated n block) s (subst P (repeated-more n i block under) (left.leaves s h)) ran;
}

pub passes-fault : (a : Addresses) (m m' : Machine) (memory memory' : List ℕ) (n i : ℕ) (m0 : Machine) (whole : List ℕ) (block : List Step) (f : RelocFault) → PassesLeft a m memory n i m0 whole block → i < n → Runs a m m' memory memory' block (Some f) → Runs a m0 m' whole memory' (repeated n block) (Some f)
passes-fault a m m' memory memory' n i m0 whole block f left under ran = record {
  does = λ s h. let P : List Step → Type 0 = λ xs. Leaves a m memory xs whole (repeated n block) s in
      leaves-fault a m m' memory memory' block (repeated (n - (i + 1)) block) whole (repeated n block) s f (subst P (repeated-more n i block under) (left.leaves s h)) ran;
  holds = λ s h none. absurd (cc none);
}

pub passes-end : (a : Addresses) (m : Machine) (memory : List ℕ) (n i : ℕ) (m0 : Machine) (whole : List ℕ) (block : List Step) → PassesLeft a m memory n i m0 whole block → n ≤ i → Runs a m0 m whole memory (repeated n block) None
passes-end a m memory n i m0 whole block left past =
    let P : State → List Step → Type 0 = λ s xs. Leaves a m memory xs whole (repeated n block) s in
    record {
      does = λ s h. leaves-none a m memory whole (repeated n block) s (subst (P s) (repeated-end n i block past) (left.leaves s h));
      holds = λ s h none. leaves-holds a m memory whole (repeated n block) s (subst (P s) (repeated-end n i block past) (left.leaves s h));
    }

fine_block : (bytes : List ℕ) (before : List Instr) (r : Repeat) (at : ℕ) (found : Result (List Instr) (ℕ → RelocFault)) → reached before r.blocks [] ≡ found → block_fault (place_after before) found ≡ None → Before bytes before at → Reach bytes at r.blocks (block_of before r) at
unfolding block_of
fine_block bytes before r at (Err f) e none stands = absurd (cc none)
fine_block bytes before r at (Ok block) e none stands = rw e (reach bytes before r.blocks at [] block at stands refl e)

-- a repeat that isn't refused reaches back to where its block begins
pub repeat-reach : (bytes : List ℕ) (before : List Instr) (r : Repeat) (at : ℕ) → Before bytes before at → repeat_fault before (Some r) ≡ None → Reach bytes at r.blocks (block_of before r) at
repeat-reach bytes before r at stands none = fine_block bytes before r at (reached before r.blocks []) refl none stands
