-- The instructions that were tested, and those that are left.
use Rattle.std.proofs.Common.{◌≡◌, ℕ, suc, ◌+◌, ◌*◌, ◌-◌, ◌^◌, ◌<◌, ◌≤◌, List, [], ◌∷◌, ◌++◌, drop, length, Option, None, Some, Ok, Err, refl, ap, sym, subst, ◌∙◌, arith}
use Rattle.std.specs.Option.{option_map, option_or}
use Rattle.pef_reloc.specs.declared.fault.RelocFault.{RelocFault}
use Rattle.pef_reloc.specs.declared.instr.Instr.{Instr}
use Rattle.pef_reloc.specs.declared.stop.Stop.{Stop}
use Rattle.pef_reloc.specs.declared.verifying.Sizes.{Sizes}
use Rattle.pef_reloc.specs.declared.verifying.Walk.{Walk}
use Rattle.pef_reloc.specs.Applied.{fault_at}
use Rattle.pef_reloc.specs.Decoding.{Code, code_at, first_instr}
use Rattle.pef_reloc.specs.Instrs.{instr_length, repeat_of}
use Rattle.pef_reloc.specs.Limits.{step_limit}
use Rattle.pef_reloc.specs.Steps.{State, acts_of, next_state, start, state_after}
use Rattle.pef_reloc.specs.Unrolled.{Step, code_fault, executed, instrs_in, instrs_of, program_fault, repeated, steps_as, steps_from, unrolled, unrolled_after}
use Rattle.pef_reloc.specs.Verified.{first_stop, run_stop, verified}
use Rattle.pef_reloc.specs.Kept.Places.{Before, Spans}
use Rattle.pef_reloc.specs.Kept.Walks.{MovesOn, WalksTo, walked}
use Rattle.pef_reloc.proofs.ActLists.{instrs_in-append, state_after-append}
use Rattle.pef_reloc.proofs.Applying.{fine_parts, some_steps, steps_fine}
use Rattle.pef_reloc.proofs.Blocks.{begins, repeated-end, repeated-more, spans-order}
use Rattle.pef_reloc.proofs.CodeLemmas.{code-end, code-next, some_length}

or_none : {A : Type 0} (o : Option A) → option_or o None ≡ o
or_none None = refl
or_none (Some x) = refl

or_thrice : {A : Type 0} (a b c : Option A) → option_or a (option_or b c) ≡ option_or (option_or a b) c
or_thrice None b c = refl
or_thrice (Some x) b c = refl

-- instructions after instructions are tested if the first ones aren't refused
run_stop-append : (z : Sizes) (xs ys : List Step) (s : State) → run_stop z (xs ++ ys) s ≡ option_or (run_stop z xs s) (run_stop z ys (state_after (instrs_in xs) s))
unfolding run_stop
run_stop-append z [] ys s = refl
run_stop-append z (x ∷ xs) ys s =
    let here = option_map (fault_at x.0) (first_stop z (acts_of x.1 s)) in
    ap (option_or here) (run_stop-append z xs ys (next_state x.1 s))
    ∙ or_thrice here (run_stop z xs (next_state x.1 s)) (run_stop z ys (state_after (instrs_in xs) (next_state x.1 s)))

pub not_stopped : (at : ℕ) (answer : Option Stop) → option_map (fault_at at) answer ≡ None → answer ≡ None
not_stopped at None none = refl
not_stopped at (Some stop) none = absurd (cc none)

-- one instruction is a list of one
pub walks-one : (z : Sizes) (old new : State) (at : ℕ) (instr : Instr) (answer : Option Stop) → first_stop z (acts_of instr old) ≡ answer → (answer ≡ None → new ≡ next_state instr old) → WalksTo z old new ((at, instr) ∷ []) (option_map (fault_at at) answer)
unfolding run_stop
walks-one z old new at instr answer fault after = record {
  fault = or_none (option_map (fault_at at) (first_stop z (acts_of instr old))) ∙ ap (option_map (fault_at at)) fault;
  after = λ none. after (not_stopped at answer none);
}

-- the answer of the instructions left is the whole answer
pub record WalkLeft (z : Sizes) (s : State) (left all : List Step) (begin : State) : Type 0 where
  pub rest : run_stop z left s ≡ run_stop z all begin
  pub after : state_after (instrs_in left) s ≡ state_after (instrs_in all) begin

pub left-all : (z : Sizes) (s : State) (all : List Step) → WalkLeft z s all all s
left-all z s all = record { rest = refl; after = refl }

pub left-more : (z : Sizes) (s s' : State) (xs ys all : List Step) (begin : State) → WalkLeft z s (xs ++ ys) all begin → WalksTo z s s' xs None → WalkLeft z s' ys all begin
left-more z s s' xs ys all begin left it = record {
  rest =
      ap (run_stop z ys) (it.after refl)
      ∙ sym (run_stop-append z xs ys s ∙ ap (λ f. option_or f (run_stop z ys (state_after (instrs_in xs) s))) it.fault)
      ∙ left.rest;
  after =
      ap (state_after (instrs_in ys)) (it.after refl)
      ∙ sym (ap (λ instrs. state_after instrs s) (instrs_in-append xs ys) ∙ state_after-append (instrs_in xs) (instrs_in ys) s)
      ∙ left.after;
}

pub left-fault : (z : Sizes) (s s' : State) (xs ys all : List Step) (begin : State) (f : RelocFault) → WalkLeft z s (xs ++ ys) all begin → WalksTo z s s' xs (Some f) → run_stop z all begin ≡ Some f
left-fault z s s' xs ys all begin f left it =
    sym left.rest ∙ (run_stop-append z xs ys s ∙ ap (λ g. option_or g (run_stop z ys (state_after (instrs_in xs) s))) it.fault)

pub left-none : (z : Sizes) (s : State) (all : List Step) (begin : State) → WalkLeft z s [] all begin → run_stop z all begin ≡ None
unfolding run_stop
left-none z s all begin left = sym left.rest

walks_done : (z : Sizes) (s : State) (all : List Step) (begin : State) → WalkLeft z s [] all begin → WalksTo z begin s all None
walks_done z s all begin left = record { fault = left-none z s all begin left; after = λ none. left.after }

walks_refused : (z : Sizes) (s s' : State) (xs ys all : List Step) (begin : State) (f : RelocFault) → WalkLeft z s (xs ++ ys) all begin → WalksTo z s s' xs (Some f) → WalksTo z begin s' all (Some f)
walks_refused z s s' xs ys all begin f left it = record { fault = left-fault z s s' xs ys all begin f left it; after = λ none. absurd (cc none) }

-- instructions, and others after them
pub walks-then : (z : Sizes) (s s' s'' : State) (xs ys : List Step) (answer : Option RelocFault) → WalksTo z s s' xs None → WalksTo z s' s'' ys answer → WalksTo z s s'' (xs ++ ys) answer
walks-then z s s' s'' xs ys answer first rest =
    let left = left-more z s s' xs ys (xs ++ ys) s (left-all z s (xs ++ ys)) first in
    record { fault = sym left.rest ∙ rest.fault; after = λ none. rest.after none ∙ left.after }

-- the instructions of a block that are left from a place on
pub record BlockWalk (z : Sizes) (s : State) (bytes : List ℕ) (at to : ℕ) (s0 : State) (block : List Step) : Type 0 where
  pub rest : List Instr
  pub spans : Spans bytes at rest to
  pub left : WalkLeft z s (steps_from at rest) block s0

pub block-begun : (z : Sizes) (s : State) (bytes : List ℕ) (from to : ℕ) (instrs : List Instr) → Spans bytes from instrs to → BlockWalk z s bytes from to s (steps_from from instrs)
block-begun z s bytes from to instrs spans = record { rest = instrs; spans = spans; left = left-all z s (steps_from from instrs) }

more : (z : Sizes) (s s' : State) (bytes : List ℕ) (at to : ℕ) (s0 : State) (block : List Step) (x : Instr) (rest : List Instr) → Spans bytes at rest to → WalkLeft z s (steps_from at rest) block s0 → at < to → first_instr at (drop at bytes) ≡ Ok x → WalksTo z s s' ((at, x) ∷ []) None → BlockWalk z s' bytes (at + 2 * instr_length x) to s0 block
more z s s' bytes at to s0 block x [] spans left under here it = absurd (omega arith)
more z s s' bytes at to s0 block x (y ∷ ys) spans left under here it =
    let same : y ≡ x = cc (spans.0, here) in
    record {
      rest = ys;
      spans = let P : Instr → Type 0 = λ w. Spans bytes (at + 2 * instr_length w) ys to in subst P same spans.1;
      left = let P : Instr → Type 0 = λ w. WalkLeft z s ((at, w) ∷ steps_from (at + 2 * instr_length w) ys) block s0 in
          left-more z s s' ((at, x) ∷ []) (steps_from (at + 2 * instr_length x) ys) block s0 (subst P same left) it;
    }

pub block-more : (z : Sizes) (s s' : State) (bytes : List ℕ) (at to : ℕ) (s0 : State) (block : List Step) (x : Instr) → BlockWalk z s bytes at to s0 block → at < to → first_instr at (drop at bytes) ≡ Ok x → WalksTo z s s' ((at, x) ∷ []) None → BlockWalk z s' bytes (at + 2 * instr_length x) to s0 block
block-more z s s' bytes at to s0 block x it = more z s s' bytes at to s0 block x it.rest it.spans it.left

faulted : (z : Sizes) (s s' : State) (bytes : List ℕ) (at to : ℕ) (s0 : State) (block : List Step) (x : Instr) (f : RelocFault) (rest : List Instr) → Spans bytes at rest to → WalkLeft z s (steps_from at rest) block s0 → at < to → first_instr at (drop at bytes) ≡ Ok x → WalksTo z s s' ((at, x) ∷ []) (Some f) → WalksTo z s0 s' block (Some f)
faulted z s s' bytes at to s0 block x f [] spans left under here it = absurd (omega arith)
faulted z s s' bytes at to s0 block x f (y ∷ ys) spans left under here it =
    let same : y ≡ x = cc (spans.0, here) in
    let P : Instr → Type 0 = λ w. WalkLeft z s ((at, w) ∷ steps_from (at + 2 * instr_length w) ys) block s0 in
    walks_refused z s s' ((at, x) ∷ []) (steps_from (at + 2 * instr_length x) ys) block s0 f (subst P same left) it

pub block-fault : (z : Sizes) (s s' : State) (bytes : List ℕ) (at to : ℕ) (s0 : State) (block : List Step) (x : Instr) (f : RelocFault) → BlockWalk z s bytes at to s0 block → at < to → first_instr at (drop at bytes) ≡ Ok x → WalksTo z s s' ((at, x) ∷ []) (Some f) → WalksTo z s0 s' block (Some f)
block-fault z s s' bytes at to s0 block x f it = faulted z s s' bytes at to s0 block x f it.rest it.spans it.left

pub block-begins : (z : Sizes) (s : State) (bytes : List ℕ) (at to : ℕ) (s0 : State) (block : List Step) (f : RelocFault) → BlockWalk z s bytes at to s0 block → at < to → first_instr at (drop at bytes) ≡ Err f → ⊥
block-begins z s bytes at to s0 block f it = begins bytes at to f it.rest it.spans

ended : (z : Sizes) (s : State) (bytes : List ℕ) (at to : ℕ) (s0 : State) (block : List Step) (rest : List Instr) → Spans bytes at rest to → WalkLeft z s (steps_from at rest) block s0 → to ≤ at → WalksTo z s0 s block None
ended z s bytes at to s0 block [] spans left past = walks_done z s block s0 left
ended z s bytes at to s0 block (y ∷ ys) spans left past =
    let later = spans-order bytes (at + 2 * instr_length y) ys to spans.1 in
    let some = some_length y in
    absurd (omega (arith, later, some))

pub block-end : (z : Sizes) (s : State) (bytes : List ℕ) (at to : ℕ) (s0 : State) (block : List Step) → BlockWalk z s bytes at to s0 block → to ≤ at → WalksTo z s0 s block None
block-end z s bytes at to s0 block it = ended z s bytes at to s0 block it.rest it.spans it.left

-- the passes of a block that are left
pub passes-start : (z : Sizes) (s : State) (n : ℕ) (block : List Step) → WalkLeft z s (repeated (n - 0) block) (repeated n block) s
passes-start z s n block =
    let all : n ≡ n - 0 = omega arith in
    let P : ℕ → Type 0 = λ k. WalkLeft z s (repeated k block) (repeated n block) s in
    subst P all (left-all z s (repeated n block))

pub passes-more : (z : Sizes) (s s' : State) (n i : ℕ) (block : List Step) (s0 : State) → WalkLeft z s (repeated (n - i) block) (repeated n block) s0 → i < n → WalksTo z s s' block None → WalkLeft z s' (repeated (n - (i + 1)) block) (repeated n block) s0
passes-more z s s' n i block s0 left under it =
    let P : List Step → Type 0 = λ xs. WalkLeft z s xs (repeated n block) s0 in
    left-more z s s' block (repeated (n - (i + 1)) block) (repeated n block) s0 (subst P (repeated-more n i block under) left) it

pub passes-fault : (z : Sizes) (s s' : State) (n i : ℕ) (block : List Step) (s0 : State) (f : RelocFault) → WalkLeft z s (repeated (n - i) block) (repeated n block) s0 → i < n → WalksTo z s s' block (Some f) → WalksTo z s0 s' (repeated n block) (Some f)
passes-fault z s s' n i block s0 f left under it =
    let P : List Step → Type 0 = λ xs. WalkLeft z s xs (repeated n block) s0 in
    walks_refused z s s' block (repeated (n - (i + 1)) block) (repeated n block) s0 f (subst P (repeated-more n i block under) left) it

pub passes-end : (z : Sizes) (s : State) (n i : ℕ) (block : List Step) (s0 : State) → WalkLeft z s (repeated (n - i) block) (repeated n block) s0 → n ≤ i → WalksTo z s0 s (repeated n block) None
passes-end z s n i block s0 left past =
    let P : List Step → Type 0 = λ xs. WalkLeft z s xs (repeated n block) s0 in
    walks_done z s (repeated n block) s0 (subst P (repeated-end n i block past) left)

-- a pass, and the others after it
pub passes-then : (z : Sizes) (s s' s'' : State) (n : ℕ) (block : List Step) (answer : Option RelocFault) → 0 < n → WalksTo z s s' block None → WalksTo z s' s'' (repeated (n - 1) block) answer → WalksTo z s s'' (repeated n block) answer
passes-then z s s' s'' n block answer some first rest =
    let all : suc (n - 1) ≡ n = omega arith in
    let P : ℕ → Type 0 = λ k. WalksTo z s s'' (repeated k block) answer in
    subst P all (walks-then z s s' s'' block (repeated (n - 1) block) answer first rest)

-- a move after a move
pub moves-more : (w0 w w' : Walk) (i j n : ℕ) → MovesOn w0 w i → MovesOn w w' j → i + j ≤ n → MovesOn w0 w' n
moves-more w0 w w' i j n first second under = record { position = omega (arith, first.position, second.position); imports = omega (arith, first.imports, second.imports) }

-- the part of a readable program that is left to test
pub record ProgramWalk (z : Sizes) (bytes : List ℕ) (at : ℕ) (w : Walk) : Type 0 where
  pub before : List Instr
  pub steps : ℕ
  pub stands : Before bytes before at
  pub fine : code_fault before steps (code_at at (drop at bytes)) ≡ None
  pub under : steps ≤ step_limit
  pub position : w.position ≤ 2 ^ 26 + 2 ^ 39 * steps
  pub imports : w.import_index ≤ 2 ^ 26 + 2 ^ 39 * steps
  pub left : WalkLeft z (walked w) (unrolled_after before (code_at at (drop at bytes)).instrs) (unrolled (instrs_of bytes)) start

pub program-start : (z : Sizes) (bytes : List ℕ) (w : Walk) → program_fault bytes ≡ None → walked w ≡ start → ProgramWalk z bytes 0 w
unfolding program_fault instrs_of
program-start z bytes w fine begins =
    let position : w.position ≡ 0 = ap (λ (s : State). s.position) begins in
    let imports : w.import_index ≡ 0 = ap (λ (s : State). s.import_index) begins in
    let P : State → Type 0 = λ s. WalkLeft z s (unrolled_after [] (code_at 0 bytes).instrs) (unrolled_after [] (code_at 0 bytes).instrs) start in
    record {
      before = [];
      steps = 0;
      stands = refl;
      fine = fine;
      under = omega arith;
      position = omega arith;
      imports = omega arith;
      left = subst P (sym begins) (left-all z start (unrolled_after [] (code_at 0 bytes).instrs));
    }

-- the instruction and the rest after it
split : (z : Sizes) (bytes : List ℕ) (at : ℕ) (w : Walk) (x : Instr) (p : ProgramWalk z bytes at w) → at < length bytes → first_instr at (drop at bytes) ≡ Ok x → WalkLeft z (walked w) (executed p.before x ++ unrolled_after (x ∷ p.before) (code_at (at + 2 * instr_length x) (drop (at + 2 * instr_length x) bytes)).instrs) (unrolled (instrs_of bytes)) start
split z bytes at w x p under here =
    let P : Code → Type 0 = λ code. WalkLeft z (walked w) (unrolled_after p.before code.instrs) (unrolled (instrs_of bytes)) start in
    subst P (code-next bytes at x under here) p.left

pub program-more : (z : Sizes) (bytes : List ℕ) (at : ℕ) (w w' : Walk) (x : Instr) (p : ProgramWalk z bytes at w) → at < length bytes → first_instr at (drop at bytes) ≡ Ok x → WalksTo z (walked w) (walked w') (executed p.before x) None → MovesOn w w' (2 ^ 39) → ProgramWalk z bytes (at + 2 * instr_length x) w'
program-more z bytes at w w' x p under here it moves =
    let parts = fine_parts bytes at x p.before p.steps under here p.fine in
    let some = some_steps p.before (repeat_of x) in
    record {
      before = x ∷ p.before;
      steps = p.steps + steps_as p.before (repeat_of x);
      stands = (at, refl, here, p.stands);
      fine = parts.2;
      under = steps_fine _ _ parts.1;
      position = omega (arith, moves.position, p.position, some);
      imports = omega (arith, moves.imports, p.imports, some);
      left = left-more z (walked w) (walked w') (executed p.before x) (unrolled_after (x ∷ p.before) (code_at (at + 2 * instr_length x) (drop (at + 2 * instr_length x) bytes)).instrs) (unrolled (instrs_of bytes)) start (split z bytes at w x p under here) it;
    }

pub program-fault : (z : Sizes) (bytes : List ℕ) (at : ℕ) (w w' : Walk) (x : Instr) (f : RelocFault) (p : ProgramWalk z bytes at w) → at < length bytes → first_instr at (drop at bytes) ≡ Ok x → WalksTo z (walked w) (walked w') (executed p.before x) (Some f) → verified z bytes ≡ Some f
unfolding verified
program-fault z bytes at w w' x f p under here it =
    left-fault z (walked w) (walked w') (executed p.before x) (unrolled_after (x ∷ p.before) (code_at (at + 2 * instr_length x) (drop (at + 2 * instr_length x) bytes)).instrs) (unrolled (instrs_of bytes)) start f (split z bytes at w x p under here) it

pub program-end : (z : Sizes) (bytes : List ℕ) (at : ℕ) (w : Walk) → ProgramWalk z bytes at w → length bytes ≤ at → verified z bytes ≡ None
unfolding verified
program-end z bytes at w p past =
    let P : Code → Type 0 = λ code. WalkLeft z (walked w) (unrolled_after p.before code.instrs) (unrolled (instrs_of bytes)) start in
    left-none z (walked w) (unrolled (instrs_of bytes)) start (subst P (code-end bytes at past) p.left)
