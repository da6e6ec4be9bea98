-- The instructions that ran, and those that are left.
use Rattle.std.proofs.Common.{◌≡◌, ℕ, List, [], ◌∷◌, ◌++◌, Option, None, Some, refl, ap, sym, ◌∙◌}
use Rattle.std.specs.Option.{option_map}
use Rattle.pef_reloc.specs.declared.fault.RelocFault.{RelocFault}
use Rattle.pef_reloc.specs.declared.instr.Instr.{Instr}
use Rattle.pef_reloc.specs.declared.machine.Machine.{Machine}
use Rattle.pef_reloc.specs.declared.stop.Stop.{Stop}
use Rattle.pef_reloc.specs.Steps.{State, acts_of, next_state, state_after}
use Rattle.pef_reloc.specs.Unrolled.{Step, instrs_in}
use Rattle.pef_reloc.specs.Applied.{Addresses, Done, applied, done_at, fault_at, ran, then_done, unless_refused}
use Rattle.pef_reloc.specs.Kept.Machines.{Holds, Runs, Stepped}
use Rattle.pef_reloc.proofs.ActLists.{instrs_in-append, ran-append, state_after-append}

-- nothing is executed
pub nothing_ran : (a : Addresses) (s : State) (memory : List ℕ) → ran a [] s memory ≡ record { memory = memory; fault = None }
unfolding ran
nothing_ran a s memory = refl

last_one : (fault : Option RelocFault) (memory : List ℕ) → unless_refused fault memory (record { memory = memory; fault = None }) ≡ record { memory = memory; fault = fault }
last_one None memory = refl
last_one (Some fault) memory = refl

not_stopped : (at : ℕ) (answer : Option Stop) → option_map (fault_at at) answer ≡ None → answer ≡ None
not_stopped at None none = refl
not_stopped at (Some stop) none = absurd (cc none)

ran-one : (a : Addresses) (at : ℕ) (instr : Instr) (s : State) (before now : List ℕ) (answer : Option Stop) → applied a (acts_of instr s) before ≡ record { memory = now; fault = answer }
    → ran a ((at, instr) ∷ []) s before ≡ record { memory = now; fault = option_map (fault_at at) answer }
unfolding ran
ran-one a at instr s before now answer is =
    ap (λ (d : Done Stop). then_done (done_at at d) (ran a [] (next_state instr s))) is ∙ last_one (option_map (fault_at at) answer) now

-- one instruction is a list of one
pub runs-one : (a : Addresses) (old new : Machine) (before now : List ℕ) (at : ℕ) (instr : Instr) (answer : Option Stop) → Stepped a old new before now instr answer → Runs a old new before now ((at, instr) ∷ []) (option_map (fault_at at) answer)
runs-one a old new before now at instr answer step = record {
  does = λ s h. ran-one a at instr s before now answer (step.does s h).is;
  holds = λ s h none. step.holds s h (not_stopped at answer none);
}

-- the effect of the instructions left is the rest of the whole effect
pub record Leaves (a : Addresses) (m : Machine) (memory : List ℕ) (left : List Step) (whole : List ℕ) (all : List Step) (begin : State) : Type 0 where
  pub state : State
  pub holds : Holds a m state
  pub rest : ran a left state memory ≡ ran a all begin whole
  pub after : state_after (instrs_in left) state ≡ state_after (instrs_in all) begin

-- before the first instruction all are left
pub leaves-all : (a : Addresses) (m : Machine) (memory : List ℕ) (all : List Step) (s : State) → Holds a m s → Leaves a m memory all memory all s
leaves-all a m memory all s h = record { state = s; holds = h; rest = refl; after = refl }

-- an instruction ran
pub leaves-more : (a : Addresses) (m m' : Machine) (memory memory' : List ℕ) (xs ys : List Step) (whole : List ℕ) (all : List Step) (begin : State) → Leaves a m memory (xs ++ ys) whole all begin → Runs a m m' memory memory' xs None → Leaves a m' memory' ys whole all begin
leaves-more a m m' memory memory' xs ys whole all begin left it = record {
  state = state_after (instrs_in xs) left.state;
  holds = it.holds left.state left.holds refl;
  rest =
      sym (ran-append a xs ys left.state memory
      ∙ ap (λ (d : Done RelocFault). then_done d (ran a ys (state_after (instrs_in xs) left.state))) (it.does left.state left.holds))
      ∙ left.rest;
  after = sym (ap (λ instrs. state_after instrs left.state) (instrs_in-append xs ys) ∙ state_after-append (instrs_in xs) (instrs_in ys) left.state) ∙ left.after;
}

-- an instruction was refused
pub leaves-fault : (a : Addresses) (m m' : Machine) (memory memory' : List ℕ) (xs ys : List Step) (whole : List ℕ) (all : List Step) (begin : State) (f : RelocFault) → Leaves a m memory (xs ++ ys) whole all begin → Runs a m m' memory memory' xs (Some f) → ran a all begin whole ≡ record { memory = memory'; fault = Some f }
leaves-fault a m m' memory memory' xs ys whole all begin f left it =
    sym left.rest
    ∙ (ran-append a xs ys left.state memory
    ∙ ap (λ (d : Done RelocFault). then_done d (ran a ys (state_after (instrs_in xs) left.state))) (it.does left.state left.holds))

-- none is left
pub leaves-none : (a : Addresses) (m : Machine) (memory whole : List ℕ) (all : List Step) (begin : State) → Leaves a m memory [] whole all begin → ran a all begin whole ≡ record { memory = memory; fault = None }
leaves-none a m memory whole all begin left = sym left.rest ∙ nothing_ran a left.state memory

pub leaves-holds : (a : Addresses) (m : Machine) (memory whole : List ℕ) (all : List Step) (begin : State) → Leaves a m memory [] whole all begin → Holds a m (state_after (instrs_in all) begin)
leaves-holds a m memory whole all begin left = rw (← left.after) left.holds
