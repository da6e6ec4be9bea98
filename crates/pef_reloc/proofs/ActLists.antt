-- Acts after acts, and instructions after instructions.
use Rattle.std.proofs.Common.{◌≡◌, ℕ, List, [], ◌∷◌, ◌++◌, length, Option, None, Some, refl, ap, ◌∙◌}
use Rattle.std.proofs.lemmas.List.{map-append}
use Rattle.pef_reloc.specs.declared.instr.Instr.{Instr}
use Rattle.pef_reloc.specs.Steps.{State, Act, acts_of, next_state, state_after}
use Rattle.pef_reloc.specs.Unrolled.{Step, instrs_in}
use Rattle.pef_reloc.specs.Applied.{Addresses, Done, act_fault, act_done, applied, done_at, ran, unless_refused, then_done}

then-unless : {F : Type 0} (f : Option F) (memory : List ℕ) (d : Done F) (rest : List ℕ → Done F) → unless_refused f memory (then_done d rest) ≡ then_done (unless_refused f memory d) rest
then-unless None memory d rest = refl
then-unless (Some f) memory d rest = refl

-- acts after acts do what the first ones do, and then, if those aren't refused, what the others do
pub applied-append : (a : Addresses) (xs ys : List Act) (memory : List ℕ) → applied a (xs ++ ys) memory ≡ then_done (applied a xs memory) (applied a ys)
unfolding applied
applied-append a [] ys memory = refl
applied-append a (act ∷ acts) ys memory =
    ap (unless_refused (act_fault a (length memory) act) memory) (applied-append a acts ys (act_done a act memory))
    ∙ then-unless (act_fault a (length memory) act) memory (applied a acts (act_done a act memory)) (applied a ys)

pub instrs_in-append : (xs ys : List Step) → instrs_in (xs ++ ys) ≡ instrs_in xs ++ instrs_in ys
instrs_in-append xs ys = map-append (λ (step : Step). step.1) xs ys

pub state_after-append : (xs ys : List Instr) (s : State) → state_after (xs ++ ys) s ≡ state_after ys (state_after xs s)
state_after-append [] ys s = refl
state_after-append (x ∷ xs) ys s = state_after-append xs ys (next_state x s)

-- the next step in two ways that are equal
pub then_same : {F : Type 0} (d : Done F) (f g : List ℕ → Done F) → ((m : List ℕ) → f m ≡ g m) → then_done d f ≡ then_done d g
then_same d f g e = ap (unless_refused d.fault d.memory) (e d.memory)

-- three steps, grouped in two ways
pub done_thrice : {F : Type 0} (d : Done F) (f g : List ℕ → Done F) → then_done d (λ m. then_done (f m) g) ≡ then_done (then_done d f) g
done_thrice d f g = then-unless d.fault d.memory (f d.memory) g

-- instructions after instructions are executed if the first ones aren't refused
pub ran-append : (a : Addresses) (xs ys : List Step) (s : State) (memory : List ℕ) → ran a (xs ++ ys) s memory ≡ then_done (ran a xs s memory) (ran a ys (state_after (instrs_in xs) s))
unfolding ran
ran-append a [] ys s memory = refl
ran-append a (x ∷ xs) ys s memory =
    let first = done_at x.0 (applied a (acts_of x.1 s) memory) in
    let next = next_state x.1 s in
    then_same first (ran a (xs ++ ys) next) (λ m. then_done (ran a xs next m) (ran a ys (state_after (instrs_in xs) next))) (λ m. ran-append a xs ys next m)
    ∙ done_thrice first (ran a xs next) (ran a ys (state_after (instrs_in xs) next))
