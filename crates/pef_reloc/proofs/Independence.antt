-- Why relocation is refused doesn't depend on addresses or on the contents of memory.
use Rattle.std.proofs.Common.{◌≡◌, ℕ, zero, suc, ◌+◌, ◌==◌, Bool, true, false, cond, List, [], ◌∷◌, nat_le, length, Option, None, Some, refl, ap, subst, ◌∙◌}
use Rattle.std.specs.Option.{option_and_then, option_map, option_or}
use Rattle.std.proofs.lemmas.Bool.{leb-true}
use Rattle.pef_reloc.specs.declared.fixup.Base.{Base}
use Rattle.pef_reloc.specs.declared.fixup.Base.TheVariants.{Section, Import}
use Rattle.pef_reloc.specs.declared.stop.Stop.{Stop}
use Rattle.pef_reloc.specs.declared.stop.Stop.TheVariants.{NoImport, PastEnd}
use Rattle.pef_reloc.specs.Applied.{Addresses, Done, act_done, act_fault, address_of, applied, done_at, fault_at, is_missing, ran, relocation, then_done, unless_refused}
use Rattle.pef_reloc.specs.Headers.{header_done, program_done, refusal_at, relocated_by, untouched}
use Rattle.pef_reloc.specs.Steps.{Act, State, add, need, acts_of, next_state, start}
use Rattle.pef_reloc.specs.Unrolled.{Step, instrs_of, program_fault, unrolled}
use Rattle.pef_reloc.specs.Verified.{act_stop, first_stop, is_absent, program_verified, run_stop, sizes_of, verified}
use Rattle.pef_reloc.proofs.Laws.Additions.{length-added_at}

-- the length of memory after something, and why it was stopped
record DoneAs {F : Type 0} (d : Done F) (len : ℕ) (fault : Option F) : Type 0 where
  pub length_is : length d.memory ≡ len
  pub fault_is : d.fault ≡ fault

absent_is : (a : Addresses) (len : ℕ) (b : Base) → is_absent (sizes_of a len) b ≡ is_missing a b
absent_is a len (Section k) = refl
absent_is a len (Import j) = refl

-- an act is refused by the sizes
act_same : (a : Addresses) (len : ℕ) (act : Act) → act_stop (sizes_of a len) act ≡ act_fault a len act
act_same a len (need position k) = refl
act_same a len (add x) = rw (absent_is a len x.base) refl

inside_if : (missing inside : Bool) (f g : Stop) → cond missing (Some f) (cond inside None (Some g)) ≡ None → inside ≡ true
inside_if true inside f g none = absurd (cc none)
inside_if false true f g none = refl
inside_if false false f g none = absurd (cc none)

-- an act that isn't refused keeps the length of memory
act_keeps : (a : Addresses) (act : Act) (memory : List ℕ) → act_fault a (length memory) act ≡ None → length (act_done a act memory) ≡ length memory
act_keeps a (need position k) memory none = refl
act_keeps a (add x) memory none =
    let inside = inside_if (is_missing a x.base) (nat_le (x.offset + 4) (length memory)) (NoImport x.offset) (PastEnd x.offset) none in
    length-added_at memory x.offset (address_of a x.base) (leb-true (x.offset + 4) (length memory) inside)

-- something, and something else if that isn't refused
then_as : {F : Type 0} (f g : Option F) (memory : List ℕ) (len : ℕ) (rest : Done F) → length memory ≡ len → (f ≡ None → DoneAs rest len g) → DoneAs (unless_refused f memory rest) len (option_or f g)
then_as None g memory len rest same next = next refl
then_as (Some x) g memory len rest same next = record { length_is = same; fault_is = refl }

applied_as : (a : Addresses) (acts : List Act) (memory : List ℕ) → DoneAs (applied a acts memory) (length memory) (first_stop (sizes_of a (length memory)) acts)
unfolding applied first_stop
applied_as a [] memory = record { length_is = refl; fault_is = refl }
applied_as a (act ∷ acts) memory =
    let f = act_fault a (length memory) act in
    let next = act_done a act memory in
    let P : ℕ → Type 0 = λ len. DoneAs (applied a acts next) len (first_stop (sizes_of a len) acts) in
    let both = then_as f (first_stop (sizes_of a (length memory)) acts) memory (length memory) (applied a acts next) refl (λ none. subst P (act_keeps a act memory none) (applied_as a acts next)) in
    rw (act_same a (length memory) act) both

not_stopped : (at : ℕ) (answer : Option Stop) → option_map (fault_at at) answer ≡ None → answer ≡ None
not_stopped at None none = refl
not_stopped at (Some stop) none = absurd (cc none)

ran_as : (a : Addresses) (steps : List Step) (s : State) (memory : List ℕ) → DoneAs (ran a steps s memory) (length memory) (run_stop (sizes_of a (length memory)) steps s)
unfolding ran run_stop
ran_as a [] s memory = record { length_is = refl; fault_is = refl }
ran_as a (step ∷ steps) s memory =
    let d = applied a (acts_of step.1 s) memory in
    let here = applied_as a (acts_of step.1 s) memory in
    let len = length memory in
    let P : ℕ → Type 0 = λ n. DoneAs (ran a steps (next_state step.1 s) d.memory) n (run_stop (sizes_of a n) steps (next_state step.1 s)) in
    let both = then_as (option_map (fault_at step.0) d.fault) (run_stop (sizes_of a len) steps (next_state step.1 s)) d.memory len (ran a steps (next_state step.1 s) d.memory) here.length_is (λ none. subst P here.length_is (ran_as a steps (next_state step.1 s) d.memory)) in
    let Q : Option Stop → Type 0 = λ f. DoneAs (then_done (done_at step.0 d) (ran a steps (next_state step.1 s))) len (option_or (option_map (fault_at step.0) f) (run_stop (sizes_of a len) steps (next_state step.1 s))) in
    subst Q here.fault_is both

relocation_as : (a : Addresses) (bytes memory : List ℕ) → DoneAs (relocation bytes a memory) (length memory) (verified (sizes_of a (length memory)) bytes)
unfolding relocation verified
relocation_as a bytes memory = ran_as a (unrolled (instrs_of bytes)) start memory

-- relocation by a program is refused by the sizes
pub relocation-verified : (a : Addresses) (bytes memory : List ℕ) → (relocation bytes a memory).fault ≡ verified (sizes_of a (length memory)) bytes
relocation-verified a bytes memory = (relocation_as a bytes memory).fault_is

program_as : (a : Addresses) (bytes memory : List ℕ) → DoneAs (program_done a bytes memory) (length memory) (program_verified (sizes_of a (length memory)) bytes)
program_as a bytes memory = then_as (program_fault bytes) (verified (sizes_of a (length memory)) bytes) memory (length memory) (relocation bytes a memory) refl (λ none. relocation_as a bytes memory)

-- .. and also if the bytes aren't a program
pub program-verified : (a : Addresses) (bytes memory : List ℕ) → (program_done a bytes memory).fault ≡ program_verified (sizes_of a (length memory)) bytes
program-verified a bytes memory = (program_as a bytes memory).fault_is

header_keeps : (a : Addresses) (k : ℕ) (header : Option (ℕ × List ℕ)) (memory : List ℕ) → length (header_done a k header memory).memory ≡ length memory
header_keeps a k None memory = refl
header_keeps a k (Some header) memory = by (header.0 == k)
  where
    by : (b : Bool) → length (cond b (program_done a header.1 memory) (untouched memory)).memory ≡ length memory
    by true = (program_as a header.1 memory).length_is
    by false = refl

then_keeps : {F : Type 0} (f : Option F) (memory : List ℕ) (len : ℕ) (rest : Done F) → length memory ≡ len → length rest.memory ≡ len → length (unless_refused f memory rest).memory ≡ len
then_keeps None memory len rest same next = next
then_keeps (Some x) memory len rest same next = same

-- relocation headers keep the length of a section's memory
pub relocated_by-keeps : (a : Addresses) (k : ℕ) (header : ℕ → Option (ℕ × List ℕ)) (from n : ℕ) (memory : List ℕ) → length (relocated_by a k header from n memory).memory ≡ length memory
unfolding relocated_by
relocated_by-keeps a k header from zero memory = refl
relocated_by-keeps a k header from (suc n) memory =
    let d = header_done a k (header from) memory in
    let here = header_keeps a k (header from) memory in
    then_keeps d.fault d.memory (length memory) (relocated_by a k header (from + 1) n d.memory) here (relocated_by-keeps a k header (from + 1) n d.memory ∙ here)

-- so a header is refused by the sizes alone
pub refusal_at-verified : (a : Addresses) (memory : ℕ → List ℕ) (header : ℕ → Option (ℕ × List ℕ)) (i : ℕ) → refusal_at a memory header i ≡ option_and_then (λ h. program_verified (sizes_of a (length (memory h.0))) h.1) (header i)
unfolding refusal_at
refusal_at-verified a memory header i = by (header i)
  where
    by : (h : Option (ℕ × List ℕ)) → option_and_then (λ h. (program_done a h.1 (relocated_by a h.0 header 0 i (memory h.0)).memory).fault) h ≡ option_and_then (λ h. program_verified (sizes_of a (length (memory h.0))) h.1) h
    by None = refl
    by (Some h) =
        program-verified a h.1 (relocated_by a h.0 header 0 i (memory h.0)).memory
        ∙ ap (λ len. program_verified (sizes_of a len) h.1) (relocated_by-keeps a h.0 header 0 i (memory h.0))
