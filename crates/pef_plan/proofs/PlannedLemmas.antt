-- The program that is read from tables is the planned one, and there is no other.
use Rattle.std.proofs.Common.{◌≡◌, ℕ, ◌+◌, ◌<◌, ◌≤◌, inl, inr, Bool, true, false, ◌==◌, ◌||◌, nat_lt, List, [], ◌∷◌, ◌++◌, length, refl, ap, sym, ◌∙◌, subst, arith, eq-eqb}
use Rattle.std.proofs.lemmas.Bool.{and_parts, eqb-true, ltb-true}
use Rattle.std.proofs.lemmas.Bool.Decides.{eqb_tells}
use Rattle.std.proofs.lemmas.List.{append-nil, append_assoc}
use Rattle.pef_words.proofs.Laws.Tests.{or_either}
use Rattle.pef_reloc.specs.declared.fixup.Fixup.{Fixup}
use Rattle.pef_reloc.specs.declared.instr.Instr.{Instr}
use Rattle.pef_reloc.specs.Deliveries.{Delivers, MakesFrom}
use Rattle.pef_reloc.specs.Instrs.{program_length}
use Rattle.pef_reloc.specs.Steps.{Least, State, is_flat, next_state, start, state_after}
use Rattle.pef_reloc.proofs.Laws.{first_delivers, flat_more, flat_parts, makes_more, state_after-append}
use Rattle.pef_cert.specs.Labels.{Labels}
use Rattle.pef_cert.specs.Extension.{extension_at}
use Rattle.pef_labels.specs.Rising.{above_all}
use Rattle.pef_cert.specs.Valid.{RegistersOf, is_among, rises}
use Rattle.pef_plan.specs.declared.runs.suffix.SolvedSuffix.{SolvedSuffix}
use Rattle.pef_plan.specs.declared.runs.state.PlanState.{PlanState}
use Rattle.pef_plan.specs.declared.runs.state.Step.{Step}
use Rattle.pef_plan.specs.Exact.{LeastFrom}
use Rattle.pef_plan.specs.Kept.Firsts.{LeadsBy, Picks}
use Rattle.pef_plan.specs.Kept.Steps.{Falls, Tracked, labels_tabled}
use Rattle.pef_plan.specs.Planned.{CanBegin, FirstOf, Planned, PlannedFrom, steps_in_order}
use Rattle.pef_plan.specs.Runs.Places.{InPlace}
use Rattle.pef_plan.proofs.FirstLemmas.{first_one, first_same}
use Rattle.pef_plan.proofs.Leading as leading
use Rattle.pef_plan.proofs.Leading.{planned_left}
use Rattle.pef_plan.proofs.ProgramFacts.{none_of, tracked_planned}
use Rattle.pef_plan.proofs.Reaching.{least_from}
use Rattle.pef_plan.proofs.SiftLemmas.{extension_there, same_left}

-- an instruction that leads on within the extension begins a shortest list, and the other way round
lead_begins : (l : Labels) (s : State) (fixups : List Fixup) (x : Instr) → leading.Planned l s.import_index fixups → LeadsBy l s fixups (extension_at l fixups s) x → CanBegin s fixups x
lead_begins l s fixups x p w =
    let rest = least_from l (next_state x s) w.left (planned_left l x s fixups w.left p w.delivers) in
    let whole = least_from l s fixups p in
    let flat = flat_more x rest.instrs w.flat rest.flat in
    let makes = makes_more x rest.instrs s fixups w.left w.delivers rest.makes in
    let low = whole.least (x ∷ rest.instrs) flat makes in
    let count = rest.length_is in
    let falls = w.falls in
    record {
      halfwords = extension_at l fixups s;
      shortest = record { instrs = x ∷ rest.instrs; flat = flat; makes = makes; length_is = omega (arith, low, count, falls); least = whole.least };
      others = rest.instrs;
      is = refl;
    }

begins_lead : (l : Labels) (s : State) (fixups : List Fixup) (x : Instr) → leading.Planned l s.import_index fixups → CanBegin s fixups x → LeadsBy l s fixups (extension_at l fixups s) x
begins_lead l s fixups x p b =
    let parts = flat_parts x b.others (subst (λ (xs : List Instr). is_flat xs ≡ true) b.is b.shortest.flat) in
    let first = first_delivers x b.others s fixups (subst (λ (xs : List Instr). MakesFrom s fixups xs) b.is b.shortest.makes) in
    let rest = least_from l (next_state x s) first.left (planned_left l x s fixups first.left p first.delivers) in
    let whole = least_from l s fixups p in
    let low = rest.least b.others parts.others first.makes in
    let count : program_length (x ∷ b.others) ≡ b.halfwords = ap program_length (sym b.is) ∙ b.shortest.length_is in
    let most = b.shortest.least whole.instrs whole.flat whole.makes in
    let is = whole.length_is in
    record { left = first.left; flat = parts.first; delivers = first.delivers; falls = omega (arith, low, count, most, is) }

-- a step that is picked is the planned one
pub picked_first : (k : SolvedSuffix) (p : PlanState) (s : State) (x : Step) → Tracked k p → InPlace k.registers.now p s → Picks k p x → FirstOf (CanBegin s p.left.now) (steps_in_order k.registers.now s.position p.left.now) x.instr
picked_first k p s x t at picks =
    let l : Labels = labels_tabled k in
    let steps : List Instr = steps_in_order k.registers.now s.position p.left.now in
    let world : leading.Planned l s.import_index p.left.now = subst (λ (index : ℕ). leading.Planned l index p.left.now) (sym at.import_index) (tracked_planned k p t) in
    let same = extension_there l k.registers.now p s p.left.now refl at in
    first_same (LeadsBy l s p.left.now (extension_at l p.left.now s)) (CanBegin s p.left.now) steps x.instr
    (λ y w. lead_begins l s p.left.now y world w)
    (λ y b. begins_lead l s p.left.now y world b)
    (subst (λ (n : ℕ). FirstOf (LeadsBy l s p.left.now n) steps x.instr) (sym same) (picks s at))

-- what is read so far begins the planned program
abbrev pub Reads : SolvedSuffix → List Fixup → List Instr → PlanState → Type 0
Reads k fixups instrs p = (more : List Instr) → PlannedFrom k.registers.now (state_after instrs start) p.left.now more → PlannedFrom k.registers.now start fixups (instrs ++ more)

pub reads_next : (k : SolvedSuffix) (fixups : List Fixup) (instrs : List Instr) (p : PlanState) (x : Step) → Tracked k p → InPlace k.registers.now p (state_after instrs start) → Falls k p x (state_after instrs start) → Picks k p x → Reads k fixups instrs p → Reads k fixups (instrs ++ x.instr ∷ []) x.next
reads_next k fixups instrs p x t at f picks reads more planned =
    let s : State = state_after instrs start in
    let here : PlannedFrom k.registers.now (next_state x.instr s) x.next.left.now more = subst (λ (q : State). PlannedFrom k.registers.now q x.next.left.now more) (state_after-append instrs (x.instr ∷ []) start) planned in
    subst (λ (xs : List Instr). PlannedFrom k.registers.now start fixups xs) (sym (append_assoc instrs (x.instr ∷ []) more))
    (reads (x.instr ∷ more) (picked_first k p s x t at picks, (x.next.left.now, f.goes.delivers, here)))

pub reads_end : (k : SolvedSuffix) (fixups : List Fixup) (instrs : List Instr) (p : PlanState) → RegistersOf fixups k.registers.now → Reads k fixups instrs p → length p.left.now ≡ 0 → Planned fixups instrs
reads_end k fixups instrs p right reads none = record {
  registers = k.registers.now;
  registers_are = right;
  steps = subst (λ (xs : List Instr). PlannedFrom k.registers.now start fixups xs) (append-nil instrs) (reads [] (none_of p.left.now none));
}

-- one program is planned from a state
no_step : (rs : List ℕ) (s : State) (fixups : List Fixup) (x : Instr) → fixups ≡ [] → FirstOf (CanBegin s fixups) (steps_in_order rs s.position fixups) x → ⊥
no_step rs s [] x none first = first
no_step rs s (f ∷ fixups) x none first = absurd (cc)

from_one : (rs : List ℕ) (s : State) (fixups : List Fixup) (xs ys : List Instr) → PlannedFrom rs s fixups xs → PlannedFrom rs s fixups ys → xs ≡ ys
from_one rs s fixups [] [] p q = refl
from_one rs s fixups [] (y ∷ ys) p q = absurd (no_step rs s fixups y p q.0)
from_one rs s fixups (x ∷ xs) [] p q = absurd (no_step rs s fixups x q p.0)
from_one rs s fixups (x ∷ xs) (y ∷ ys) p q =
    let same : x ≡ y = first_one (CanBegin s fixups) (steps_in_order rs s.position fixups) x y p.0 q.0 in
    let other : (left : List Fixup) × Delivers x s fixups left × PlannedFrom rs (next_state x s) left ys =
    subst (λ (z : Instr). (left : List Fixup) × Delivers z s fixups left × PlannedFrom rs (next_state z s) left ys) (sym same) q.1 in
    let left = same_left x s fixups p.1.0 other.0 p.1.1 other.1 in
    let rest = from_one rs (next_state x s) other.0 xs ys (subst (λ (fs : List Fixup). PlannedFrom rs (next_state x s) fs xs) left p.1.2) other.2 in
    ap (λ zs. x ∷ zs) rest ∙ ap (λ z. z ∷ ys) same

-- rising lists with the same numbers are the same
above_low : (low : ℕ) (rs : List ℕ) (k : ℕ) → above_all low rs ≡ true → is_among rs k ≡ true → low < k
above_low low [] k up among = absurd (cc)
above_low low (r ∷ rs) k up among =
    let both = and_parts (nat_lt low r) (above_all r rs) up in
    let less = ltb-true low r both.0 in
    or_either (r == k) (is_among rs k) (low < k)
    (λ same. let e = eqb-true r k same in omega (arith, less, e))
    (λ later. let more = above_low r rs k both.1 later in omega (arith, less, more))
    among

first_among : (r : ℕ) (rs : List ℕ) → is_among (r ∷ rs) r ≡ true
first_among r rs = rw (eq-eqb r r refl) refl

abbrev SameNumbers : List ℕ → List ℕ → Type 0
SameNumbers rs qs = (k : ℕ) → is_among rs k ≡ is_among qs k

first_low : (r q : ℕ) (rs qs : List ℕ) → above_all q qs ≡ true → SameNumbers (r ∷ rs) (q ∷ qs) → q ≤ r
first_low r q rs qs up same =
    or_either (q == r) (is_among qs r) (q ≤ r)
    (λ equal. let e = eqb-true q r equal in omega (arith, e))
    (λ later. let less = above_low q qs r up later in omega (arith, less))
    (sym (same r) ∙ first_among r rs)

either_same : (b x y : Bool) → b ≡ false → (b || x) ≡ (b || y) → x ≡ y
either_same true x y e same = absurd (cc)
either_same false x y e same = same

later_same : (r : ℕ) (rs qs : List ℕ) → above_all r rs ≡ true → above_all r qs ≡ true → SameNumbers (r ∷ rs) (r ∷ qs) → SameNumbers rs qs
later_same r rs qs up up' same k =
    elim (eqb_tells r k) [
      | inl here ↦ subst (λ (n : ℕ). is_among rs n ≡ is_among qs n) here.1 (not_in rs up ∙ sym (not_in qs up'))
      | inr other ↦ either_same (r == k) (is_among rs k) (is_among qs k) other.0 (same k)
    ]
  where
    cases : (b : Bool) → (b ≡ true → ⊥) → b ≡ false
    cases true not = absurd (not refl)
    cases false not = refl

    not_in : (xs : List ℕ) → above_all r xs ≡ true → is_among xs r ≡ false
    not_in xs rising = cases (is_among xs r) (λ among. let less = above_low r xs r rising among in omega (arith, less))

above_rises : (r : ℕ) (rs : List ℕ) → above_all r rs ≡ true → rises rs ≡ true
above_rises r [] up = refl
above_rises r (x ∷ xs) up = (and_parts (nat_lt r x) (above_all x xs) up).1

rising_same : (rs qs : List ℕ) → rises rs ≡ true → rises qs ≡ true → SameNumbers rs qs → rs ≡ qs
rising_same [] [] up up' same = refl
rising_same [] (q ∷ qs) up up' same = let wrong : false ≡ true = same q ∙ first_among q qs in absurd (cc)
rising_same (r ∷ rs) [] up up' same = let wrong : false ≡ true = sym (same r) ∙ first_among r rs in absurd (cc)
rising_same (r ∷ rs) (q ∷ qs) up up' same =
    let one = first_low r q rs qs up' same in
    let two = first_low q r qs rs up (λ k. sym (same k)) in
    let equal : q ≡ r = omega (arith, one, two) in
    let here : above_all r qs ≡ true = subst (λ (n : ℕ). above_all n qs ≡ true) equal up' in
    let numbers : SameNumbers (r ∷ rs) (r ∷ qs) = subst (λ (n : ℕ). SameNumbers (r ∷ rs) (n ∷ qs)) equal same in
    let rest = rising_same rs qs (above_rises r rs up) (above_rises r qs here) (later_same r rs qs up here numbers) in
    ap (λ xs. r ∷ xs) rest ∙ ap (λ n. n ∷ qs) (sym equal)

-- two planned programs of the same fixups are the same
pub one_planned : (fixups : List Fixup) (program others : List Instr) → Planned fixups program → Planned fixups others → program ≡ others
one_planned fixups program others p q =
    let same = rising_same q.registers p.registers q.registers_are.rising p.registers_are.rising (λ k. q.registers_are.used k ∙ sym (p.registers_are.used k)) in
    from_one p.registers start fixups program others p.steps (subst (λ (rs : List ℕ). PlannedFrom rs start fixups others) same q.steps)

-- a planned program is a shortest one from its state
record Shortest (s : State) (fixups : List Fixup) (instrs : List Instr) (n : ℕ) : Type 0 where
  flat : is_flat instrs ≡ true
  makes : MakesFrom s fixups instrs
  length_is : program_length instrs ≡ n

-- what is left after an instruction that begins a shortest list has a shortest list as well
rest_least : (s : State) (fixups left : List Fixup) (x : Instr) → (b : CanBegin s fixups x) → Delivers x s fixups left → LeastFrom (next_state x s) left (program_length b.others)
rest_least s fixups left x b delivers =
    let parts = flat_parts x b.others (subst (λ (xs : List Instr). is_flat xs ≡ true) b.is b.shortest.flat) in
    let first = first_delivers x b.others s fixups (subst (λ (xs : List Instr). MakesFrom s fixups xs) b.is b.shortest.makes) in
    let same = same_left x s fixups first.left left first.delivers delivers in
    let count : program_length (x ∷ b.others) ≡ b.halfwords = ap program_length (sym b.is) ∙ b.shortest.length_is in
    record {
      instrs = b.others;
      flat = parts.others;
      makes = subst (λ (fs : List Fixup). MakesFrom (next_state x s) fs b.others) same first.makes;
      length_is = refl;
      least = λ others flat makes.
          let low = b.shortest.least (x ∷ others) (flat_more x others parts.first flat) (makes_more x others s fixups left delivers makes) in
          omega (arith, low, count);
    }

first_has : (P : Instr → Type 0) (xs : List Instr) (x : Instr) → FirstOf P xs x → P x
first_has P [] x first = absurd first
first_has P (y ∷ xs) x (inl here) = subst (λ (z : Instr). P z) here.0 here.1
first_has P (y ∷ xs) x (inr later) = first_has P xs x later.1

planned_shortest : (rs : List ℕ) (s : State) (fixups : List Fixup) (instrs : List Instr) (n : ℕ) → PlannedFrom rs s fixups instrs → LeastFrom s fixups n → Shortest s fixups instrs n
planned_shortest rs s fixups [] n p least =
    let low = least.least [] refl (record { is = sym p }) in
    record { flat = refl; makes = record { is = sym p }; length_is = omega (arith, low) }
planned_shortest rs s fixups (x ∷ xs) n p least =
    let b = first_has (CanBegin s fixups) (steps_in_order rs s.position fixups) x p.0 in
    let parts = flat_parts x b.others (subst (λ (ys : List Instr). is_flat ys ≡ true) b.is b.shortest.flat) in
    let rest = planned_shortest rs (next_state x s) p.1.0 xs (program_length b.others) p.1.2 (rest_least s fixups p.1.0 x b p.1.1) in
    let count : program_length (x ∷ b.others) ≡ b.halfwords = ap program_length (sym b.is) ∙ b.shortest.length_is in
    let low = b.shortest.least least.instrs least.flat least.makes in
    let high = least.least b.shortest.instrs b.shortest.flat b.shortest.makes in
    let one = least.length_is in
    let two = b.shortest.length_is in
    let three = rest.length_is in
    record {
      flat = flat_more x xs parts.first rest.flat;
      makes = makes_more x xs s fixups p.1.0 p.1.1 rest.makes;
      length_is = omega (arith, count, low, high, one, two, three);
    }

-- a planned program is least
pub planned_least : (fixups : List Fixup) (program : List Instr) → Planned fixups program → Least fixups program
planned_least fixups [] p = record { flat = refl; makes = sym p.steps; shortest = λ others flat makes. omega arith }
planned_least fixups (x ∷ xs) p =
    let b = first_has (CanBegin start fixups) (steps_in_order p.registers start.position fixups) x p.steps.0 in
    let short = planned_shortest p.registers start fixups (x ∷ xs) b.halfwords p.steps b.shortest in
    let count = short.length_is in
    record {
      flat = short.flat;
      makes = short.makes.is;
      shortest = λ others flat makes. let low = b.shortest.least others flat (record { is = makes }) in omega (arith, low, count);
    }
