-- A program that is read from tables, instruction by instruction.
use Rattle.std.proofs.Common.{◌≡◌, ℕ, ◌+◌, ◌*◌, ◌<◌, ◌≤◌, ◌⊎◌, inl, inr, true, nat_le, List, [], ◌∷◌, ◌++◌, length, refl, ap, sym, ◌∙◌, subst, arith, length-append}
use Rattle.std.specs.List.{AllByRecursion}
use Rattle.std.proofs.lemmas.Bool.{ltb-true, leb-true, and_parts}
use Rattle.std.proofs.lemmas.List.{append_assoc, append-nil}
use Rattle.pef_reloc.specs.declared.fixup.Fixup.{Fixup}
use Rattle.pef_reloc.specs.declared.instr.Instr.{Instr}
use Rattle.pef_reloc.specs.declared.instr.Instr.TheVariants.{BySectDWithSkip, BySectC, BySectD, TVector12, TVector8, VTable8, ImportRun, SmByImport, SmSetSectC, SmSetSectD, SmBySection, IncrPosition, SmRepeat, SetPosition, LgByImport, LgRepeat, LgBySection, LgSetSectC, LgSetSectD}
use Rattle.pef_reloc.specs.Deliveries.{is_flat_instr}
use Rattle.pef_reloc.specs.Fixups.{fixup_fits, fixups_fit}
use Rattle.pef_reloc.specs.Instrs.{counts_to, instr_length}
use Rattle.pef_reloc.specs.Steps.{Least, State, additions, next_state, start, state_after, trace}
use Rattle.pef_reloc.proofs.Laws.{each_fits, flat-append, flat_more, index_kept, program_length-append, some_length, state_after-append, trace-append, used_section-below}
use Rattle.pef_cert.specs.Labels.{Labels, class_of}
use Rattle.pef_cert.specs.Extension.{extension}
use Rattle.pef_cert.specs.Feasible.{Feasible, FeasibleFrom}
use Rattle.pef_cert.specs.Valid.{RegistersOf}
use Rattle.pef_cert.proofs.Laws.{all_registered, class_of-below, extension-small, none_shorter, whole_world}
use Rattle.pef_plan.specs.declared.runs.suffix.SolvedSuffix.{SolvedSuffix}
use Rattle.pef_plan.specs.declared.runs.state.PlanState.{PlanState}
use Rattle.pef_plan.specs.declared.runs.state.Step.{Step}
use Rattle.pef_plan.specs.Runs.Places.{InPlace, extension_in}
use Rattle.pef_plan.specs.Kept.Steps.{Falls, ReadTo, Tracked, labels_tabled, most_halfwords, most_position}
use Rattle.pef_plan.specs.Runs.Tables.{Agrees, SameLabels, Shaped}
use Rattle.pef_plan.specs.Kept.Tables.{TablesOf}
use Rattle.pef_plan.specs.Reached.{ReachedFrom}
use Rattle.pef_plan.proofs.FillLemmas.{counts-all, index-small, known_shaped}
use Rattle.pef_plan.proofs.RunsProofs.KnownLemmas.{agrees-after, shaped_fewer}
use Rattle.pef_plan.proofs.Leading.{Planned, planned_left}
use Rattle.pef_plan.proofs.StepFacts.{tracked_world}

most : (limit n : ℕ) → counts_to limit n ≡ true → n ≤ limit
most limit n e = leb-true n limit (and_parts (nat_le 1 n) (nat_le n limit) e).1

-- an instruction moves by less than 8,192 bytes, or to a position below a limit
abbrev MovesNear : Instr → State → Type 0
MovesNear x s = ((next_state x s).position ≤ s.position + 8192) ⊎ ((next_state x s).position < 67108864)

moves_near : (x : Instr) (s : State) → is_flat_instr x ≡ true → MovesNear x s
moves_near (BySectDWithSkip skip n) s e =
    let both = and_parts (nat_le skip 255) (nat_le n 63) e in
    let one = leb-true skip 255 both.0 in
    let two = leb-true n 63 both.1 in
    inl (omega (arith, one, two))
moves_near (BySectC n) s e = let few = most 512 n e in inl (omega (arith, few))
moves_near (BySectD n) s e = let few = most 512 n e in inl (omega (arith, few))
moves_near (TVector12 n) s e = let few = most 512 n e in inl (omega (arith, few))
moves_near (TVector8 n) s e = let few = most 512 n e in inl (omega (arith, few))
moves_near (VTable8 n) s e = let few = most 512 n e in inl (omega (arith, few))
moves_near (ImportRun n) s e = let few = most 512 n e in inl (omega (arith, few))
moves_near (SmByImport k) s e = inl (omega arith)
moves_near (SmSetSectC k) s e = inl (omega arith)
moves_near (SmSetSectD k) s e = inl (omega arith)
moves_near (SmBySection k) s e = inl (omega arith)
moves_near (IncrPosition n) s e = let few = most 4096 n e in inl (omega (arith, few))
moves_near (SmRepeat blocks n) s e = inl (omega arith)
moves_near (SetPosition q) s e = inr (ltb-true q 0x4000000 e)
moves_near (LgByImport k) s e = inl (omega arith)
moves_near (LgRepeat blocks n) s e = inl (omega arith)
moves_near (LgBySection k) s e = inl (omega arith)
moves_near (LgSetSectC k) s e = inl (omega arith)
moves_near (LgSetSectD k) s e = inl (omega arith)

near_on : (x : Instr) (s : State) (n left : ℕ) → MovesNear x s → 1 ≤ n → left + n ≤ most_halfwords → s.position + 8192 * (left + n) ≤ most_position → (next_state x s).position + 8192 * left ≤ most_position
near_on x s n left (inl near) some few low = omega (arith, near, some, low)
near_on x s n left (inr far) some few low = omega (arith, far, few)

all-before : (P : Fixup → Type 0) (made left : List Fixup) → AllByRecursion P (made ++ left) → AllByRecursion P made
all-before P [] left all = tt
all-before P (f ∷ made) left all = (all.0, all-before P made left all.1)

pub tracked_planned : (k : SolvedSuffix) (p : PlanState) → Tracked k p → Planned (labels_tabled k) p.import_index p.left.now
tracked_planned k p t = record { world = tracked_world k p t; reached = t.reached; fit = t.fit }

-- the place after a step has tables as well
tracked_next : (k : SolvedSuffix) (p : PlanState) (x : Step) (s : State) → Tracked k p → InPlace k.registers.now p s → Falls k p x s → x.next.position ≤ most_position → Tracked k x.next
tracked_next k p x s t in_place f low =
    let l : Labels = labels_tabled k in
    let goes = f.goes in
    let made : List Fixup = additions x.instr s in
    let left : List Fixup = x.next.left.now in
    let parts : p.left.now ≡ made ++ left = goes.delivers.is in
    let count = ap length parts in
    let sum = length-append made left in
    let here = subst (λ (index : ℕ). Planned l index p.left.now) (sym in_place.import_index) (tracked_planned k p t) in
    let planned = subst (λ (index : ℕ). Planned l index left) goes.next.import_index (planned_left l x.instr s p.left.now left here goes.delivers) in
    let whole = subst (λ (fs : List Fixup). AllByRecursion (λ f. fixup_fits f ≡ true) fs) parts t.fit in
    record {
      sections = t.sections;
      shaped = shaped_fewer k (length p.left.now) (length left) t.shaped (omega (arith, count, sum));
      c = (let under = class_of-below l (next_state x.instr s).c in let e = goes.next.c in omega (arith, under, e));
      d = (let under = class_of-below l (next_state x.instr s).d in let e = goes.next.d in omega (arith, under, e));
      fit = planned.fit;
      counts = counts-all k.registers.now left planned.world.registered;
      import_small = (
          let small = t.import_small in
          let from = in_place.import_index in
          let most = index-small made s.import_index (all-before (λ f. fixup_fits f ≡ true) made left whole) (omega (arith, small, from)) in
          let kept = index_kept x.instr s in
          let to = goes.next.import_index in
          omega (arith, most, kept, to)
          );
      position_small = low;
      agrees = agrees-after l k made left (subst (λ (fs : List Fixup). Agrees l k fs) parts t.agrees);
      feasible = planned.world.feasible;
      reached = planned.reached;
    }

tracked_small : (k : SolvedSuffix) (p : PlanState) → Tracked k p → extension_in (labels_tabled k) p ≤ most_halfwords
tracked_small k p t =
    let most = extension-small (labels_tabled k) p.import_index p.left.now p.position p.c p.d (tracked_world k p t) t.fit t.c t.d in
    let few = t.shaped.count in
    omega (arith, most, few)

-- one more instruction
pub read_next : (k : SolvedSuffix) (fixups : List Fixup) (instrs : List Instr) (p : PlanState) (x : Step) → ReadTo k fixups instrs p → Falls k p x (state_after instrs start) → ReadTo k fixups (instrs ++ x.instr ∷ []) x.next
read_next k fixups instrs p x r f =
    let s : State = state_after instrs start in
    let goes = f.goes in
    let falls = f.falls in
    let some = some_length x.instr in
    let most = tracked_small k p r.tracked in
    let low = r.near in
    let from = r.in_place.position in
    let near = near_on x.instr s (instr_length x.instr) (extension_in (labels_tabled k) x.next) (moves_near x.instr s goes.flat) some (omega (arith, falls, most)) (omega (arith, falls, low, from)) in
    let to = goes.next.position in
    let short = r.short in
    let sum = program_length-append instrs (x.instr ∷ []) in
    let both = trace-append instrs (x.instr ∷ []) start ∙ ap (λ fs. trace instrs start ++ fs) (append-nil (additions x.instr s)) in
    record {
      tracked = tracked_next k p x s r.tracked r.in_place f (omega (arith, near, to));
      in_place = subst (λ (q : State). InPlace k.registers.now x.next q) (sym (state_after-append instrs (x.instr ∷ []) start)) goes.next;
      flat = flat-append instrs (x.instr ∷ []) r.flat (flat_more x.instr [] goes.flat refl);
      made = r.made
          ∙ (ap (λ fs. trace instrs start ++ fs) goes.delivers.is
          ∙ (sym (append_assoc (trace instrs start) (additions x.instr s) x.next.left.now)
          ∙ ap (λ fs. fs ++ x.next.left.now) (sym both)));
      short = omega (arith, short, falls, sum);
      near = omega (arith, near, to);
    }

same_tabled : (k : SolvedSuffix) (n : ℕ) → SameLabels (labels_tabled k) k.registers.now k.labels.now.rows n
same_tabled k n = record { registers_are = refl; label_is = λ left c d under under_c under_d. refl }

-- the tables cover all fixups
pub tables_shaped : (k : SolvedSuffix) (fixups : List Fixup) → fixups_fit fixups ≡ true → RegistersOf fixups k.registers.now → TablesOf k.registers.now k.labels.now k.skips.now 0 fixups → Shaped k (length fixups)
tables_shaped k fixups fit right t =
    known_shaped fixups k.registers.now k.labels.now.rows k.skips.now.rows k 0 fixups fit right (omega arith) t.tabled (record { registers_are = refl; labels_are = refl; skips_are = refl; labels_wide = t.labels_wide; skips_wide = t.skips_wide })

-- the empty program, at the start
pub read_start : (k : SolvedSuffix) (p : PlanState) → fixups_fit p.left.now ≡ true → RegistersOf p.left.now k.registers.now → TablesOf k.registers.now k.labels.now k.skips.now 0 p.left.now → p.import_index ≡ 0 → InPlace k.registers.now p start → ReadTo k p.left.now [] p
read_start k p fit right t index in_place =
    let l : Labels = labels_tabled k in
    let same = same_tabled k (length p.left.now) in
    let tracked : Tracked k p = record {
      sections = record { rising = right.rising; below = λ j among. used_section-below p.left.now j fit (sym (right.used j) ∙ among) };
      shaped = tables_shaped k p.left.now fit right t;
      c = (let under = class_of-below l 0 in let e = in_place.c in omega (arith, under, e));
      d = (let under = class_of-below l 1 in let e = in_place.d in omega (arith, under, e));
      fit = each_fits p.left.now fit;
      counts = counts-all k.registers.now p.left.now (all_registered p.left.now k.registers.now right);
      import_small = omega (arith, index);
      position_small = (let e = in_place.position in omega (arith, e));
      agrees = record { same = same; offers = t.tabled.offers l same };
      feasible = subst (λ (n : ℕ). FeasibleFrom l n p.left.now) (sym index) (t.tabled.feasible l same);
      reached = subst (λ (n : ℕ). ReachedFrom l n p.left.now) (sym index) (t.tabled.reached l same);
    } in
    let most = tracked_small k p tracked in
    let at = in_place.position in
    let position = ap (λ n. extension l p.left.now n p.c p.d) at in
    let c = ap (λ n. extension l p.left.now 0 n p.d) in_place.c in
    let d = ap (λ n. extension l p.left.now 0 (class_of l.registers 0) n) in_place.d in
    record {
      tracked = tracked;
      in_place = in_place;
      flat = refl;
      made = refl;
      short = omega (arith, position, c, d);
      near = omega (arith, most, at);
    }

pub none_of : (fs : List Fixup) → length fs ≡ 0 → fs ≡ []
none_of [] e = refl
none_of (f ∷ fs) e = absurd (omega (arith, e))

-- the program, when no fixups are left
pub read_least : (k : SolvedSuffix) (fixups : List Fixup) (instrs : List Instr) (p : PlanState) → fixups_fit fixups ≡ true → RegistersOf fixups k.registers.now → TablesOf k.registers.now k.labels.now k.skips.now 0 fixups → ReadTo k fixups instrs p → length p.left.now ≡ 0 → Least fixups instrs
read_least k fixups instrs p fit right t r none =
    let l : Labels = labels_tabled k in
    let end = none_of p.left.now none in
    let feasible : Feasible l fixups = record { last = t.tabled.last; each = t.tabled.feasible l (same_tabled k (length fixups)) } in
    record {
      flat = r.flat;
      makes = sym (r.made ∙ (ap (λ fs. trace instrs start ++ fs) end ∙ append-nil (trace instrs start)));
      shortest = λ others flat makes.
          let low = none_shorter others l start fixups (whole_world l fixups fit right feasible) flat (record { is = makes }) in
          let short = r.short in
          omega (arith, low, short);
    }
