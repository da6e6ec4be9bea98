-- Of the instructions that add at a fixup, the first that reaches a label.
use Rattle.std.proofs.Common.{◌≡◌, ◌≢◌, ℕ, suc, ◌+◌, ◌*◌, ◌<◌, ◌≤◌, ◌⊎◌, inl, inr, Bool, true, false, ◌==◌, List, [], ◌∷◌, ◌++◌, refl, ap, ap₂, sym, ◌∙◌, subst, arith}
use Rattle.std.proofs.lemmas.Bool.{eqb-false}
use Rattle.std.proofs.lemmas.List.{append_cancel_left}
use Rattle.pef_reloc.specs.declared.fixup.Base.{Base}
use Rattle.pef_reloc.specs.declared.fixup.Base.TheVariants.{Section, Import}
use Rattle.pef_reloc.specs.declared.fixup.Fixup.{Fixup}
use Rattle.pef_reloc.specs.declared.instr.Instr.{Instr}
use Rattle.pef_reloc.specs.declared.instr.Instr.TheVariants.{BySectDWithSkip, BySectC, BySectD, TVector12, TVector8, VTable8, ImportRun, SmBySection}
use Rattle.pef_reloc.specs.Deliveries.{Delivers}
use Rattle.pef_reloc.specs.Steps.{State, added, additions, next_state, numbered, pairs, row}
use Rattle.pef_cert.specs.Labels.{Labels, class_of}
use Rattle.pef_cert.specs.Extension.{extension, extension_at}
use Rattle.pef_plan.specs.declared.runs.suffix.SolvedSuffix.{SolvedSuffix}
use Rattle.pef_plan.specs.declared.runs.state.PlanState.{PlanState}
use Rattle.pef_plan.specs.declared.runs.state.OpenState.{OpenState}
use Rattle.pef_plan.specs.declared.runs.state.Choice.{Choice}
use Rattle.pef_plan.specs.declared.runs.state.Sought.{Sought}
use Rattle.pef_plan.specs.declared.runs.run.Run.{Run}
use Rattle.pef_plan.specs.declared.runs.run.Run.TheVariants.{Imports, Skip}
use Rattle.pef_plan.specs.Kept.Firsts.{FirstSkip, LeadsBy, NoneOf, SiftedOf, if_held, run_list, with_c, with_d, with_pairs, with_second}
use Rattle.pef_plan.specs.Planned.{FirstOf, additions_in_order, counted, import_once}
use Rattle.pef_plan.specs.Runs.Kept.Runs.{EndFound, FirstEnd}
use Rattle.pef_plan.specs.Runs.Places.{Chosen, HereOf, InPlace}
use Rattle.pef_plan.specs.Runs.Runs.{Ends, EndsFrom, RunOf, imports, limit, run_instr, stride}
use Rattle.pef_plan.specs.Runs.Tables.{Agrees}
use Rattle.pef_plan.proofs.FirstLemmas.{Thin, first_after, first_before, first_counted, none_append, none_counted, thin_append, thin_more, thin_same}
use Rattle.pef_plan.proofs.RunsProofs.RunFacts.{run-adds, run-next, run-one}

-- the extension in a state at a place
pub extension_there : (l : Labels) (rs : List ℕ) (q : PlanState) (s : State) (fixups : List Fixup) → l.registers ≡ rs → InPlace rs q s → extension_at l fixups s ≡ extension l fixups q.position q.c q.d
extension_there l rs q s fixups regs at =
    ap (λ p. extension l fixups p (class_of l.registers s.c) (class_of l.registers s.d)) at.position
    ∙ ap₂ (λ x y. extension l fixups q.position x y) (ap (λ r. class_of r s.c) regs ∙ at.c) (ap (λ r. class_of r s.d) regs ∙ at.d)

pub same_left : (x : Instr) (s : State) (fixups a b : List Fixup) → Delivers x s fixups a → Delivers x s fixups b → a ≡ b
same_left x s fixups a b first second = append_cancel_left (additions x s) a b (sym first.is ∙ second.is)

-- a choice leads on within its value, and within no less
chosen_leads : (l : Labels) (k : SolvedSuffix) (h : OpenState) (s : State) (x : Choice) (n : ℕ) → Agrees l k h.others.now → InPlace k.registers.now h.place s → Chosen k h x → x.value ≤ n → LeadsBy l s h.place.left.now n x.step.instr
chosen_leads l k h s x n agrees at chosen low =
    let goes = chosen.goes s at in
    let worth = chosen.worth l agrees in
    let there = extension_there l k.registers.now x.step.next (next_state x.step.instr s) x.step.next.left.now agrees.same.registers_are goes.next in
    record { left = x.step.next.left.now; flat = goes.flat; delivers = goes.delivers; falls = omega (arith, worth, there, low) }

chosen_most : (l : Labels) (k : SolvedSuffix) (h : OpenState) (s : State) (x : Choice) (n : ℕ) → Agrees l k h.others.now → InPlace k.registers.now h.place s → Chosen k h x → LeadsBy l s h.place.left.now n x.step.instr → x.value ≤ n
chosen_most l k h s x n agrees at chosen w =
    let goes = chosen.goes s at in
    let worth = chosen.worth l agrees in
    let same = same_left x.step.instr s h.place.left.now w.left x.step.next.left.now w.delivers goes.delivers in
    let there = ap (λ fs. extension_at l fs (next_state x.step.instr s)) same ∙ extension_there l k.registers.now x.step.next (next_state x.step.instr s) x.step.next.left.now agrees.same.registers_are goes.next in
    let falls = w.falls in
    omega (arith, worth, there, falls)

-- an end of a run leads on within no less than a bar of the ends
run_most : (l : Labels) (k : SolvedSuffix) (h : OpenState) (r : Run) (from bar m j n : ℕ) (s : State) → Agrees l k h.others.now → InPlace k.registers.now h.place s → RunOf k.registers.now r h.place from → EndsFrom l r bar m h.place.left.now from h.place.import_index h.place.c h.place.d → j < m → LeadsBy l s h.place.left.now n (run_instr r (suc j)) → bar ≤ n
run_most l k h r from bar m j n s agrees at of ends under w =
    let q : PlanState = record { left = h.place.left; position = from + stride r * suc j; import_index = h.place.import_index + imports r * suc j; c = h.place.c; d = h.place.d } in
    let adds = run-adds k.registers.now r h.place from (suc j) s of at in
    let low = ends j w.left under (w.delivers.is ∙ ap (λ fs. fs ++ w.left) adds) in
    let next = run-next k.registers.now r h.place q from (suc j) s of at refl refl refl refl in
    let there = extension_there l k.registers.now q (next_state (run_instr r (suc j)) s) w.left agrees.same.registers_are next in
    let one = run-one r (suc j) in
    let falls = w.falls in
    omega (arith, low, there, one, falls)

one_more : (n : ℕ) → 1 + n ≡ suc n
one_more n = omega arith

-- the ends of a run up to one
run_first : (l : Labels) (k : SolvedSuffix) (h : OpenState) (r : Run) (from n : ℕ) (s : State) (first : Sought) (x : Choice) → Agrees l k h.others.now → InPlace k.registers.now h.place s → RunOf k.registers.now r h.place from → Chosen k h x → (e : EndFound k h r from first x) → n < e.bar → x.value ≤ n → FirstOf (LeadsBy l s h.place.left.now n) (run_list r) x.step.instr
run_first l k h r from n s first x agrees at of chosen e bar low =
    let P : Instr → Type 0 = LeadsBy l s h.place.left.now n in
    let is : x.step.instr ≡ run_instr r (1 + e.more) = e.instr ∙ ap (run_instr r) (sym (one_more e.more)) in
    subst (λ (y : Instr). FirstOf P (run_list r) y) (sym is)
    (first_counted P (run_instr r) 1 (limit r) e.more e.under
    (λ j under w.
    let most = run_most l k h r from e.bar e.more j n s agrees at of (e.before l agrees) under (subst (λ (m : ℕ). P (run_instr r m)) (one_more j) w) in
    omega (arith, most, bar))
    (subst (λ (y : Instr). P y) is (chosen_leads l k h s x n agrees at chosen low)))

run_none : (l : Labels) (k : SolvedSuffix) (h : OpenState) (r : Run) (from value n : ℕ) (s : State) → Agrees l k h.others.now → InPlace k.registers.now h.place s → RunOf k.registers.now r h.place from → Ends l r h from value → n < value → NoneOf (LeadsBy l s h.place.left.now n) (run_list r)
run_none l k h r from value n s agrees at of ends above =
    let P : Instr → Type 0 = LeadsBy l s h.place.left.now n in
    none_counted P (run_instr r) 1 (limit r) (λ j under w.
    let most = run_most l k h r from value (limit r) j n s agrees at of ends under (subst (λ (m : ℕ). P (run_instr r m)) (one_more j) w) in
    omega (arith, most, above))

-- the first of the instructions tried before, and then of a run
pub sift_run : (k : SolvedSuffix) (h : OpenState) (r : Run) (from : ℕ) (before : List Instr) (first : Sought) (x : Choice) → RunOf k.registers.now r h.place from → Chosen k h x → FirstEnd k h r from first x → x.value ≤ first.choice.value
    → ((l : Labels) (value : ℕ) → Agrees l k h.others.now → value ≤ x.value → first.label < x.value → Ends l r h from value)
    → SiftedOf k h first.label before first.choice → SiftedOf k h first.label (before ++ run_list r) x
sift_run k h r from before first x of chosen either better ends sifted l s agrees at =
    let P : Instr → Type 0 = LeadsBy l s h.place.left.now first.label in
    let old = sifted l s agrees at in
    record {
      found = λ low. go either low;
      none = λ above. none_append P before (run_list r) (old.none (omega (arith, above, better)))
          (run_none l k h r from x.value first.label s agrees at of (ends l x.value agrees (omega arith) above) above);
    }
  where
    go : FirstEnd k h r from first x → x.value ≤ first.label → FirstOf (LeadsBy l s h.place.left.now first.label) (before ++ run_list r) x.step.instr
    go (inl same) low =
        let P : Instr → Type 0 = LeadsBy l s h.place.left.now first.label in
        let value = ap (λ y. y.value) same in
        let there = (sifted l s agrees at).found (omega (arith, value, low)) in
        first_before P before (run_list r) x.step.instr (subst (λ (y : Instr). FirstOf P before y) (sym (ap (λ y. y.step.instr) same)) there)
    go (inr e) low =
        let P : Instr → Type 0 = LeadsBy l s h.place.left.now first.label in
        let above = e.label_low in
        let high = e.high in
        first_after P before (run_list r) x.step.instr ((sifted l s agrees at).none (omega (arith, above, high)))
        (run_first l k h r from first.label s first x agrees at of chosen e above low)

-- the first skip over some words, from the one with one word
pub first_skip : (k : SolvedSuffix) (h : OpenState) (words section from : ℕ) (first : Sought) (x : Choice) → RunOf k.registers.now (Skip words section) h.place from → Chosen k h first.choice → first.choice.step.instr ≡ BySectDWithSkip words 1 → Chosen k h x → FirstEnd k h (Skip words section) from first x → FirstSkip k h words x
first_skip k h words section from first x of one is chosen (inl same) l s agrees at =
    let P : Instr → Type 0 = LeadsBy l s h.place.left.now x.value in
    let instr : x.step.instr ≡ BySectDWithSkip words (1 + 0) = ap (λ y. y.step.instr) same ∙ is in
    subst (λ (y : Instr). FirstOf P (counted (BySectDWithSkip words) 1 63) y) (sym instr)
    (first_counted P (BySectDWithSkip words) 1 63 0 (omega arith) (λ j under w. absurd (omega (arith, under)))
    (subst (λ (y : Instr). P y) instr (chosen_leads l k h s x x.value agrees at chosen (omega arith))))
first_skip k h words section from first x of one is chosen (inr e) l s agrees at =
    run_first l k h (Skip words section) from x.value s first x agrees at of chosen e e.low (omega arith)

-- the instruction that is tried first
pub sift_start : (k : SolvedSuffix) (h : OpenState) (label : ℕ) (instr : Instr) (x : Choice) → Chosen k h x → x.step.instr ≡ instr → SiftedOf k h label (instr ∷ []) x
sift_start k h label instr x chosen is l s agrees at =
    let P : Instr → Type 0 = LeadsBy l s h.place.left.now label in
    record {
      found = λ low. inl (sym is, subst (λ (y : Instr). P y) is (chosen_leads l k h s x label agrees at chosen low));
      none = λ above. ((λ w. let most = chosen_most l k h s x label agrees at chosen (subst (λ (y : Instr). P y) (sym is) w) in omega (arith, most, above)), tt);
    }

-- if it reaches the label, others follow
pub sift_enough : (k : SolvedSuffix) (h : OpenState) (label : ℕ) (before others : List Instr) (x : Choice) → x.value ≤ label → SiftedOf k h label before x → SiftedOf k h label (before ++ others) x
sift_enough k h label before others x low sifted l s agrees at =
    let P : Instr → Type 0 = LeadsBy l s h.place.left.now label in
    record {
      found = λ _. first_before P before others x.step.instr ((sifted l s agrees at).found low);
      none = λ above. absurd (omega (arith, low, above));
    }

-- the bases that an instruction adds
head_base : (f g : Fixup) (fs gs : List Fixup) → f ∷ fs ≡ g ∷ gs → f.base ≡ g.base
head_base f g fs gs e = let same : f ≡ g = cc in ap (λ x. x.base) same

row_base : (f : Fixup) (rest left : List Fixup) (n p w : ℕ) (b : Base) → f ∷ rest ≡ row (suc n) p w b ++ left → f.base ≡ b
unfolding row
row_base f rest left n p w b e = head_base f (added p b) rest (row n (p + w) w b ++ left) e

pairs_base : (f : Fixup) (rest left : List Fixup) (n p w : ℕ) (b b' : Base) → f ∷ rest ≡ pairs (suc n) p w b b' ++ left → f.base ≡ b
unfolding pairs
pairs_base f rest left n p w b b' e = head_base f (added p b) rest (added (p + 4) b' ∷ (pairs n (p + w) w b b' ++ left)) e

pairs_next : (f : Fixup) (rest left : List Fixup) (n p w : ℕ) (b b' : Base) → f ∷ rest ≡ pairs (suc n) p w b b' ++ left → rest ≡ added (p + 4) b' ∷ (pairs n (p + w) w b b' ++ left)
unfolding pairs
pairs_next f rest left n p w b b' e = cc

numbered_base : (f : Fixup) (rest left : List Fixup) (n p m : ℕ) → f ∷ rest ≡ numbered (suc n) p m ++ left → f.base ≡ Import m
unfolding numbered
numbered_base f rest left n p m e = head_base f (added p (Import m)) rest (numbered n (p + 4) (m + 1) ++ left) e

section_one : (j k : ℕ) → Section j ≡ Section k → j ≡ k
section_one j k e = cc

import_one : (j k : ℕ) → Import j ≡ Import k → j ≡ k
import_one j k e = cc

not_section : (j k : ℕ) → Import j ≡ Section k → ⊥
not_section j k e = absurd (cc)

-- what is known at a fixup that has a section
record AtSection (k : SolvedSuffix) (h : OpenState) (s : State) (section : ℕ) : Type 0 where
  here : HereOf k h
  base : h.first.base ≡ Section section
  at : InPlace k.registers.now h.place s

-- another section isn't added
other_section : (k : SolvedSuffix) (h : OpenState) (s : State) (section j class : ℕ) → AtSection k h s section → class_of k.registers.now j ≡ class → class_of k.registers.now section ≢ class → h.first.base ≡ Section j → ⊥
other_section k h s section j class a of apart base =
    apart (ap (class_of k.registers.now) (section_one section j (sym a.base ∙ base)) ∙ of)

none_c : (l : Labels) (k : SolvedSuffix) (h : OpenState) (s : State) (section n : ℕ) → AtSection k h s section → class_of k.registers.now section ≢ h.place.c → NoneOf (LeadsBy l s h.place.left.now n) (counted BySectC 1 512)
none_c l k h s section n a apart =
    none_counted (LeadsBy l s h.place.left.now n) BySectC 1 512 (λ j under w.
    other_section k h s section s.c h.place.c a a.at.c apart
    (row_base h.first h.others.now w.left j s.position 4 (Section s.c) (sym a.here.parts ∙ (w.delivers.is ∙ ap (λ m. row m s.position 4 (Section s.c) ++ w.left) (one_more j)))))

none_d : (l : Labels) (k : SolvedSuffix) (h : OpenState) (s : State) (section n : ℕ) → AtSection k h s section → class_of k.registers.now section ≢ h.place.d → NoneOf (LeadsBy l s h.place.left.now n) (counted BySectD 1 512)
none_d l k h s section n a apart =
    none_counted (LeadsBy l s h.place.left.now n) BySectD 1 512 (λ j under w.
    other_section k h s section s.d h.place.d a a.at.d apart
    (row_base h.first h.others.now w.left j s.position 4 (Section s.d) (sym a.here.parts ∙ (w.delivers.is ∙ ap (λ m. row m s.position 4 (Section s.d) ++ w.left) (one_more j)))))

none_spaced : (l : Labels) (k : SolvedSuffix) (h : OpenState) (s : State) (section n : ℕ) → AtSection k h s section → class_of k.registers.now section ≢ h.place.d → NoneOf (LeadsBy l s h.place.left.now n) (counted VTable8 1 512)
none_spaced l k h s section n a apart =
    none_counted (LeadsBy l s h.place.left.now n) VTable8 1 512 (λ j under w.
    other_section k h s section s.d h.place.d a a.at.d apart
    (row_base h.first h.others.now w.left j s.position 8 (Section s.d) (sym a.here.parts ∙ (w.delivers.is ∙ ap (λ m. row m s.position 8 (Section s.d) ++ w.left) (one_more j)))))

-- pairs, if register C holds another section, or register D doesn't hold the next one
abbrev Unpaired : SolvedSuffix → OpenState → ℕ → Type 0
Unpaired k h section = (class_of k.registers.now section ≢ h.place.c) ⊎ ((g : Fixup) (rest : List Fixup) (j : ℕ) → h.others.now ≡ g ∷ rest → g.base ≡ Section j → class_of k.registers.now j ≡ h.place.d → ⊥)

unpaired : (k : SolvedSuffix) (h : OpenState) (s : State) (section n p w : ℕ) (left : List Fixup) → AtSection k h s section → Unpaired k h section → h.first ∷ h.others.now ≡ pairs (suc n) p w (Section s.c) (Section s.d) ++ left → ⊥
unpaired k h s section n p w left a (inl apart) e =
    other_section k h s section s.c h.place.c a a.at.c apart (pairs_base h.first h.others.now left n p w (Section s.c) (Section s.d) e)
unpaired k h s section n p w left a (inr other) e =
    other (added (p + 4) (Section s.d)) (pairs n (p + w) w (Section s.c) (Section s.d) ++ left) s.d (pairs_next h.first h.others.now left n p w (Section s.c) (Section s.d) e) refl a.at.d

none_pairs : (l : Labels) (k : SolvedSuffix) (h : OpenState) (s : State) (section n : ℕ) → AtSection k h s section → Unpaired k h section → NoneOf (LeadsBy l s h.place.left.now n) (counted TVector8 1 512)
none_pairs l k h s section n a other =
    none_counted (LeadsBy l s h.place.left.now n) TVector8 1 512 (λ j under w.
    unpaired k h s section j s.position 8 w.left a other (sym a.here.parts ∙ (w.delivers.is ∙ ap (λ m. pairs m s.position 8 (Section s.c) (Section s.d) ++ w.left) (one_more j))))

none_far : (l : Labels) (k : SolvedSuffix) (h : OpenState) (s : State) (section n : ℕ) → AtSection k h s section → Unpaired k h section → NoneOf (LeadsBy l s h.place.left.now n) (counted TVector12 1 512)
none_far l k h s section n a other =
    none_counted (LeadsBy l s h.place.left.now n) TVector12 1 512 (λ j under w.
    unpaired k h s section j s.position 12 w.left a other (sym a.here.parts ∙ (w.delivers.is ∙ ap (λ m. pairs m s.position 12 (Section s.c) (Section s.d) ++ w.left) (one_more j))))

-- the lists that are tried, without the runs that can't begin
thin_held : (P : Instr → Type 0) (b : Bool) (tried before ys : List Instr) → (b ≡ true → Thin P tried ys) → (b ≡ false → Thin P before ys) → Thin P (if_held b tried before) ys
thin_held P true tried before ys held free = held refl
thin_held P false tried before ys held free = free refl

abbrev BothNone : (Instr → Type 0) → Type 0
BothNone P = NoneOf P (counted TVector8 1 512) × NoneOf P (counted TVector12 1 512)

thin_both : (P : Instr → Type 0) (before : List Instr) → BothNone P → Thin P before (before ++ counted TVector8 1 512 ++ counted TVector12 1 512)
thin_both P before none =
    thin_more P before (before ++ counted TVector8 1 512) (counted TVector12 1 512) none.1
    (thin_more P before before (counted TVector8 1 512) none.0 (thin_same P before))

thin_pairs : (P : Instr → Type 0) (rs : List ℕ) (d j : ℕ) (b : Base) (before : List Instr) → (((i : ℕ) → b ≡ Section i → class_of rs i ≡ d → ⊥) → BothNone P) → Thin P (with_pairs rs d j b before) (before ++ counted TVector8 1 512 ++ counted TVector12 1 512)
thin_pairs P rs d j (Section k) before none =
    thin_held P (class_of rs k == d) (before ++ counted TVector8 1 512 ++ counted TVector12 1 512) before (before ++ counted TVector8 1 512 ++ counted TVector12 1 512)
    (λ _. thin_same P (before ++ counted TVector8 1 512 ++ counted TVector12 1 512))
    (λ no. thin_both P before (none (λ i is of. eqb-false (class_of rs k) d no (ap (class_of rs) (section_one k i is) ∙ of))))
thin_pairs P rs d j (Import k) before none = thin_both P before (none (λ i is of. not_section k i is))

thin_second : (P : Instr → Type 0) (rs : List ℕ) (d j : ℕ) (others : List Fixup) (before : List Instr) → (((g : Fixup) (rest : List Fixup) (i : ℕ) → others ≡ g ∷ rest → g.base ≡ Section i → class_of rs i ≡ d → ⊥) → BothNone P) → Thin P (with_second rs d j others before) (before ++ counted TVector8 1 512 ++ counted TVector12 1 512)
thin_second P rs d j [] before none = thin_both P before (none (λ g rest i e. absurd (cc)))
thin_second P rs d j (f ∷ fs) before none =
    thin_pairs P rs d j f.base before (λ no. none (λ g rest i e base of.
    no i (head_base f g fs rest e ∙ base) of))

thin_c : (l : Labels) (k : SolvedSuffix) (h : OpenState) (s : State) (section class n : ℕ) (before : List Instr) → AtSection k h s section → class_of k.registers.now section ≡ class → Thin (LeadsBy l s h.place.left.now n) (with_c k h section class before) (before ++ counted BySectC 1 512 ++ counted TVector8 1 512 ++ counted TVector12 1 512)
thin_c l k h s section class n before a of =
    let P : Instr → Type 0 = LeadsBy l s h.place.left.now n in
    let both : Unpaired k h section → BothNone P = λ other. (none_pairs l k h s section n a other, none_far l k h s section n a other) in
    thin_held P (class == h.place.c) (with_second k.registers.now h.place.d section h.others.now (before ++ counted BySectC 1 512)) before (before ++ counted BySectC 1 512 ++ counted TVector8 1 512 ++ counted TVector12 1 512)
    (λ _. thin_second P k.registers.now h.place.d section h.others.now (before ++ counted BySectC 1 512) (λ other. both (inr other)))
    (λ no.
    let apart : class_of k.registers.now section ≢ h.place.c = λ e. eqb-false class h.place.c no (sym of ∙ e) in
    let none = both (inl apart) in
    thin_more P before (before ++ counted BySectC 1 512 ++ counted TVector8 1 512) (counted TVector12 1 512) none.1
    (thin_more P before (before ++ counted BySectC 1 512) (counted TVector8 1 512) none.0
    (thin_more P before before (counted BySectC 1 512) (none_c l k h s section n a apart) (thin_same P before))))

thin_d : (l : Labels) (k : SolvedSuffix) (h : OpenState) (s : State) (section class n : ℕ) (before ys : List Instr) → AtSection k h s section → class_of k.registers.now section ≡ class → Thin (LeadsBy l s h.place.left.now n) before ys → Thin (LeadsBy l s h.place.left.now n) (with_d k h section class before) (ys ++ counted BySectD 1 512 ++ counted VTable8 1 512)
thin_d l k h s section class n before ys a of thin =
    let P : Instr → Type 0 = LeadsBy l s h.place.left.now n in
    thin_held P (class == h.place.d) (before ++ counted BySectD 1 512 ++ counted VTable8 1 512) before (ys ++ counted BySectD 1 512 ++ counted VTable8 1 512)
    (λ _. thin_append P (before ++ counted BySectD 1 512) (ys ++ counted BySectD 1 512) (counted VTable8 1 512) (thin_append P before ys (counted BySectD 1 512) thin))
    (λ no.
    let apart : class_of k.registers.now section ≢ h.place.d = λ e. eqb-false class h.place.d no (sym of ∙ e) in
    thin_more P before (ys ++ counted BySectD 1 512) (counted VTable8 1 512) (none_spaced l k h s section n a apart)
    (thin_more P before ys (counted BySectD 1 512) (none_d l k h s section n a apart) thin))

-- the first of all instructions that can add a section
pub section_sifted : (k : SolvedSuffix) (h : OpenState) (section class label : ℕ) (x : Choice) → HereOf k h → h.first.base ≡ Section section → class_of k.registers.now section ≡ class → SiftedOf k h label (with_d k h section class (with_c k h section class (SmBySection section ∷ []))) x → SiftedOf k h label (additions_in_order (Section section)) x
section_sifted k h section class label x here base of sifted l s agrees at =
    let a : AtSection k h s section = record { here = here; base = base; at = at } in
    let one : List Instr = SmBySection section ∷ [] in
    let thin = thin_d l k h s section class label (with_c k h section class one) (one ++ counted BySectC 1 512 ++ counted TVector8 1 512 ++ counted TVector12 1 512) a of (thin_c l k h s section class label one a of) in
    let old = sifted l s agrees at in
    record { found = λ low. thin.first x.step.instr (old.found low); none = λ above. thin.none (old.none above) }

-- if it reaches the label, the instruction that adds once
pub section_at_once : (k : SolvedSuffix) (h : OpenState) (section label : ℕ) (x : Choice) → Chosen k h x → x.step.instr ≡ SmBySection section → x.value ≤ label → SiftedOf k h label (additions_in_order (Section section)) x
section_at_once k h section label x chosen is low =
    let one : List Instr = SmBySection section ∷ [] in
    sift_enough k h label (one ++ counted BySectC 1 512 ++ counted TVector8 1 512 ++ counted TVector12 1 512 ++ counted BySectD 1 512) (counted VTable8 1 512) x low
    (sift_enough k h label (one ++ counted BySectC 1 512 ++ counted TVector8 1 512 ++ counted TVector12 1 512) (counted BySectD 1 512) x low
    (sift_enough k h label (one ++ counted BySectC 1 512 ++ counted TVector8 1 512) (counted TVector12 1 512) x low
    (sift_enough k h label (one ++ counted BySectC 1 512) (counted TVector8 1 512) x low
    (sift_enough k h label one (counted BySectC 1 512) x low
    (sift_start k h label (SmBySection section) x chosen is)))))

-- an import that isn't the next one
pub import_alone : (k : SolvedSuffix) (h : OpenState) (import label : ℕ) (x : Choice) → HereOf k h → h.first.base ≡ Import import → import ≢ h.place.import_index → Chosen k h x → x.step.instr ≡ import_once import → SiftedOf k h label (additions_in_order (Import import)) x
import_alone k h import label x here base other chosen is l s agrees at =
    let P : Instr → Type 0 = LeadsBy l s h.place.left.now label in
    let old = sift_start k h label (import_once import) x chosen is l s agrees at in
    let runs : NoneOf P (counted ImportRun 1 512) =
    none_counted P ImportRun 1 512 (λ j under w.
    other (import_one import h.place.import_index (sym base
    ∙ (numbered_base h.first h.others.now w.left j s.position s.import_index (sym here.parts ∙ (w.delivers.is ∙ ap (λ m. numbered m s.position s.import_index ++ w.left) (one_more j)))
    ∙ ap Import at.import_index)))) in
    record {
      found = λ low. first_before P (import_once import ∷ []) (counted ImportRun 1 512) x.step.instr (old.found low);
      none = λ above. none_append P (import_once import ∷ []) (counted ImportRun 1 512) (old.none above) runs;
    }

-- from one choice to the next: the runs with the section in register C, and those with it in D
pub section_found : (k : SolvedSuffix) (h : OpenState) (section class label : ℕ) (one : Choice) (best last : Sought) → HereOf k h → h.first.base ≡ Section section → class_of k.registers.now section ≡ class → Chosen k h one → one.step.instr ≡ SmBySection section
    → ((before : List Instr) → SiftedOf k h label before one → SiftedOf k h best.label (with_c k h section class before) best.choice)
    → ((before : List Instr) → SiftedOf k h best.label before best.choice → SiftedOf k h last.label (with_d k h section class before) last.choice)
    → last.label ≡ label → SiftedOf k h label (additions_in_order (Section section)) last.choice
section_found k h section class label one best last here base of chosen is in_c in_d same =
    let found = in_d (with_c k h section class (SmBySection section ∷ [])) (in_c (SmBySection section ∷ []) (sift_start k h label (SmBySection section) one chosen is)) in
    section_sifted k h section class label last.choice here base of (subst (λ (n : ℕ). SiftedOf k h n (with_d k h section class (with_c k h section class (SmBySection section ∷ []))) last.choice) same found)

-- the import once, and then a run of imports
pub import_run : (k : SolvedSuffix) (h : OpenState) (import label : ℕ) (one x : Choice) → RunOf k.registers.now Imports h.place h.place.position → Chosen k h one → one.step.instr ≡ import_once import → Chosen k h x → FirstEnd k h Imports h.place.position (record { choice = one; label = label }) x → x.value ≤ one.value
    → ((l : Labels) (value : ℕ) → Agrees l k h.others.now → value ≤ x.value → label < x.value → Ends l Imports h h.place.position value)
    → SiftedOf k h label (additions_in_order (Import import)) x
import_run k h import label one x of chosen is last found better ends =
    sift_run k h Imports h.place.position (import_once import ∷ []) (record { choice = one; label = label }) x of last found better ends (sift_start k h label (import_once import) one chosen is)
