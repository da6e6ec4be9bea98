-- Steps from a place: the values at a fixup, and the proof that one of the steps that are tried leads on.
use Rattle.std.proofs.Common.{◌≡◌, ℕ, zero, suc, ◌+◌, ◌<◌, ◌≤◌, ◌⊎◌, inl, inr, true, List, [], ◌∷◌, ◌++◌, length, slice_index, refl, ap, ap₂, sym, ◌∙◌, subst, arith, length-append}
use Rattle.std.specs.Prelude.{slice_index_or}
use Rattle.pef_reloc.specs.declared.fixup.Fixup.{Fixup}
use Rattle.pef_reloc.specs.declared.instr.Instr.{Instr}
use Rattle.pef_reloc.specs.declared.instr.Instr.TheVariants.{BySectDWithSkip, BySectC, BySectD, TVector12, TVector8, VTable8, ImportRun, SmByImport, SmSetSectC, SmSetSectD, SmBySection, IncrPosition, SmRepeat, SetPosition, LgByImport, LgRepeat, LgBySection, LgSetSectC, LgSetSectD}
use Rattle.pef_reloc.specs.Steps.{State, additions, next_state}
use Rattle.pef_reloc.proofs.Laws.{some_length}
use Rattle.pef_cert.specs.Labels.{Labels, class_of}
use Rattle.pef_cert.specs.Extension.{extension, extension_at}
use Rattle.pef_cert.specs.Valid.{is_among}
use Rattle.pef_cert.specs.LabelTests.{base_test}
use Rattle.pef_cert.proofs.Laws.{NumberOf, World, class_of-below, class_of-index, class_of-other, class_of-same, extension-here, is_among-index, label-extension, tested, world-first}
use Rattle.pef_plan.specs.declared.runs.suffix.SolvedSuffix.{SolvedSuffix}
use Rattle.pef_plan.specs.declared.runs.state.PlanState.{PlanState}
use Rattle.pef_plan.specs.declared.runs.state.OpenState.{OpenState}
use Rattle.pef_plan.specs.declared.runs.state.Choice.{Choice}
use Rattle.pef_plan.specs.Runs.Places.{Chosen, InPlace}
use Rattle.std.proofs.lemmas.Bool.{false_from_ne_true}
use Rattle.pef_words.proofs.Laws.Numbers.{below_or}
use Rattle.pef_plan.specs.Kept.Steps.{FallsOn, Sections, Tracked, TrackedHere, labels_tabled}
use Rattle.pef_plan.specs.Runs.Tables.{Agrees, label_in}
use Rattle.pef_plan.specs.Reached.{LeadsOn, ReachedFrom}
use Rattle.pef_plan.proofs.FillLemmas.{registered-all}
use Rattle.pef_plan.proofs.RunsProofs.KnownLemmas.{agrees-after}
use Rattle.pef_reloc.specs.Limits.{most_sections}

-- a section of each class
pub section_there : (rs : List ℕ) (class : ℕ) → Sections rs → class < length rs → (class_of rs (slice_index rs class) ≡ class) × (slice_index rs class < most_sections)
section_there rs class s under = (class_of-index rs class s.rising under, s.below (slice_index rs class) (is_among-index rs class under))

pub section_free : (rs : List ℕ) → Sections rs → class_of rs most_sections ≡ length rs
section_free rs s = class_of-other rs most_sections (false_from_ne_true (is_among rs most_sections) (λ among. let low = s.below most_sections among in omega (arith, low)))

-- the number of the section for each class
pub number_inside : (rs : List ℕ) (class : ℕ) → class < length rs → slice_index rs class ≡ slice_index_or rs class most_sections
number_inside [] class under = absurd (omega (arith, under))
number_inside (r ∷ rs) zero under = refl
number_inside (r ∷ rs) (suc class) under = number_inside rs class (omega (arith, under))

pub number_past : (rs : List ℕ) (class : ℕ) → length rs ≤ class → most_sections ≡ slice_index_or rs class most_sections
number_past [] class past = refl
number_past (r ∷ rs) zero past = absurd (omega (arith, past))
number_past (r ∷ rs) (suc class) past = number_past rs class (omega (arith, past))

pub number_is : (rs : List ℕ) (class : ℕ) → Sections rs → class < length rs + 1 → class_of rs (slice_index_or rs class most_sections) ≡ class
number_is rs class s under =
    elim (below_or class (length rs) under) [
      | inl inside ↦ ap (class_of rs) (sym (number_inside rs class inside)) ∙ (section_there rs class s inside).0
      | inr last ↦ ap (class_of rs) (sym (number_past rs class (omega (arith, last)))) ∙ (section_free rs s ∙ sym last)
    ]

-- the class of a section that is among the registers has it
pub number_of_class : (rs : List ℕ) (section : ℕ) → Sections rs → class_of rs section < length rs → slice_index_or rs (class_of rs section) most_sections ≡ section
number_of_class rs section s under =
    class_of-same rs (slice_index_or rs (class_of rs section) most_sections) section (number_is rs (class_of rs section) s (omega (arith, under))) under

pub section_is : (rs : List ℕ) (class : ℕ) → Sections rs → class < length rs → class_of rs (slice_index rs class) ≡ class
section_is rs class s under = (section_there rs class s under).0

pub section_small : (rs : List ℕ) (class : ℕ) → Sections rs → class < length rs → slice_index rs class < 512
section_small rs class s under = let low = (section_there rs class s under).1 in omega (arith, low)

pub section_last : (rs : List ℕ) (class : ℕ) → Sections rs → class < length rs + 1 → length rs ≤ class → class_of rs most_sections ≡ class
section_last rs class s under past = let free = section_free rs s in omega (arith, free, under, past)

number_of : (rs : List ℕ) (class : ℕ) → Sections rs → (class < length rs) ⊎ (class ≡ length rs) → NumberOf rs class
number_of rs class s (inl under) = let there = section_there rs class s under in let low = there.1 in record { number = slice_index rs class; small = omega (arith, low); is = there.0 }
number_of rs class s (inr last) = record { number = most_sections; small = omega arith; is = section_free rs s ∙ sym last }

pub tracked_world : (k : SolvedSuffix) (p : PlanState) → Tracked k p → World (labels_tabled k) p.import_index p.left.now
tracked_world k p t = record {
  numbers = record { of = λ class under. number_of k.registers.now class t.sections (below_or class (length k.registers.now) under) };
  registered = registered-all k.registers.now p.left.now t.counts;
  feasible = t.feasible;
}

pub agrees_others : (k : SolvedSuffix) (h : OpenState) → TrackedHere k h → Agrees (labels_tabled k) k h.others.now
agrees_others k h t =
    let whole = subst (λ (fs : List Fixup). Agrees (labels_tabled k) k fs) t.parts t.at.agrees in
    agrees-after (labels_tabled k) k (h.first ∷ []) h.others.now whole

-- the extension at a fixup is its label
pub extension_label : (k : SolvedSuffix) (h : OpenState) (c d : ℕ) → TrackedHere k h → h.place.position ≡ h.first.offset → extension (labels_tabled k) h.place.left.now h.place.position c d ≡ label_in (length k.registers.now + 1) k.labels.now.rows (length h.place.left.now) c d
extension_label k h c d t at =
    ap (λ fs. extension (labels_tabled k) fs h.place.position c d) t.parts
    ∙ (extension-here (labels_tabled k) h.first h.others.now h.place.position c d at
    ∙ ap (λ fs. label_in (length k.registers.now + 1) k.labels.now.rows (length fs) c d) (sym t.parts))

-- an instruction that adds nothing and sets no register
data Kind (x : Instr) (s : State) : Type 0 where
  sets_c : (j : ℕ) → next_state x s ≡ record s { c = j } → Kind x s
  sets_d : (j : ℕ) → next_state x s ≡ record s { d = j } → Kind x s
  stays : (next_state x s).c ≡ s.c → (next_state x s).d ≡ s.d → Kind x s

kind_of : (x : Instr) (s : State) → Kind x s
kind_of (BySectDWithSkip u t) s = stays refl refl
kind_of (BySectC n) s = stays refl refl
kind_of (BySectD n) s = stays refl refl
kind_of (TVector12 n) s = stays refl refl
kind_of (TVector8 n) s = stays refl refl
kind_of (VTable8 n) s = stays refl refl
kind_of (ImportRun n) s = stays refl refl
kind_of (SmByImport n) s = stays refl refl
kind_of (SmSetSectC n) s = sets_c n refl
kind_of (SmSetSectD n) s = sets_d n refl
kind_of (SmBySection n) s = stays refl refl
kind_of (IncrPosition n) s = stays refl refl
kind_of (SmRepeat b n) s = stays refl refl
kind_of (SetPosition n) s = stays refl refl
kind_of (LgByImport n) s = stays refl refl
kind_of (LgRepeat b n) s = stays refl refl
kind_of (LgBySection n) s = stays refl refl
kind_of (LgSetSectC n) s = sets_c n refl
kind_of (LgSetSectD n) s = sets_d n refl

-- if no setting of a register leads on, the best addition does
none_left : (additions left : List Fixup) (f : Fixup) (rest : List Fixup) → f ∷ rest ≡ additions ++ left → (length left < length (f ∷ rest)) ⊎ (f ∷ rest ≡ left)
none_left [] left f rest e = inr e
none_left (a ∷ additions) left f rest e =
    let count = ap length e in
    let sum = length-append (a ∷ additions) left in
    inl (omega (arith, count, sum))

pub best_falls : (k : SolvedSuffix) (h : OpenState) (s : State) (value label : ℕ) → TrackedHere k h → h.place.position ≡ h.first.offset → InPlace k.registers.now h.place s
    → base_test (labels_tabled k) value h.place.import_index h.first h.others.now h.place.c h.place.d h.first.base ≡ true
    → label ≡ label_in (length k.registers.now + 1) k.labels.now.rows (length h.place.left.now) h.place.c h.place.d
    → ((e : ℕ) → e < length k.registers.now + 1 → label ≤ label_in (length k.registers.now + 1) k.labels.now.rows (length h.place.left.now) e h.place.d)
    → ((e : ℕ) → e < length k.registers.now + 1 → label ≤ label_in (length k.registers.now + 1) k.labels.now.rows (length h.place.left.now) h.place.c e)
    → value ≤ label
best_falls k h s value label t at in_place met is by_c by_d =
    let l : Labels = labels_tabled k in
    let here : s.position ≡ h.first.offset = in_place.position ∙ at in
    let world = subst (λ (fs : List Fixup). World l h.place.import_index fs) t.parts (tracked_world k h.place t.at) in
    let reached = (subst (λ (fs : List Fixup). ReachedFrom l h.place.import_index fs) t.parts t.at.reached).0 in
    let first = reached s (record { position = here; index_is = in_place.import_index }) in
    go l world here first (none_left (additions first.instr s) first.left h.first h.others.now first.delivers.is)
  where
    mine : extension_at (labels_tabled k) (h.first ∷ h.others.now) s ≡ label
    mine =
        ap (λ fs. extension_at (labels_tabled k) fs s) (sym t.parts)
        ∙ (ap (λ p. extension (labels_tabled k) h.place.left.now p (class_of k.registers.now s.c) (class_of k.registers.now s.d)) in_place.position
        ∙ (ap₂ (λ c d. extension (labels_tabled k) h.place.left.now h.place.position c d) in_place.c in_place.d
        ∙ (extension_label k h h.place.c h.place.d t at ∙ sym is)))

    adds : (x : LeadsOn (labels_tabled k) s (h.first ∷ h.others.now)) → s.position ≡ h.first.offset → length x.left < length (h.first ∷ h.others.now) → value ≤ label
    adds x here fewer =
        let passed : base_test (labels_tabled k) value s.import_index h.first h.others.now (class_of k.registers.now s.c) (class_of k.registers.now s.d) h.first.base ≡ true =
        subst (λ (m : ℕ). base_test (labels_tabled k) value m h.first h.others.now (class_of k.registers.now s.c) (class_of k.registers.now s.d) h.first.base ≡ true) (sym in_place.import_index)
        (subst (λ (c : ℕ). base_test (labels_tabled k) value h.place.import_index h.first h.others.now c (class_of k.registers.now s.d) h.first.base ≡ true) (sym in_place.c)
        (subst (λ (d : ℕ). base_test (labels_tabled k) value h.place.import_index h.first h.others.now h.place.c d h.first.base ≡ true) (sym in_place.d) met)) in
        let low = tested (labels_tabled k) value x.instr s h.first h.others.now x.left passed here x.flat x.delivers.is fewer in
        let falls = x.falls in
        omega (arith, low, falls, mine)

    stuck : (x : LeadsOn (labels_tabled k) s (h.first ∷ h.others.now)) → World (labels_tabled k) h.place.import_index (h.first ∷ h.others.now) → s.position ≡ h.first.offset → h.first ∷ h.others.now ≡ x.left → Kind x.instr s → value ≤ label
    stuck x world here same (sets_c j next) =
        let to = ap (λ q. extension_at (labels_tabled k) (h.first ∷ h.others.now) q) next in
        let left = ap (λ fs. extension_at (labels_tabled k) fs (next_state x.instr s)) (sym same) in
        let at_j = extension-here (labels_tabled k) h.first h.others.now s.position (class_of k.registers.now j) (class_of k.registers.now s.d) here in
        let low = by_c (class_of k.registers.now j) (class_of-below (labels_tabled k) j) in
        let parts = ap (λ fs. label_in (length k.registers.now + 1) k.labels.now.rows (length fs) (class_of k.registers.now j) h.place.d) t.parts in
        let turned = ap (λ d. label_in (length k.registers.now + 1) k.labels.now.rows (length (h.first ∷ h.others.now)) (class_of k.registers.now j) d) in_place.d in
        let some = some_length x.instr in
        let falls = x.falls in
        absurd (omega (arith, to, left, at_j, low, parts, turned, some, falls, mine))
    stuck x world here same (sets_d j next) =
        let to = ap (λ q. extension_at (labels_tabled k) (h.first ∷ h.others.now) q) next in
        let left = ap (λ fs. extension_at (labels_tabled k) fs (next_state x.instr s)) (sym same) in
        let at_j = extension-here (labels_tabled k) h.first h.others.now s.position (class_of k.registers.now s.c) (class_of k.registers.now j) here in
        let low = by_d (class_of k.registers.now j) (class_of-below (labels_tabled k) j) in
        let parts = ap (λ fs. label_in (length k.registers.now + 1) k.labels.now.rows (length fs) h.place.c (class_of k.registers.now j)) t.parts in
        let turned = ap (λ c. label_in (length k.registers.now + 1) k.labels.now.rows (length (h.first ∷ h.others.now)) c (class_of k.registers.now j)) in_place.c in
        let some = some_length x.instr in
        let falls = x.falls in
        absurd (omega (arith, to, left, at_j, low, parts, turned, some, falls, mine))
    stuck x world here same (stays c_is d_is) =
        let q : State = next_state x.instr s in
        let left = ap (λ fs. extension_at (labels_tabled k) fs q) (sym same) in
        let turned = ap₂ (λ c d. extension (labels_tabled k) (h.first ∷ h.others.now) q.position (class_of k.registers.now c) (class_of k.registers.now d)) c_is d_is in
        let low = label-extension (labels_tabled k) h.place.import_index h.first h.others.now q.position (class_of k.registers.now s.c) (class_of k.registers.now s.d) (world-first (labels_tabled k) h.place.import_index h.first h.others.now world) (class_of-below (labels_tabled k) s.c) (class_of-below (labels_tabled k) s.d) in
        let label_here = extension-here (labels_tabled k) h.first h.others.now s.position (class_of k.registers.now s.c) (class_of k.registers.now s.d) here in
        let some = some_length x.instr in
        let falls = x.falls in
        absurd (omega (arith, left, turned, low, label_here, some, falls, mine))

    go : (l : Labels) → World (labels_tabled k) h.place.import_index (h.first ∷ h.others.now) → s.position ≡ h.first.offset → (x : LeadsOn (labels_tabled k) s (h.first ∷ h.others.now)) → (length x.left < length (h.first ∷ h.others.now)) ⊎ (h.first ∷ h.others.now ≡ x.left) → value ≤ label
    go l world here x (inl fewer) = adds x here fewer
    go l world here x (inr same) = stuck x world here same (kind_of x.instr s)

-- along the chosen step the extension falls, if its value is at most the label
pub chosen_falls : (k : SolvedSuffix) (h : OpenState) (x : Choice) → TrackedHere k h → h.place.position ≡ h.first.offset → Chosen k h x → x.value ≤ label_in (length k.registers.now + 1) k.labels.now.rows (length h.place.left.now) h.place.c h.place.d → FallsOn k h.place x.step
chosen_falls k h x t at chosen low s in_place =
    let worth = chosen.worth (labels_tabled k) (agrees_others k h t) in
    let here = extension_label k h h.place.c h.place.d t at in
    record { goes = chosen.goes s in_place; falls = omega (arith, worth, here, low) }
