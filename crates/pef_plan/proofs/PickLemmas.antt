-- The step that is taken has the first instruction that a shortest list begins with.
use Rattle.std.proofs.Common.{◌≡◌, ◌≢◌, ℕ, ◌+◌, ◌-◌, ◌/◌, ◌<◌, ◌≤◌, inl, inr, nat_le, List, ◌∷◌, ◌++◌, length, refl, ap, sym, ◌∙◌, subst, arith, eq-eqb}
use Rattle.std.specs.Prelude.{slice_index_or}
use Rattle.std.proofs.lemmas.Bool.{and_parts, leb-true, ne_eqb}
use Rattle.pef_reloc.specs.declared.fixup.Base.TheVariants.{Section}
use Rattle.pef_reloc.specs.declared.fixup.Fixup.{Fixup}
use Rattle.pef_reloc.specs.declared.instr.Instr.{Instr}
use Rattle.pef_reloc.specs.declared.instr.Instr.TheVariants.{BySectDWithSkip, IncrPosition, SetPosition, SmSetSectC, SmSetSectD}
use Rattle.pef_reloc.specs.Limits.{most_sections}
use Rattle.pef_reloc.specs.Steps.{State, next_state}
use Rattle.pef_cert.specs.Labels.{Labels, class_of}
use Rattle.pef_cert.specs.Extension.{extension, extension_at, offer_at}
use Rattle.pef_cert.proofs.Laws.{extension-away}
use Rattle.pef_words.proofs.Laws.Numbers.{below_or}
use Rattle.pef_plan.specs.declared.runs.suffix.SolvedSuffix.{SolvedSuffix}
use Rattle.pef_plan.specs.declared.runs.state.PlanState.{PlanState}
use Rattle.pef_plan.specs.declared.runs.state.OpenState.{OpenState}
use Rattle.pef_plan.specs.declared.runs.state.Step.{Step}
use Rattle.pef_plan.specs.declared.runs.state.Choice.{Choice}
use Rattle.pef_plan.specs.Kept.Firsts.{FirstSkip, LeadsBy, NoMove, NoneOf, Picks, SiftedOf}
use Rattle.pef_plan.specs.Kept.Steps.{FallsOn, SkipsTo, TrackedHere, labels_tabled}
use Rattle.pef_plan.specs.Planned.{FirstOf, additions_in_order, counted, moves_in_order, sets_in_order, steps_at, steps_in_order}
use Rattle.pef_plan.specs.Runs.Places.{InPlace, extension_in}
use Rattle.pef_plan.specs.Runs.Tables.{label_in}
use Rattle.pef_plan.proofs.FirstLemmas.{first_after, first_before, first_set_c, first_set_d}
use Rattle.pef_plan.proofs.MoveFacts.{counts_here, label-there}
use Rattle.pef_plan.proofs.SetLemmas.{moved_far}
use Rattle.pef_plan.proofs.SiftLemmas.{extension_there}
use Rattle.pef_plan.proofs.StepFacts.{agrees_others, extension_label, number_is, number_of_class}

-- the instructions that are tried at a fixup, and away from it
steps_here : (rs : List ℕ) (p : ℕ) (f : Fixup) (others left : List Fixup) → left ≡ f ∷ others → p ≡ f.offset → steps_in_order rs p left ≡ additions_in_order f.base ++ sets_in_order rs
steps_here rs p f others left parts at = ap (steps_in_order rs p) parts ∙ ap (λ b. steps_at b rs p f) (eq-eqb p f.offset at)

steps_away : (rs : List ℕ) (p : ℕ) (f : Fixup) (others left : List Fixup) → left ≡ f ∷ others → p ≢ f.offset → steps_in_order rs p left ≡ moves_in_order (f.offset - p) f
steps_away rs p f others left parts away = ap (steps_in_order rs p) parts ∙ ap (λ b. steps_at b rs p f) (ne_eqb p f.offset away)

-- the instructions that lead on within the extension
abbrev By : SolvedSuffix → PlanState → State → Instr → Type 0
By k p s = LeadsBy (labels_tabled k) s p.left.now (extension_in (labels_tabled k) p)

-- a step along which the extension falls has one of them
falls_lead : (k : SolvedSuffix) (p : PlanState) (x : Step) (s : State) → FallsOn k p x → InPlace k.registers.now p s → By k p s x.instr
falls_lead k p x s falls at =
    let f = falls s at in
    let low = f.falls in
    let there = extension_there (labels_tabled k) k.registers.now x.next (next_state x.instr s) x.next.left.now refl f.goes.next in
    record { left = x.next.left.now; flat = f.goes.flat; delivers = f.goes.delivers; falls = omega (arith, low, there) }

falls_with : (k : SolvedSuffix) (p : PlanState) (x : Step) (s : State) (instr : Instr) → FallsOn k p x → x.instr ≡ instr → InPlace k.registers.now p s → By k p s instr
falls_with k p x s instr falls is at = subst (λ (y : Instr). By k p s y) is (falls_lead k p x s falls at)

-- the label at a fixup, for two classes
abbrev label_there : SolvedSuffix → OpenState → ℕ → ℕ → ℕ
label_there k h c d = label_in (length k.registers.now + 1) k.labels.now.rows (length h.place.left.now) c d

-- what is known of the additions at a fixup
pub record SiftedAt (k : SolvedSuffix) (h : OpenState) (label : ℕ) (x : Choice) : Type 0 where
  pub tracked : TrackedHere k h
  pub at : h.place.position ≡ h.first.offset
  pub is : label ≡ label_there k h h.place.c h.place.d
  pub sifted : SiftedOf k h label (additions_in_order h.first.base) x

label_extension : (k : SolvedSuffix) (h : OpenState) (label : ℕ) (x : Choice) → SiftedAt k h label x → label ≡ extension_in (labels_tabled k) h.place
label_extension k h label x a = a.is ∙ sym (extension_label k h h.place.c h.place.d a.tracked a.at)

at_here : (k : SolvedSuffix) (h : OpenState) (label : ℕ) (x : Choice) (s : State) → SiftedAt k h label x → InPlace k.registers.now h.place s → steps_in_order k.registers.now s.position h.place.left.now ≡ additions_in_order h.first.base ++ sets_in_order k.registers.now
at_here k h label x s a in_place = steps_here k.registers.now s.position h.first h.others.now h.place.left.now a.tracked.parts (in_place.position ∙ a.at)

-- the addition, if it reaches the label
pub pick_addition : (k : SolvedSuffix) (h : OpenState) (label : ℕ) (x : Choice) → SiftedAt k h label x → x.value ≤ label → Picks k h.place x.step
pick_addition k h label x a low s in_place =
    let l : Labels = labels_tabled k in
    let P : Instr → Type 0 = By k h.place s in
    let found = ((a.sifted l s (agrees_others k h a.tracked) in_place).found low) in
    let here : FirstOf P (additions_in_order h.first.base) x.step.instr = subst (λ (n : ℕ). FirstOf (LeadsBy l s h.place.left.now n) (additions_in_order h.first.base) x.step.instr) (label_extension k h label x a) found in
    subst (λ (xs : List Instr). FirstOf P xs x.step.instr) (sym (at_here k h label x s a in_place))
    (first_before P (additions_in_order h.first.base) (sets_in_order k.registers.now) x.step.instr here)

none_added : (k : SolvedSuffix) (h : OpenState) (label : ℕ) (x : Choice) (s : State) → SiftedAt k h label x → label < x.value → InPlace k.registers.now h.place s → NoneOf (By k h.place s) (additions_in_order h.first.base)
none_added k h label x s a above in_place =
    subst (λ (n : ℕ). NoneOf (LeadsBy (labels_tabled k) s h.place.left.now n) (additions_in_order h.first.base)) (label_extension k h label x a)
    ((a.sifted (labels_tabled k) s (agrees_others k h a.tracked) in_place).none above)

-- a setting of a register leads on only if the label falls
set_c_falls : (k : SolvedSuffix) (h : OpenState) (label : ℕ) (x : Choice) (s : State) (class : ℕ) → SiftedAt k h label x → InPlace k.registers.now h.place s → class < length k.registers.now + 1 → By k h.place s (SmSetSectC (slice_index_or k.registers.now class most_sections)) → label_there k h class h.place.d < label
set_c_falls k h label x s class a in_place under w =
    let l : Labels = labels_tabled k in
    let number : ℕ = slice_index_or k.registers.now class most_sections in
    let q : PlanState = record { left = h.place.left; position = h.place.position; import_index = h.place.import_index; c = class; d = h.place.d } in
    let next : InPlace k.registers.now q (next_state (SmSetSectC number) s) = record { position = in_place.position; import_index = in_place.import_index; c = number_is k.registers.now class a.tracked.at.sections under; d = in_place.d } in
    let left : h.place.left.now ≡ w.left = w.delivers.is in
    let there = ap (λ fs. extension_at l fs (next_state (SmSetSectC number) s)) left in
    let at = extension_there l k.registers.now q (next_state (SmSetSectC number) s) h.place.left.now refl next in
    let lower = extension_label k h class h.place.d a.tracked a.at in
    let mine = label_extension k h label x a in
    let falls = w.falls in
    omega (arith, there, at, lower, mine, falls)

set_d_falls : (k : SolvedSuffix) (h : OpenState) (label : ℕ) (x : Choice) (s : State) (class : ℕ) → SiftedAt k h label x → InPlace k.registers.now h.place s → class < length k.registers.now + 1 → By k h.place s (SmSetSectD (slice_index_or k.registers.now class most_sections)) → label_there k h h.place.c class < label
set_d_falls k h label x s class a in_place under w =
    let l : Labels = labels_tabled k in
    let number : ℕ = slice_index_or k.registers.now class most_sections in
    let q : PlanState = record { left = h.place.left; position = h.place.position; import_index = h.place.import_index; c = h.place.c; d = class } in
    let next : InPlace k.registers.now q (next_state (SmSetSectD number) s) = record { position = in_place.position; import_index = in_place.import_index; c = in_place.c; d = number_is k.registers.now class a.tracked.at.sections under } in
    let left : h.place.left.now ≡ w.left = w.delivers.is in
    let there = ap (λ fs. extension_at l fs (next_state (SmSetSectD number) s)) left in
    let at = extension_there l k.registers.now q (next_state (SmSetSectD number) s) h.place.left.now refl next in
    let lower = extension_label k h h.place.c class a.tracked a.at in
    let mine = label_extension k h label x a in
    let falls = w.falls in
    omega (arith, there, at, lower, mine, falls)

-- the setting of register C to a class, and of register D
pub pick_set_c : (k : SolvedSuffix) (h : OpenState) (label : ℕ) (best : Choice) (class : ℕ) (x : Step) → SiftedAt k h label best → label < best.value → class < length k.registers.now + 1
    → ((e : ℕ) → e < class → label ≤ label_there k h e h.place.d) → ((e : ℕ) → e < class → label ≤ label_there k h h.place.c e)
    → FallsOn k h.place x → x.instr ≡ SmSetSectC (slice_index_or k.registers.now class most_sections) → Picks k h.place x
pick_set_c k h label best class x a above under by_c by_d falls is s in_place =
    let P : Instr → Type 0 = By k h.place s in
    let instr : Instr = SmSetSectC (slice_index_or k.registers.now class most_sections) in
    subst (λ (y : Instr). FirstOf P (steps_in_order k.registers.now s.position h.place.left.now) y) (sym is)
    (subst (λ (xs : List Instr). FirstOf P xs instr) (sym (at_here k h label best s a in_place))
    (first_after P (additions_in_order h.first.base) (sets_in_order k.registers.now) instr (none_added k h label best s a above in_place)
    (first_set_c P k.registers.now class under
    (λ e low w. let less = set_c_falls k h label best s e a in_place (omega (arith, low, under)) w in let most = by_c e low in omega (arith, less, most))
    (λ e low w. let less = set_d_falls k h label best s e a in_place (omega (arith, low, under)) w in let most = by_d e low in omega (arith, less, most))
    (falls_with k h.place x s instr falls is in_place))))

pub pick_set_d : (k : SolvedSuffix) (h : OpenState) (label : ℕ) (best : Choice) (class : ℕ) (x : Step) → SiftedAt k h label best → label < best.value → class < length k.registers.now + 1
    → ((e : ℕ) → e < class + 1 → label ≤ label_there k h e h.place.d) → ((e : ℕ) → e < class → label ≤ label_there k h h.place.c e)
    → FallsOn k h.place x → x.instr ≡ SmSetSectD (slice_index_or k.registers.now class most_sections) → Picks k h.place x
pick_set_d k h label best class x a above under by_c by_d falls is s in_place =
    let P : Instr → Type 0 = By k h.place s in
    let instr : Instr = SmSetSectD (slice_index_or k.registers.now class most_sections) in
    subst (λ (y : Instr). FirstOf P (steps_in_order k.registers.now s.position h.place.left.now) y) (sym is)
    (subst (λ (xs : List Instr). FirstOf P xs instr) (sym (at_here k h label best s a in_place))
    (first_after P (additions_in_order h.first.base) (sets_in_order k.registers.now) instr (none_added k h label best s a above in_place)
    (first_set_d P k.registers.now class under
    (λ e low w. let less = set_c_falls k h label best s e a in_place (omega (arith, low, under)) w in let most = by_c e low in omega (arith, less, most))
    (λ e low w. let less = set_d_falls k h label best s e a in_place (omega (arith, low, under)) w in let most = by_d e low in omega (arith, less, most))
    (falls_with k h.place x s instr falls is in_place))))

-- a property of the numbers below one, and of it
pub up_to : (P : ℕ → Type 0) (n : ℕ) → ((e : ℕ) → e < n → P e) → P n → (e : ℕ) → e < n + 1 → P e
up_to P n below here e under = elim (below_or e n under) [ inl less ↦ below e less | inr same ↦ subst (λ (m : ℕ). P m) (sym same) here ]

-- the label at the fixup, seen from elsewhere
abbrev here_label : SolvedSuffix → OpenState → ℕ
here_label k h = label_there k h h.place.c h.place.d

at_away : (k : SolvedSuffix) (h : OpenState) (s : State) → TrackedHere k h → h.place.position ≢ h.first.offset → InPlace k.registers.now h.place s → steps_in_order k.registers.now s.position h.place.left.now ≡ moves_in_order (h.first.offset - h.place.position) h.first
at_away k h s t away in_place =
    steps_away k.registers.now s.position h.first h.others.now h.place.left.now t.parts (λ same. away (sym in_place.position ∙ same))
    ∙ ap (λ p. moves_in_order (h.first.offset - p) h.first) in_place.position

-- the extension is at most the value of a move to the offset
extension_most : (k : SolvedSuffix) (h : OpenState) → TrackedHere k h → h.place.position ≢ h.first.offset → extension_in (labels_tabled k) h.place ≤ 2 + here_label k h
extension_most k h t away =
    let l : Labels = labels_tabled k in
    let whole = ap (λ fs. extension l fs h.place.position h.place.c h.place.d) t.parts ∙ extension-away l h.first h.others.now h.place.position h.place.c h.place.d away in
    let low = moved_far (h.first.offset - h.place.position) (l.label (length (h.first ∷ h.others.now)) h.place.c h.place.d) (offer_at l h.first h.others.now h.place.c h.place.d) in
    let label = ap (λ fs. label_in (length k.registers.now + 1) k.labels.now.rows (length fs) h.place.c h.place.d) t.parts in
    omega (arith, whole, low, label)

-- a move to the offset leads on only if the extension is its value
far_is : (k : SolvedSuffix) (h : OpenState) (s : State) → TrackedHere k h → h.place.position ≢ h.first.offset → InPlace k.registers.now h.place s → By k h.place s (SetPosition h.first.offset) → extension_in (labels_tabled k) h.place ≡ 2 + here_label k h
far_is k h s t away in_place w =
    let l : Labels = labels_tabled k in
    let q : PlanState = record { left = h.place.left; position = h.first.offset; import_index = h.place.import_index; c = h.place.c; d = h.place.d } in
    let next : InPlace k.registers.now q (next_state (SetPosition h.first.offset) s) = record { position = refl; import_index = in_place.import_index; c = in_place.c; d = in_place.d } in
    let left : h.place.left.now ≡ w.left = w.delivers.is in
    let there = ap (λ fs. extension_at l fs (next_state (SetPosition h.first.offset) s)) left in
    let at = extension_there l k.registers.now q (next_state (SetPosition h.first.offset) s) h.place.left.now refl next in
    let label = label-there k h h.first.offset t refl in
    let most = extension_most k h t away in
    let falls = w.falls in
    omega (arith, there, at, label, most, falls)

near_is : (k : SolvedSuffix) (h : OpenState) (s : State) → TrackedHere k h → h.place.position ≢ h.first.offset → InPlace k.registers.now h.place s → By k h.place s (IncrPosition (h.first.offset - h.place.position)) → (1 ≤ h.first.offset - h.place.position) × (h.first.offset - h.place.position ≤ 4096) × (1 + here_label k h ≤ extension_in (labels_tabled k) h.place)
near_is k h s t away in_place w =
    let l : Labels = labels_tabled k in
    let ahead : ℕ = h.first.offset - h.place.position in
    let both = and_parts (nat_le 1 ahead) (nat_le ahead 4096) w.flat in
    let some = leb-true 1 ahead both.0 in
    let few = leb-true ahead 4096 both.1 in
    let from = in_place.position in
    let q : PlanState = record { left = h.place.left; position = h.first.offset; import_index = h.place.import_index; c = h.place.c; d = h.place.d } in
    let next : InPlace k.registers.now q (next_state (IncrPosition ahead) s) = record { position = omega (arith, from, some); import_index = in_place.import_index; c = in_place.c; d = in_place.d } in
    let left : h.place.left.now ≡ w.left = w.delivers.is in
    let there = ap (λ fs. extension_at l fs (next_state (IncrPosition ahead) s)) left in
    let at = extension_there l k.registers.now q (next_state (IncrPosition ahead) s) h.place.left.now refl next in
    let label = label-there k h h.first.offset t refl in
    let falls = w.falls in
    (some, few, omega (arith, there, at, label, falls))

-- the extension isn't the value of a move to the offset
pub record Unmoved (k : SolvedSuffix) (h : OpenState) : Type 0 where
  pub far : extension_in (labels_tabled k) h.place ≢ 2 + here_label k h
  pub near : 1 ≤ h.first.offset - h.place.position → h.first.offset - h.place.position ≤ 4096 → extension_in (labels_tabled k) h.place ≢ 1 + here_label k h

no_far : (k : SolvedSuffix) (h : OpenState) (s : State) → TrackedHere k h → h.place.position ≢ h.first.offset → InPlace k.registers.now h.place s → extension_in (labels_tabled k) h.place ≢ 2 + here_label k h → By k h.place s (SetPosition h.first.offset) → ⊥
no_far k h s t away in_place other w = other (far_is k h s t away in_place w)

pub no_move : (k : SolvedSuffix) (h : OpenState) → TrackedHere k h → h.place.position ≢ h.first.offset → Unmoved k h → NoMove k h
no_move k h t away other s in_place =
    let near : By k h.place s (IncrPosition (h.first.offset - h.place.position)) → ⊥ = λ w.
    let at = near_is k h s t away in_place w in
    let most = extension_most k h t away in
    let apart = other.far in
    let low = at.2 in
    other.near at.0 at.1 (omega (arith, most, apart, low)) in
    (no_far k h s t away in_place other.far, (near, tt))

-- the move to the offset from anywhere, and from shortly before it
pub pick_far : (k : SolvedSuffix) (h : OpenState) (x : Step) → TrackedHere k h → h.place.position ≢ h.first.offset → FallsOn k h.place x → x.instr ≡ SetPosition h.first.offset → Picks k h.place x
pick_far k h x t away falls is s in_place =
    subst (λ (xs : List Instr). FirstOf (By k h.place s) xs x.instr) (sym (at_away k h s t away in_place))
    (inl (sym is, falls_with k h.place x s (SetPosition h.first.offset) falls is in_place))

pub pick_near : (k : SolvedSuffix) (h : OpenState) (x : Step) → TrackedHere k h → h.place.position ≢ h.first.offset → extension_in (labels_tabled k) h.place ≢ 2 + here_label k h → FallsOn k h.place x → x.instr ≡ IncrPosition (h.first.offset - h.place.position) → Picks k h.place x
pick_near k h x t away other falls is s in_place =
    subst (λ (xs : List Instr). FirstOf (By k h.place s) xs x.instr) (sym (at_away k h s t away in_place))
    (inr (no_far k h s t away in_place other, inl (sym is, falls_with k h.place x s (IncrPosition (h.first.offset - h.place.position)) falls is in_place)))

-- the move that is short of the offset
pub pick_short : (k : SolvedSuffix) (h : OpenState) (x : Step) → TrackedHere k h → h.place.position ≢ h.first.offset → NoMove k h → FallsOn k h.place x → x.instr ≡ IncrPosition (h.first.offset - h.place.position - 1020) → Picks k h.place x
pick_short k h x t away none falls is s in_place =
    let no = none s in_place in
    subst (λ (xs : List Instr). FirstOf (By k h.place s) xs x.instr) (sym (at_away k h s t away in_place))
    (inr (no.0, inr (no.1.0, inl (sym is, falls_with k h.place x s (IncrPosition (h.first.offset - h.place.position - 1020)) falls is in_place))))

no_short : (k : SolvedSuffix) (h : OpenState) (s : State) → h.first.offset - h.place.position ≤ 1020 → By k h.place s (IncrPosition (h.first.offset - h.place.position - 1020)) → ⊥
no_short k h s low w =
    let n : ℕ = h.first.offset - h.place.position - 1020 in
    let both = and_parts (nat_le 1 n) (nat_le n 4096) w.flat in
    let some = leb-true 1 n both.0 in
    omega (arith, some, low)

-- the skips and the setting before them
abbrev skips_of : OpenState → ℕ → List Instr
skips_of h section = SmSetSectD section ∷ counted (BySectDWithSkip ((h.first.offset - h.place.position) / 4)) 1 63

pick_later : (k : SolvedSuffix) (h : OpenState) (section : ℕ) (instr : Instr) (s : State) → TrackedHere k h → h.place.position ≢ h.first.offset → NoMove k h → h.first.offset - h.place.position ≤ 1020 → h.first.base ≡ Section section → InPlace k.registers.now h.place s → FirstOf (By k h.place s) (skips_of h section) instr → FirstOf (By k h.place s) (steps_in_order k.registers.now s.position h.place.left.now) instr
pick_later k h section instr s t away none low base in_place first =
    let no = none s in_place in
    let ahead : ℕ = h.first.offset - h.place.position in
    let moves : List Instr = SetPosition h.first.offset ∷ IncrPosition ahead ∷ IncrPosition (ahead - 1020) ∷ skips_of h section in
    let is : steps_in_order k.registers.now s.position h.place.left.now ≡ moves = at_away k h s t away in_place ∙ ap (λ b. moves_in_order ahead (record { offset = h.first.offset; base = b })) base in
    subst (λ (xs : List Instr). FirstOf (By k h.place s) xs instr) (sym is) (inr (no.0, inr (no.1.0, inr (no_short k h s low, first))))

-- the setting of register D before a skip
pub pick_set : (k : SolvedSuffix) (h : OpenState) (section class : ℕ) (x : Step) → TrackedHere k h → h.place.position ≢ h.first.offset → NoMove k h → SkipsTo k h → h.first.base ≡ Section section → class ≡ class_of k.registers.now section → FallsOn k h.place x → x.instr ≡ SmSetSectD (slice_index_or k.registers.now class most_sections) → Picks k h.place x
pick_set k h section class x t away none near base of falls is s in_place =
    let number : x.instr ≡ SmSetSectD section = is ∙ ap (λ n. SmSetSectD n) (ap (λ c. slice_index_or k.registers.now c most_sections) of ∙ number_of_class k.registers.now section t.at.sections (counts_here k h section t base)) in
    pick_later k h section x.instr s t away none near.before base in_place (inl (sym number, falls_with k h.place x s (SmSetSectD section) falls number in_place))

-- the skip
no_set : (k : SolvedSuffix) (h : OpenState) (section : ℕ) (s : State) → class_of k.registers.now section ≡ h.place.d → InPlace k.registers.now h.place s → By k h.place s (SmSetSectD section) → ⊥
no_set k h section s of in_place w =
    let l : Labels = labels_tabled k in
    let next : InPlace k.registers.now h.place (next_state (SmSetSectD section) s) = record { position = in_place.position; import_index = in_place.import_index; c = in_place.c; d = of } in
    let left : h.place.left.now ≡ w.left = w.delivers.is in
    let there = ap (λ fs. extension_at l fs (next_state (SmSetSectD section) s)) left in
    let at = extension_there l k.registers.now h.place (next_state (SmSetSectD section) s) h.place.left.now refl next in
    let falls = w.falls in
    omega (arith, there, at, falls)

pub pick_skip : (k : SolvedSuffix) (h : OpenState) (section words : ℕ) (x : Choice) → TrackedHere k h → h.place.position ≢ h.first.offset → NoMove k h → SkipsTo k h → h.first.base ≡ Section section → class_of k.registers.now section ≡ h.place.d → words ≡ (h.first.offset - h.place.position) / 4 → x.value ≡ extension_in (labels_tabled k) h.place → FirstSkip k h words x → Picks k h.place x.step
pick_skip k h section words x t away none near base of count value first s in_place =
    let l : Labels = labels_tabled k in
    let here = first l s (agrees_others k h t) in_place in
    let taken : FirstOf (By k h.place s) (counted (BySectDWithSkip words) 1 63) x.step.instr = subst (λ (n : ℕ). FirstOf (LeadsBy l s h.place.left.now n) (counted (BySectDWithSkip words) 1 63) x.step.instr) value here in
    pick_later k h section x.step.instr s t away none near.before base in_place
    (inr (no_set k h section s of in_place, subst (λ (w : ℕ). FirstOf (By k h.place s) (counted (BySectDWithSkip w) 1 63) x.step.instr) count taken))
