-- Runs: the instruction of a number of units adds exactly these, and leads to the place after them.
use Rattle.std.proofs.Common.{◌≡◌, ℕ, zero, suc, ◌+◌, ◌-◌, ◌*◌, ◌<◌, ◌≤◌, ◌⊎◌, inl, inr, true, nat_le, List, [], ◌∷◌, ◌++◌, length, refl, ap, ap₂, sym, ◌∙◌, subst, arith, length-append}
use Rattle.std.proofs.lemmas.Bool.{and_from, le-leb}
use Rattle.std.proofs.lemmas.List.{append-nil, append_assoc, append_cancel_left}
use Rattle.std.proofs.Math.Nat.{mul-add}
use Rattle.pef_reloc.specs.declared.fixup.Base.TheVariants.{Section, Import}
use Rattle.pef_reloc.specs.declared.fixup.Fixup.{Fixup}
use Rattle.pef_reloc.specs.Deliveries.{is_flat_instr}
use Rattle.pef_reloc.specs.Instrs.{instr_length}
use Rattle.pef_reloc.specs.Steps.{State, added, additions, next_state, numbered, pairs, row}
use Rattle.pef_cert.specs.Labels.{Labels, class_of}
use Rattle.pef_cert.specs.Extension.{extension}
use Rattle.pef_cert.proofs.Laws.{class_of-same}
use Rattle.pef_words.proofs.Laws.Numbers.{below_or, counts_fit}
use Rattle.pef_plan.specs.declared.runs.suffix.SolvedSuffix.{SolvedSuffix}
use Rattle.pef_plan.specs.declared.runs.state.PlanState.{PlanState}
use Rattle.pef_plan.specs.declared.runs.state.OpenState.{OpenState}
use Rattle.pef_plan.specs.declared.runs.state.Step.{Step}
use Rattle.pef_plan.specs.declared.runs.state.Choice.{Choice}
use Rattle.pef_plan.specs.declared.runs.state.Sought.{Sought}
use Rattle.pef_plan.specs.declared.runs.run.Run.{Run}
use Rattle.pef_plan.specs.declared.runs.run.Run.TheVariants.{WordsOfC, WordsOfD, Spaced, Pairs, SpacedPairs, Imports, Skip}
use Rattle.pef_plan.specs.Runs.Places.{Chosen, GoesOn, HereOf, InPlace, extension_in}
use Rattle.pef_plan.specs.Runs.Kept.Runs.{Along, FirstEnd, Next, SoFar}
use Rattle.pef_plan.specs.Runs.Runs.{EndOf, Ends, EndsFrom, Holds, RunOf, imports, limit, run_instr, stride, unit, units}
use Rattle.pef_plan.specs.Runs.Tables.{Agrees, Shaped}
use Rattle.pef_plan.proofs.RunsProofs.KnownLemmas.{agrees-left, shaped_fewer}

pub units_c : (n p m k : ℕ) → row n p 4 (Section k) ≡ units (WordsOfC k) n p m
unfolding row units
units_c zero p m k = refl
units_c (suc n) p m k = ap (λ fs. added p (Section k) ∷ fs) (units_c n (p + 4) (m + 0) k)

pub units_d : (n p m k : ℕ) → row n p 4 (Section k) ≡ units (WordsOfD k) n p m
unfolding row units
units_d zero p m k = refl
units_d (suc n) p m k = ap (λ fs. added p (Section k) ∷ fs) (units_d n (p + 4) (m + 0) k)

pub units_spaced : (n p m k : ℕ) → row n p 8 (Section k) ≡ units (Spaced k) n p m
unfolding row units
units_spaced zero p m k = refl
units_spaced (suc n) p m k = ap (λ fs. added p (Section k) ∷ fs) (units_spaced n (p + 8) (m + 0) k)

pub units_skip : (n p m w k : ℕ) → row n p 4 (Section k) ≡ units (Skip w k) n p m
unfolding row units
units_skip zero p m w k = refl
units_skip (suc n) p m w k = ap (λ fs. added p (Section k) ∷ fs) (units_skip n (p + 4) (m + 0) w k)

pub units_pairs : (n p m j k : ℕ) → pairs n p 8 (Section j) (Section k) ≡ units (Pairs j k) n p m
unfolding pairs units
units_pairs zero p m j k = refl
units_pairs (suc n) p m j k = ap (λ fs. added p (Section j) ∷ added (p + 4) (Section k) ∷ fs) (units_pairs n (p + 8) (m + 0) j k)

pub units_far : (n p m j k : ℕ) → pairs n p 12 (Section j) (Section k) ≡ units (SpacedPairs j k) n p m
unfolding pairs units
units_far zero p m j k = refl
units_far (suc n) p m j k = ap (λ fs. added p (Section j) ∷ added (p + 4) (Section k) ∷ fs) (units_far n (p + 12) (m + 0) j k)

pub units_imports : (n p m : ℕ) → numbered n p m ≡ units Imports n p m
unfolding numbered units
units_imports zero p m = refl
units_imports (suc n) p m = ap (λ fs. added p (Import m) ∷ fs) (units_imports n (p + 4) (m + 1))

-- the section in a register that holds a section of the list
held : (rs : List ℕ) (k class j : ℕ) → Holds rs k class → class_of rs j ≡ class → j ≡ k
held rs k class j h is = class_of-same rs j k (is ∙ sym h.0) (let e = h.0 in let u = h.1 in omega (arith, e, u))

-- the instruction of a run adds its units
pub run-adds : (rs : List ℕ) (r : Run) (p : PlanState) (from n : ℕ) (s : State) → RunOf rs r p from → InPlace rs p s → additions (run_instr r n) s ≡ units r n from p.import_index
run-adds rs (WordsOfC k) p from n s of at =
    ap₂ (λ q j. row n q 4 (Section j)) (at.position ∙ sym of.1) (held rs k p.c s.c of.0 at.c) ∙ units_c n from p.import_index k
run-adds rs (WordsOfD k) p from n s of at =
    ap₂ (λ q j. row n q 4 (Section j)) (at.position ∙ sym of.1) (held rs k p.d s.d of.0 at.d) ∙ units_d n from p.import_index k
run-adds rs (Spaced k) p from n s of at =
    ap₂ (λ q j. row n q 8 (Section j)) (at.position ∙ sym of.1) (held rs k p.d s.d of.0 at.d) ∙ units_spaced n from p.import_index k
run-adds rs (Pairs j k) p from n s of at =
    ap (λ q. pairs n q 8 (Section s.c) (Section s.d)) (at.position ∙ sym of.1)
    ∙ ap₂ (λ a b. pairs n from 8 (Section a) (Section b)) (held rs j p.c s.c of.0.0 at.c) (held rs k p.d s.d of.0.1 at.d)
    ∙ units_pairs n from p.import_index j k
run-adds rs (SpacedPairs j k) p from n s of at =
    ap (λ q. pairs n q 12 (Section s.c) (Section s.d)) (at.position ∙ sym of.1)
    ∙ ap₂ (λ a b. pairs n from 12 (Section a) (Section b)) (held rs j p.c s.c of.0.0 at.c) (held rs k p.d s.d of.0.1 at.d)
    ∙ units_far n from p.import_index j k
run-adds rs Imports p from n s of at = ap₂ (λ q m. numbered n q m) (at.position ∙ sym of.1) at.import_index ∙ units_imports n from p.import_index
run-adds rs (Skip w k) p from n s of at =
    ap₂ (λ q j. row n q 4 (Section j)) (ap (λ q. q + 4 * w) at.position ∙ sym of.1) (held rs k p.d s.d of.0.0 at.d) ∙ units_skip n from p.import_index w k

-- the instruction of a run leads to the place after its units
pub run-next : (rs : List ℕ) (r : Run) (p q : PlanState) (from n : ℕ) (s : State) → RunOf rs r p from → InPlace rs p s → q.position ≡ from + stride r * n → q.import_index ≡ p.import_index + imports r * n → q.c ≡ p.c → q.d ≡ p.d → InPlace rs q (next_state (run_instr r n) s)
run-next rs (WordsOfC k) p q from n s of at position index c d = record { position = (let a = at.position in let b = of.1 in omega (arith, a, b, position)); import_index = (let a = at.import_index in omega (arith, a, index)); c = at.c ∙ sym c; d = at.d ∙ sym d }
run-next rs (WordsOfD k) p q from n s of at position index c d = record { position = (let a = at.position in let b = of.1 in omega (arith, a, b, position)); import_index = (let a = at.import_index in omega (arith, a, index)); c = at.c ∙ sym c; d = at.d ∙ sym d }
run-next rs (Spaced k) p q from n s of at position index c d = record { position = (let a = at.position in let b = of.1 in omega (arith, a, b, position)); import_index = (let a = at.import_index in omega (arith, a, index)); c = at.c ∙ sym c; d = at.d ∙ sym d }
run-next rs (Pairs j k) p q from n s of at position index c d = record { position = (let a = at.position in let b = of.1 in omega (arith, a, b, position)); import_index = (let a = at.import_index in omega (arith, a, index)); c = at.c ∙ sym c; d = at.d ∙ sym d }
run-next rs (SpacedPairs j k) p q from n s of at position index c d = record { position = (let a = at.position in let b = of.1 in omega (arith, a, b, position)); import_index = (let a = at.import_index in omega (arith, a, index)); c = at.c ∙ sym c; d = at.d ∙ sym d }
run-next rs Imports p q from n s of at position index c d = record { position = (let a = at.position in let b = of.1 in omega (arith, a, b, position)); import_index = (let a = at.import_index in omega (arith, a, index)); c = at.c ∙ sym c; d = at.d ∙ sym d }
run-next rs (Skip w k) p q from n s of at position index c d = record { position = (let a = at.position in let b = of.1 in omega (arith, a, b, position)); import_index = (let a = at.import_index in omega (arith, a, index)); c = at.c ∙ sym c; d = at.d ∙ sym d }

pub run-flat : (rs : List ℕ) (r : Run) (p : PlanState) (from n : ℕ) → RunOf rs r p from → 1 ≤ n → n ≤ limit r → is_flat_instr (run_instr r n) ≡ true
run-flat rs (WordsOfC k) p from n of some few = counts_fit 512 n some few
run-flat rs (WordsOfD k) p from n of some few = counts_fit 512 n some few
run-flat rs (Spaced k) p from n of some few = counts_fit 512 n some few
run-flat rs (Pairs j k) p from n of some few = counts_fit 512 n some few
run-flat rs (SpacedPairs j k) p from n of some few = counts_fit 512 n some few
run-flat rs Imports p from n of some few = counts_fit 512 n some few
run-flat rs (Skip w k) p from n of some few = and_from (nat_le w 255) (nat_le n 63) (le-leb w 255 of.0.1) (le-leb n 63 few)

pub run-one : (r : Run) (n : ℕ) → instr_length (run_instr r n) ≡ 1
run-one (WordsOfC k) n = refl
run-one (WordsOfD k) n = refl
run-one (Spaced k) n = refl
run-one (Pairs j k) n = refl
run-one (SpacedPairs j k) n = refl
run-one Imports n = refl
run-one (Skip w k) n = refl

-- a unit adds something
some_unit : (r : Run) (p m : ℕ) → 1 ≤ length (unit r p m)
some_unit (WordsOfC k) p m = omega arith
some_unit (WordsOfD k) p m = omega arith
some_unit (Spaced k) p m = omega arith
some_unit (Pairs j k) p m = omega arith
some_unit (SpacedPairs j k) p m = omega arith
some_unit Imports p m = omega arith
some_unit (Skip w k) p m = omega arith

pub units-more : (r : Run) (n p m : ℕ) → units r (suc n) p m ≡ unit r p m ++ units r n (p + stride r) (m + imports r)
unfolding units
units-more r n p m = refl

pub units-none : (r : Run) (p m : ℕ) → units r 0 p m ≡ []
unfolding units
units-none r p m = refl

some_units : (r : Run) (n p m : ℕ) → 1 ≤ length (units r (suc n) p m)
some_units r n p m =
    let e = ap length (units-more r n p m) ∙ length-append (unit r p m) (units r n (p + stride r) (m + imports r)) in
    let some = some_unit r p m in
    omega (arith, e, some)

-- if the fixups don't begin with the units
pub no_ends : (l : Labels) (r : Run) (value n p m c d : ℕ) (fixups : List Fixup) → ((left : List Fixup) → fixups ≡ unit r p m ++ left → ⊥) → EndsFrom l r value n fixups p m c d
no_ends l r value n p m c d fixups other j left under is =
    absurd (other (units r j (p + stride r) (m + imports r) ++ left)
    (is ∙ ap (λ fs. fs ++ left) (units-more r j p m) ∙ append_assoc (unit r p m) (units r j (p + stride r) (m + imports r)) left))

-- the steps of a run
abbrev pub step_of : Run → ℕ → PlanState → Step
step_of r n q = record { instr = run_instr r n; next = q }

-- the place after at least one unit
pub record Following (k : SolvedSuffix) (h : OpenState) (r : Run) (from n : ℕ) (q : PlanState) : Type 0 where
  pub along : Along r h.place from n q
  pub parts : h.place.left.now ≡ units r n from h.place.import_index ++ q.left.now
  pub fewer : length q.left.now < length (h.first ∷ h.others.now)

mul_next : (w n x y z : ℕ) → y ≡ x + w * n → z ≡ y + w → z ≡ x + w * (n + 1)
mul_next w n x y z e f = let one = mul-add w n 1 in omega (arith, e, f, one)

-- the place after one more unit
pub along-next : (r : Run) (start p q : PlanState) (from n : ℕ) → Along r start from n p → Next r p q → Along r start from (n + 1) q
along-next r start p q from n a next = record {
  position = mul_next (stride r) n from p.position q.position a.position next.position;
  import_index = mul_next (imports r) n start.import_index p.import_index q.import_index a.import_index next.import_index;
  c = next.c ∙ a.c;
  d = next.d ∙ a.d;
  behind = λ j left is.
      let more : p.left.now ≡ units r (suc j) p.position p.import_index ++ left =
      next.left
      ∙ (ap (λ fs. unit r p.position p.import_index ++ fs) (is ∙ ap₂ (λ x y. units r j x y ++ left) next.position next.import_index)
      ∙ (sym (append_assoc (unit r p.position p.import_index) (units r j (p.position + stride r) (p.import_index + imports r)) left)
      ∙ ap (λ fs. fs ++ left) (sym (units-more r j p.position p.import_index)))) in
      let count : n + suc j ≡ n + 1 + j = omega arith in
      a.behind (suc j) left more ∙ ap (λ m. units r m from start.import_index ++ left) count;
}

pub along-parts : (r : Run) (start q : PlanState) (from n : ℕ) → Along r start from n q → start.left.now ≡ units r n from start.import_index ++ q.left.now
along-parts r start q from n a =
    let none : n + 0 ≡ n = omega arith in
    a.behind 0 q.left.now (ap (λ fs. fs ++ q.left.now) (sym (units-none r q.position q.import_index)))
    ∙ ap (λ m. units r m from start.import_index ++ q.left.now) none

pub along-after : (k : SolvedSuffix) (h : OpenState) (r : Run) (from n : ℕ) (q : PlanState) → HereOf k h → Along r h.place from (n + 1) q → Following k h r from (n + 1) q
along-after k h r from n q here a =
    let parts = along-parts r h.place q from (n + 1) a in
    let count : n + 1 ≡ suc n = omega arith in
    let some = some_units r n from h.place.import_index in
    let same = ap (λ m. length (units r m from h.place.import_index)) count in
    let sum = sym (ap length here.parts) ∙ (ap length parts ∙ length-append (units r (n + 1) from h.place.import_index) q.left.now) in
    record { along = a; parts = parts; fewer = omega (arith, sum, some, same) }

pub after-goes : (k : SolvedSuffix) (h : OpenState) (r : Run) (from n : ℕ) (q : PlanState) → RunOf k.registers.now r h.place from → Following k h r from n q → 1 ≤ n → n ≤ limit r → GoesOn k.registers.now h.place (step_of r n q)
after-goes k h r from n q of b some few = λ s at. record {
  flat = run-flat k.registers.now r h.place from n of some few;
  delivers = record { is = b.parts ∙ ap (λ fs. fs ++ q.left.now) (sym (run-adds k.registers.now r h.place from n s of at)) };
  next = run-next k.registers.now r h.place q from n s of at b.along.position b.along.import_index b.along.c b.along.d;
}

pub after-agrees : (l : Labels) (k : SolvedSuffix) (h : OpenState) (r : Run) (from n : ℕ) (q : PlanState) → HereOf k h → Following k h r from n q → Agrees l k h.others.now → Agrees l k q.left.now
after-agrees l k h r from n q here b agrees = agrees-left l k h.first h.others.now (units r n from h.place.import_index) q.left.now agrees (sym here.parts ∙ b.parts) b.fewer

pub after-shaped : (k : SolvedSuffix) (h : OpenState) (r : Run) (from n : ℕ) (q : PlanState) → HereOf k h → Following k h r from n q → Shaped k (length q.left.now)
after-shaped k h r from n q here b = let low = b.fewer in shaped_fewer k (length h.others.now) (length q.left.now) here.shaped (omega (arith, low))

-- the first end, and later ones
ends-step : (l : Labels) (r : Run) (value m : ℕ) (p q : PlanState) → Next r p q → value ≤ 1 + extension_in l q → EndsFrom l r value m q.left.now q.position q.import_index q.c q.d → EndsFrom l r value (suc m) p.left.now p.position p.import_index p.c p.d
ends-step l r value m p q next low ends zero left under is =
    let u : List Fixup = unit r p.position p.import_index in
    let whole : u ++ q.left.now ≡ u ++ left = sym next.left ∙ (is ∙ (ap (λ fs. fs ++ left) (units-more r 0 p.position p.import_index) ∙ (append_assoc u (units r 0 (p.position + stride r) (p.import_index + imports r)) left ∙ ap (λ fs. u ++ (fs ++ left)) (units-none r (p.position + stride r) (p.import_index + imports r))))) in
    let rest : q.left.now ≡ left = append_cancel_left u q.left.now left whole in
    let end : q.position ≡ p.position + stride r * 1 = (let e = next.position in omega (arith, e)) in
    let same = ap (λ fs. extension l fs q.position q.c q.d) rest ∙ (ap (λ x. extension l left x q.c q.d) end ∙ ap₂ (λ x y. extension l left (p.position + stride r * 1) x y) next.c next.d) in
    omega (arith, low, same)
ends-step l r value m p q next low ends (suc j) left under is =
    let u : List Fixup = unit r p.position p.import_index in
    let more : List Fixup = units r (suc j) (p.position + stride r) (p.import_index + imports r) in
    let whole : u ++ q.left.now ≡ u ++ (more ++ left) = sym next.left ∙ (is ∙ (ap (λ fs. fs ++ left) (units-more r (suc j) p.position p.import_index) ∙ append_assoc u more left)) in
    let rest : q.left.now ≡ more ++ left = append_cancel_left u q.left.now (more ++ left) whole in
    let here : q.left.now ≡ units r (suc j) q.position q.import_index ++ left = rest ∙ ap₂ (λ x y. units r (suc j) x y ++ left) (sym next.position) (sym next.import_index) in
    let e = ends j left (omega (arith, under)) here in
    let sum = mul-add (stride r) (suc j) 1 in
    let step = next.position in
    let one : suc j + 1 ≡ suc (suc j) = omega arith in
    let wide = ap (λ n. stride r * n) one in
    let end : q.position + stride r * suc j ≡ p.position + stride r * suc (suc j) = omega (arith, step, sum, wide) in
    let same = ap (λ x. extension l left x q.c q.d) end ∙ ap₂ (λ x y. extension l left (p.position + stride r * suc (suc j)) x y) next.c next.d in
    omega (arith, e, same)

-- the value after a place along a run
end-of : (l : Labels) (r : Run) (h : OpenState) (from n : ℕ) (q : PlanState) (value : ℕ) → Along r h.place from (n + 1) q → n < limit r → value ≡ 1 + extension_in l q → EndOf l r h from value
end-of l r h from n q value a under is =
    let count : n + 1 ≡ suc n = omega arith in
    record {
      more = n;
      left = q.left.now;
      under = under;
      parts = along-parts r h.place q from (n + 1) a ∙ ap (λ m. units r m from h.place.import_index ++ q.left.now) count;
      is = is ∙ (ap (λ x. 1 + extension l q.left.now x q.c q.d) (a.position ∙ ap (λ m. from + stride r * m) count) ∙ ap₂ (λ x y. 1 + extension l q.left.now (from + stride r * suc n) x y) a.c a.d);
    }

-- the first ends, and one more
passed-next : (l : Labels) (r : Run) (h : OpenState) (value from n : ℕ) (q : PlanState) → Along r h.place from (n + 1) q → value ≤ 1 + extension_in l q → EndsFrom l r value n h.place.left.now from h.place.import_index h.place.c h.place.d → EndsFrom l r value (n + 1) h.place.left.now from h.place.import_index h.place.c h.place.d
passed-next l r h value from n q a low passed j left under is = go (below_or j n under)
  where
    go : (j < n) ⊎ (j ≡ n) → value ≤ 1 + extension l left (from + stride r * suc j) h.place.c h.place.d
    go (inl before) = passed j left before is
    go (inr last) =
        let count : suc j ≡ n + 1 = omega (arith, last) in
        let u : List Fixup = units r (n + 1) from h.place.import_index in
        let whole : u ++ q.left.now ≡ u ++ left = sym (along-parts r h.place q from (n + 1) a) ∙ (is ∙ ap (λ m. units r m from h.place.import_index ++ left) count) in
        let rest : q.left.now ≡ left = append_cancel_left u q.left.now left whole in
        let end : q.position ≡ from + stride r * suc j = a.position ∙ ap (λ m. from + stride r * m) (sym count) in
        let same = ap (λ fs. extension l fs q.position q.c q.d) rest ∙ (ap (λ x. extension l left x q.c q.d) end ∙ ap₂ (λ x y. extension l left (from + stride r * suc j) x y) a.c a.d) in
        omega (arith, low, same)

-- a bar that is lower
ends-weaker : (l : Labels) (r : Run) (value bar n p m c d : ℕ) (fixups : List Fixup) → value ≤ bar → EndsFrom l r bar n fixups p m c d → EndsFrom l r value n fixups p m c d
ends-weaker l r value bar n p m c d fixups low ends j left under is = let high = ends j left under is in omega (arith, low, high)

-- one more end
so_far-next : (k : SolvedSuffix) (h : OpenState) (r : Run) (from n : ℕ) (p q : PlanState) (first : Sought) (best better : Choice) → SoFar k h r from n p first best → n < limit r → Next r p q → Chosen k h better → better.value ≤ best.value → ((l : Labels) → Agrees l k h.others.now → better.value ≤ 1 + extension_in l q) → ((l : Labels) → Agrees l k h.others.now → (better.value ≡ best.value) ⊎ (better.value ≡ 1 + extension_in l q)) → FirstEnd k h r from first better → SoFar k h r from (n + 1) q first better
so_far-next k h r from n p q first best better s under next chosen lower low either found = record {
  along = along-next r h.place p q from n s.along next;
  within = omega (arith, under);
  chosen = chosen;
  better = (let b = s.better in omega (arith, lower, b));
  found = found;
  passed = λ l agrees. passed-next l r h better.value from n q (along-next r h.place p q from n s.along next) (low l agrees)
      (ends-weaker l r better.value best.value n from h.place.import_index h.place.c h.place.d h.place.left.now lower (s.passed l agrees));
  attained = λ l agrees.
      elim (either l agrees) [
        | inr there ↦ inr (end-of l r h from n q better.value (along-next r h.place p q from n s.along next) under there)
        | inl same ↦ elim (s.attained l agrees) [
          | inl first ↦ inl (same ∙ first)
          | inr end ↦ inr (subst (λ (v : ℕ). EndOf l r h from v) (sym same) end)
        ]
      ];
  ends = λ l value least agrees ends.
      let count : limit r - n ≡ suc (limit r - (n + 1)) = omega (arith, under) in
      let there = low l agrees in
      s.ends l value (omega (arith, least, lower)) agrees
      (subst (λ (m : ℕ). EndsFrom l r value m p.left.now p.position p.import_index p.c p.d) (sym count)
      (ends-step l r value (limit r - (n + 1)) p q next (omega (arith, least, there)) ends));
}

-- the extension after one more unit, for all labels that the tables agree with
extension_after : (k : SolvedSuffix) (h : OpenState) (r : Run) (from n : ℕ) (p q : PlanState) (value : ℕ) → HereOf k h → Along r h.place from n p → Next r p q → ((l : Labels) → Agrees l k q.left.now → value ≡ extension_in l q) → (l : Labels) → Agrees l k h.others.now → value ≡ extension_in l q
extension_after k h r from n p q value here along next is l agrees =
    is l (after-agrees l k h r from (n + 1) q here (along-after k h r from n q here (along-next r h.place p q from n along next)) agrees)

-- one more end that is better, and one that isn't
pub so_far-better : (k : SolvedSuffix) (h : OpenState) (r : Run) (from n : ℕ) (p q : PlanState) (first : Sought) (best : Choice) (value : ℕ) → HereOf k h → RunOf k.registers.now r h.place from → SoFar k h r from n p first best → n < limit r → Next r p q → ((l : Labels) → Agrees l k q.left.now → value ≡ extension_in l q) → first.label < best.value → 1 + value < best.value → SoFar k h r from (n + 1) q first (record { step = step_of r (n + 1) q; value = 1 + value })
so_far-better k h r from n p q first best value here of s under next is sought low =
    let after = along-after k h r from n q here (along-next r h.place p q from n s.along next) in
    let worth = extension_after k h r from n p q value here s.along next is in
    so_far-next k h r from n p q first best (record { step = step_of r (n + 1) q; value = 1 + value }) s under next
    (record {
      goes = after-goes k h r from (n + 1) q of after (omega arith) (omega (arith, under));
      worth = λ l agrees. ap₂ (λ a b. a + b) (sym (run-one r (n + 1))) (worth l agrees);
    })
    (omega (arith, low))
    (λ l agrees. let e = worth l agrees in omega (arith, e))
    (λ l agrees. inr (ap (λ x. 1 + x) (worth l agrees)))
    (inr (record {
      more = n;
      under = under;
      instr = (let count : n + 1 ≡ suc n = omega arith in ap (λ m. run_instr r m) count);
      bar = best.value;
      low = omega (arith, low);
      label_low = sought;
      high = s.better;
      before = s.passed;
    }))

pub so_far-same : (k : SolvedSuffix) (h : OpenState) (r : Run) (from n : ℕ) (p q : PlanState) (first : Sought) (best : Choice) (value : ℕ) → HereOf k h → SoFar k h r from n p first best → n < limit r → Next r p q → ((l : Labels) → Agrees l k q.left.now → value ≡ extension_in l q) → best.value ≤ 1 + value → SoFar k h r from (n + 1) q first best
so_far-same k h r from n p q first best value here s under next is low =
    let worth = extension_after k h r from n p q value here s.along next is in
    so_far-next k h r from n p q first best best s under next s.chosen (omega arith)
    (λ l agrees. let e = worth l agrees in omega (arith, e, low))
    (λ l agrees. inl refl)
    s.found

-- if no unit follows, and if the run has its maximum length
pub so_far-stop : (k : SolvedSuffix) (h : OpenState) (r : Run) (from n : ℕ) (p : PlanState) (first : Sought) (best : Choice) → SoFar k h r from n p first best → ((left : List Fixup) → p.left.now ≡ unit r p.position p.import_index ++ left → ⊥) → (l : Labels) (value : ℕ) → Agrees l k h.others.now → value ≤ best.value → Ends l r h from value
so_far-stop k h r from n p first best s none l value agrees low =
    s.ends l value low agrees (no_ends l r value (limit r - n) p.position p.import_index p.c p.d p.left.now none)

-- a run of one unit, which the first fixup is
pub one_goes : (k : SolvedSuffix) (h : OpenState) (r : Run) (from : ℕ) (q : PlanState) → HereOf k h → RunOf k.registers.now r h.place from → h.first ∷ [] ≡ unit r from h.place.import_index → q.left.now ≡ h.others.now → q.position ≡ from + stride r → q.import_index ≡ h.place.import_index + imports r → q.c ≡ h.place.c → q.d ≡ h.place.d → GoesOn k.registers.now h.place (step_of r 1 q)
one_goes k h r from q here of is left position index c d = λ s at. record {
  flat = run-flat k.registers.now r h.place from 1 of (omega arith) (some_limit r);
  delivers = record { is = here.parts ∙ (ap₂ (λ fs gs. fs ++ gs) (is ∙ one_unit r from h.place.import_index) (sym left) ∙ ap (λ fs. fs ++ q.left.now) (sym (run-adds k.registers.now r h.place from 1 s of at))) };
  next = run-next k.registers.now r h.place q from 1 s of at (omega (arith, position)) (omega (arith, index)) c d;
}
  where
    some_limit : (r : Run) → 1 ≤ limit r
    some_limit (WordsOfC j) = omega arith
    some_limit (WordsOfD j) = omega arith
    some_limit (Spaced j) = omega arith
    some_limit (Pairs i j) = omega arith
    some_limit (SpacedPairs i j) = omega arith
    some_limit Imports = omega arith
    some_limit (Skip w j) = omega arith

    one_unit : (r : Run) (p m : ℕ) → unit r p m ≡ units r 1 p m
    one_unit r p m = sym (units-more r 0 p m ∙ (ap (λ fs. unit r p m ++ fs) (units-none r (p + stride r) (m + imports r)) ∙ append-nil (unit r p m)))
