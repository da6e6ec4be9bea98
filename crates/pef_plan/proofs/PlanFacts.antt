-- A plan is valid, and its labels are least lengths.
use Rattle.std.proofs.Common.{◌≡◌, ℕ, ◌+◌, ◌-◌, ◌*◌, ◌<◌, ◌≤◌, true, List, [], ◌∷◌, length, refl, ap, sym, ◌∙◌, subst, arith}
use Rattle.std.specs.Prelude.{slice_index_or}
use Rattle.std.specs.List.{AllByRecursion}
use Rattle.pef_reloc.specs.declared.fixup.Fixup.{Fixup}
use Rattle.pef_reloc.specs.Fixups.{fixups_fit}
use Rattle.pef_reloc.specs.Steps.{Least, start}
use Rattle.pef_reloc.proofs.Laws.{used_section-below}
use Rattle.pef_cert.specs.Labels.{Labels}
use Rattle.pef_cert.specs.Feasible.{Feasible}
use Rattle.pef_labels.specs.Rows.{LaidRows}
use Rattle.pef_cert.specs.Certified.{Certified}
use Rattle.pef_cert.specs.Valid.{RegistersOf, Valid, labels_of}
use Rattle.pef_cert.proofs.Laws.{few_rising}
use Rattle.pef_plan.specs.Exact.{Exact}
use Rattle.pef_plan.specs.Runs.Tables.{SameLabels, number_in}
use Rattle.std.specs.Prelude.{reverse}
use Rattle.std.proofs.lemmas.List.{get_or-reverse, length-reverse, reverse-append}
use Rattle.pef_words.proofs.Laws.Lists.{all-append}
use Rattle.pef_plan.specs.Kept.Tables.{TablesOf}
use Rattle.pef_plan.proofs.Reaching.{reached-exact, reached-least}
use Rattle.pef_reloc.specs.Limits.{most_sections}

all-reverse : {A : Type 0} (P : A → Type 0) (xs : List A) → AllByRecursion P xs → AllByRecursion P (reverse xs)
all-reverse P [] all = tt
all-reverse P (x ∷ xs) all =
    subst (λ ys. AllByRecursion P ys) (sym (reverse-append (x ∷ []) xs)) (all-append P (reverse xs) (x ∷ []) (all-reverse P xs all.1) (all.0, tt))

-- the parts of a plan
pub record PlanOf (fixups : List Fixup) (labels skips : LaidRows) (c : Certified) : Type 0 where
  pub fit : fixups_fit fixups ≡ true
  pub registers : RegistersOf fixups c.registers
  pub tables : TablesOf c.registers labels skips 0 fixups
  pub least : Least fixups c.program
  pub rows_are : c.labels ≡ reverse labels.rows

plan_same : (fixups : List Fixup) (labels skips : LaidRows) (c : Certified) → PlanOf fixups labels skips c → SameLabels (labels_of c (length fixups)) c.registers labels.rows (length fixups)
plan_same fixups labels skips c p = record {
  registers_are = refl;
  label_is = λ left x y under under_x under_y.
      let count = p.tables.tabled.labels_count in
      let i : ℕ = length fixups - left in
      let there : length labels.rows - 1 - i ≡ left = omega (arith, under, count) in
      let inside : i < length labels.rows = omega (arith, count) in
      ap (λ rs. number_in (length c.registers + 1) (slice_index_or rs i []) x y) p.rows_are
      ∙ (ap (λ row. number_in (length c.registers + 1) row x y) (get_or-reverse labels.rows i [] inside)
      ∙ ap (λ n. number_in (length c.registers + 1) (slice_index_or labels.rows n []) x y) there);
}

plan_feasible : (fixups : List Fixup) (labels skips : LaidRows) (c : Certified) → PlanOf fixups labels skips c → Feasible (labels_of c (length fixups)) fixups
plan_feasible fixups labels skips c p =
    let same = plan_same fixups labels skips c p in
    record {
      last = λ x y under_x under_y. same.label_is 0 x y (omega arith) under_x under_y ∙ p.tables.tabled.last x y under_x under_y;
      each = p.tables.tabled.feasible (labels_of c (length fixups)) same;
    }

pub plan_valid : (fixups : List Fixup) (labels skips : LaidRows) (c : Certified) → PlanOf fixups labels skips c → Valid fixups c
plan_valid fixups labels skips c p =
    let l : Labels = labels_of c (length fixups) in
    let feasible = plan_feasible fixups labels skips c p in
    let reached = p.tables.tabled.reached l (plan_same fixups labels skips c p) in
    let short = reached-least l fixups [] fixups start p.fit p.registers feasible reached refl (record { index = refl }) in
    let low = short.least c.program p.least.flat (record { is = p.least.makes }) in
    let high = p.least.shortest short.instrs short.flat short.makes.is in
    let is = short.length_is in
    record {
      registers = p.registers;
      rows = (let count = p.tables.tabled.labels_count in let e = ap length p.rows_are in let turned = length-reverse labels.rows in omega (arith, count, e, turned));
      row = subst (λ (rs : List (List ℕ)). AllByRecursion (λ row. length row ≡ (length c.registers + 1) * (length c.registers + 1)) rs) (sym p.rows_are)
          (all-reverse (λ row. length row ≡ (length c.registers + 1) * (length c.registers + 1)) labels.rows p.tables.rows_wide);
      feasible = feasible;
      flat = p.least.flat;
      makes = p.least.makes;
      length_is = omega (arith, low, high, is);
    }

pub plan_exact : (fixups : List Fixup) (labels skips : LaidRows) (c : Certified) → PlanOf fixups labels skips c → Exact (labels_of c (length fixups)) fixups
plan_exact fixups labels skips c p =
    reached-exact (labels_of c (length fixups)) fixups p.fit p.registers (plan_feasible fixups labels skips c p)
    (p.tables.tabled.reached (labels_of c (length fixups)) (plan_same fixups labels skips c p))

-- the registers are few
pub few_classes : (fixups : List Fixup) (registers : List ℕ) → fixups_fit fixups ≡ true → RegistersOf fixups registers → length registers ≤ most_sections
few_classes fixups registers fit right =
    let low = few_rising most_sections registers right.rising (λ j among. used_section-below fixups j fit (sym (right.used j) ∙ among)) in
    omega (arith, low)
