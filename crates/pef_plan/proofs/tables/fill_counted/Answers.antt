use Rattle.std.proofs.Common.{◌≡◌, ◌∙◌, ◌+◌, ◌-◌, ◌*◌, ◌++◌, ◌∷◌, List, ℕ, [], ap, ap₂, drop, length, rules, take, refl, subst, sym, arith}
use Rattle.std.proofs.lemmas.List.{drop_all, get_or_read, length-replicate, with_items_is}
use Rattle.pef_reloc.specs.Deliveries.{index_after}
use Rattle.pef_cert.specs.Valid.{RegistersOf}
use Rattle.pef_plan.specs.Runs.Ends.{EndsOf}
use Rattle.pef_plan.specs.Runs.Tables.{SameLabels}
use Rattle.pef_plan.specs.Kept.Tables.{TablesOf}
use Rattle.pef_reloc.proofs.Laws.{fixups_fit-parts}
use Rattle.pef_plan.specs.Kept.Rows.{SmallLine}
use Rattle.pef_plan.specs.Windows.Tables.{Close}
use Rattle.pef_plan.proofs.CloseLabels.{row_close, row_small, table_small}
use Rattle.pef_plan.proofs.FillLemmas.{ends-at, ends-next, ends-none, fill-at, fill-none, fill-steps, tables-next}
use Rattle.pef_plan.proofs.PlanFacts.{few_classes}
use Rattle.pef_plan.proofs.tables.fill_counted.Goals as goal

pub overflow_mul-classes : goal.overflow_mul-classes
overflow_mul-classes o c =
    let few = few_classes c.args.fixups.now c.counted-registers.result.now c.requires.fit (subst (λ rs. RegistersOf c.args.fixups.now rs) (sym c.counted-registers.ensures) c.requires.registers) in
    search (rules, few)

pub with_capacity-requires : goal.with_capacity-requires
with_capacity-requires o c =
    let few = few_classes c.args.fixups.now c.counted-registers.result.now c.requires.fit (subst (λ rs. RegistersOf c.args.fixups.now rs) (sym c.counted-registers.ensures) c.requires.registers) in
    let many = (fixups_fit-parts c.args.fixups.now c.requires.fit).count in
    record { room = table_small (length c.args.fixups.now) (length c.counted-registers.result.now + 1) many (omega (arith, few)) }

pub new-requires-clause-few : goal.new-requires-clause-few
new-requires-clause-few o c =
    let few = few_classes c.args.fixups.now c.counted-registers.result.now c.requires.fit (subst (λ rs. RegistersOf c.args.fixups.now rs) (sym c.counted-registers.ensures) c.requires.registers) in
    omega (arith, few)

pub fixups-init : goal.fixups-init
fixups-init o c =
    let fixups = c.args.fixups.now in
    let r : ℕ = length c.counted-registers.result.now + 1 in
    let none : drop (length fixups) fixups ≡ [] = drop_all (length fixups) fixups (omega arith) in
    let labels = c.in_ok-push.ensures in
    let skips = c.in_ok-push-2.ensures.ok in
    let row = c.deref.ensures.value ∙ c.in_ok-row.ensures.are in
    let line = c.deref-2.ensures.value ∙ c.in_ok-line.ensures.are in
    let label_rows = ap (λ t. t.rows) labels ∙ ap₂ (λ rs x. rs ++ x ∷ []) (ap (λ t. t.rows) c.in_ok-labels.ensures) row in
    let skip_rows = ap (λ t. t.rows) skips ∙ ap₂ (λ rs x. rs ++ x ∷ []) (ap (λ t. t.rows) c.new-skips.ensures) line in
    record {
      inside = omega arith;
      tables = record {
        tabled = fill-none (drop (length fixups) fixups) c.counted-registers.result.now c.push.new.self.rows c.push-2.new.self.rows (index_after (take (length fixups) fixups) 0) (r * r) r none label_rows skip_rows;
        labels_wide = ap (λ t. t.width) labels ∙ ap (λ t. t.width) c.in_ok-labels.ensures;
        skips_wide = ap (λ t. t.width) skips ∙ ap (λ t. t.width) c.new-skips.ensures;
        rows_wide = rw label_rows (length-replicate (r * r) 0, tt);
      };
      ends = ends-none (drop (length fixups) fixups) c.counted-registers.result.now c.push.new.self.rows r c.in_ok-ends.ends none refl c.in_ok-ends.ensures;
      row_len = c.in_ok-row.ensures.len;
      line_len = c.in_ok-line.ensures.len;
    }

pub pass-requires-clause-at : goal.pass-requires-clause-at
pass-requires-clause-at o c =
    let e = c.state_at-state.ensures in
    let t = c.fixups-test.true in
    let i = c.fixups.invariant in
    fill-at c.args.fixups.now c.counted-registers.result.now c.fixups.labels.rows c.fixups.skips.rows (c.fixups.at - 1) c.fixups.at _ _ c.state_at-state.result c.requires.fit (subst (λ rs. RegistersOf c.args.fixups.now rs) (sym c.counted-registers.ensures) c.requires.registers) (omega (arith, t)) i.inside i.tables.tabled
    (record { registers_are = refl; labels_are = refl; skips_are = refl; labels_wide = i.tables.labels_wide; skips_wide = i.tables.skips_wide })
    (record { left = e.left; parts = e.parts; others = e.others; import_index = e.import_index })

pub pass-requires-clause-ends : goal.pass-requires-clause-ends
pass-requires-clause-ends o c =
    let e = c.state_at-state.ensures in
    let t = c.fixups-test.true in
    let i = c.fixups.invariant in
    ends-at c.args.fixups.now c.counted-registers.result.now c.fixups.labels.rows c.fixups.skips.rows (c.fixups.at - 1) c.fixups.at _ c.state_at-state.result c.fixups.ends (omega (arith, t))
    (record { registers_are = refl; labels_are = refl; skips_are = refl; labels_wide = i.tables.labels_wide; skips_wide = i.tables.skips_wide })
    (record { left = e.left; parts = e.parts; others = e.others; import_index = e.import_index })
    i.ends

pub fill_labels-requires-clause-at : goal.fill_labels-requires-clause-at
fill_labels-requires-clause-at o c =
    let e = c.state_at-state.ensures in
    let t = c.fixups-test.true in
    let i = c.fixups.invariant in
    fill-at c.args.fixups.now c.counted-registers.result.now c.fixups.labels.rows c.fixups.skips.rows (c.fixups.at - 1) c.fixups.at _ _ c.state_at-state.result c.requires.fit (subst (λ rs. RegistersOf c.args.fixups.now rs) (sym c.counted-registers.ensures) c.requires.registers) (omega (arith, t)) i.inside i.tables.tabled
    (record { registers_are = refl; labels_are = refl; skips_are = refl; labels_wide = i.tables.labels_wide; skips_wide = i.tables.skips_wide })
    (record { left = e.left; parts = e.parts; others = e.others; import_index = e.import_index })

pub fill_labels-requires-clause-steps : goal.fill_labels-requires-clause-steps
fill_labels-requires-clause-steps o c =
    let e = c.state_at-state.ensures in
    let t = c.fixups-test.true in
    let i = c.fixups.invariant in
    fill-steps c.args.fixups.now c.counted-registers.result.now c.fixups.labels.rows c.fixups.skips.rows (c.fixups.at - 1) c.fixups.at _ _ c.state_at-state.result c.requires.fit (subst (λ rs. RegistersOf c.args.fixups.now rs) (sym c.counted-registers.ensures) c.requires.registers) (omega (arith, t)) i.inside i.tables.tabled
    (record { registers_are = refl; labels_are = refl; skips_are = refl; labels_wide = i.tables.labels_wide; skips_wide = i.tables.skips_wide })
    (record { left = e.left; parts = e.parts; others = e.others; import_index = e.import_index })

pub fill_skips-requires-clause-at : goal.fill_skips-requires-clause-at
fill_skips-requires-clause-at o c =
    let e = c.state_at-state.ensures in
    let t = c.fixups-test.true in
    let i = c.fixups.invariant in
    fill-at c.args.fixups.now c.counted-registers.result.now c.fixups.labels.rows c.fixups.skips.rows (c.fixups.at - 1) c.fixups.at _ _ c.state_at-state.result c.requires.fit (subst (λ rs. RegistersOf c.args.fixups.now rs) (sym c.counted-registers.ensures) c.requires.registers) (omega (arith, t)) i.inside i.tables.tabled
    (record { registers_are = refl; labels_are = refl; skips_are = refl; labels_wide = i.tables.labels_wide; skips_wide = i.tables.skips_wide })
    (record { left = e.left; parts = e.parts; others = e.others; import_index = e.import_index })

pub push-requires-in-fixups-clause-small : goal.push-requires-in-fixups-clause-small
push-requires-in-fixups-clause-small o c =
    let e = c.state_at-state.ensures in
    let t = c.fixups-test.true in
    let i = c.fixups.invariant in
    let row_len = c.fill_labels.ensures.len ∙ ap length c.deref_mut.ensures.value in
    let row = c.deref-in-fixups.ensures.value ∙ with_items_is c.fixups.row c.fill_labels.new.row (row_len ∙ sym c.fixups.row.ok.0) in
    let at = fill-at c.args.fixups.now c.counted-registers.result.now c.fixups.labels.rows c.fixups.skips.rows (c.fixups.at - 1) c.fixups.at _ _ c.state_at-state.result c.requires.fit (subst (λ rs. RegistersOf c.args.fixups.now rs) (sym c.counted-registers.ensures) c.requires.registers) (omega (arith, t)) i.inside i.tables.tabled
    (record { registers_are = refl; labels_are = refl; skips_are = refl; labels_wide = i.tables.labels_wide; skips_wide = i.tables.skips_wide })
    (record { left = e.left; parts = e.parts; others = e.others; import_index = e.import_index }) in
    subst (λ (xs : List ℕ). SmallLine (length xs) xs) (sym row) (row_small _ c.state_at-state.result c.fill_labels.new.row at c.fill_labels.ensures.labels (row_len ∙ i.row_len))

pub push-requires-in-fixups-clause-close : goal.push-requires-in-fixups-clause-close
push-requires-in-fixups-clause-close o c =
    let i = c.fixups.invariant in
    let row_len = c.fill_labels.ensures.len ∙ ap length c.deref_mut.ensures.value in
    let row = c.deref-in-fixups.ensures.value ∙ with_items_is c.fixups.row c.fill_labels.new.row (row_len ∙ sym c.fixups.row.ok.0) in
    subst Close (sym row) (row_close _ c.state_at-state.result c.fill_labels.new.row c.fill_labels.ensures.labels (row_len ∙ i.row_len))

pub fixups-preserved : goal.fixups-preserved
fixups-preserved o c =
    let a = c.args in
    let e = c.state_at-state.ensures in
    let t = c.fixups-test.true in
    let i = c.fixups.invariant in
    let inside = i.inside in
    let rest = drop (c.fixups.at - 1) a.fixups.now in
    let row_len = c.fill_labels.ensures.len ∙ ap length c.deref_mut.ensures.value in
    let line_len = c.fill_skips.ensures.len ∙ ap length c.deref_mut-in-fixups.ensures.value in
    let row_items = with_items_is c.fixups.row c.fill_labels.new.row (row_len ∙ sym c.fixups.row.ok.0) in
    let line_items = with_items_is c.fixups.line c.fill_skips.new.skips (line_len ∙ sym c.fixups.line.ok.0) in
    let row = c.deref-in-fixups.ensures.value ∙ row_items in
    let line = c.deref-in-fixups-2.ensures.value ∙ line_items in
    let labels = c.in_ok-push-3.ensures ∙ ap (λ x. record { width = c.fixups.labels.width; rows = c.fixups.labels.rows ++ x ∷ [] }) row in
    let skips = c.in_ok-push-4.ensures.ok ∙ ap (λ x. record { width = c.fixups.skips.width; rows = c.fixups.skips.rows ++ x ∷ [] }) line in
    record {
      inside = omega (arith, inside);
      tables = tables-next a.fixups.now c.counted-registers.result.now c.fixups.labels c.fixups.skips c.push-in-fixups.new.self c.push-in-fixups-2.new.self (c.fixups.at - 1) c.fixups.at _ c.state_at-state.result c.fill_labels.new.row c.fill_skips.new.skips c.requires.fit (subst (λ rs. RegistersOf c.args.fixups.now rs) (sym c.counted-registers.ensures) c.requires.registers) (omega (arith, t)) inside i.tables
          (record { registers_are = refl; labels_are = refl; skips_are = refl; labels_wide = i.tables.labels_wide; skips_wide = i.tables.skips_wide })
          (record { left = e.left; parts = e.parts; others = e.others; import_index = e.import_index })
          c.fill_labels.ensures.labels c.fill_skips.ensures.are (row_len ∙ i.row_len) labels skips;
      ends = subst (λ (xs : List (List ℕ)). EndsOf (λ l. SameLabels l c.counted-registers.result.now xs (length rest)) (length c.counted-registers.result.now + 1) rest c.pass.new.self) (sym (ap (λ t. t.rows) labels))
          (ends-next a.fixups.now c.counted-registers.result.now c.fixups.labels.rows c.fixups.skips.rows (c.fixups.at - 1) c.fixups.at _ _ c.state_at-state.result c.fill_labels.new.row c.pass.new.self (omega (arith, t)) i.tables.tabled
          (record { registers_are = refl; labels_are = refl; skips_are = refl; labels_wide = i.tables.labels_wide; skips_wide = i.tables.skips_wide })
          (record { left = e.left; parts = e.parts; others = e.others; import_index = e.import_index })
          c.in_ok-pass.ensures);
      row_len = ap length row_items ∙ (row_len ∙ i.row_len);
      line_len = ap length line_items ∙ (line_len ∙ i.line_len);
    }

pub index-requires : goal.index-requires
index-requires o c =
    let h = c.in_ok-indices.ensures in
    omega (arith, h.count, c.fixups.invariant.inside, c.fixups-test.true, c.in_ok-indices.indices.ok.0)

pub state_at-state-requires-clause-import_index : goal.state_at-state-requires-clause-import_index
state_at-state-requires-clause-import_index o c =
    let h = c.in_ok-indices.ensures in
    get_or_read c.in_ok-indices.indices.items _ _ (omega (arith, h.count, c.fixups.invariant.inside, c.fixups-test.true)) c.index.ensures 0
    ∙ h.at (c.fixups.at - 1) (omega (arith, c.fixups.invariant.inside, c.fixups-test.true))

pub returns : goal.returns
returns o c =
    let none : c.fixups.at ≡ 0 = omega (arith, c.fixups-test.false) in
    subst (λ rs. TablesOf rs c.fixups.labels c.fixups.skips 0 c.args.fixups.now) c.counted-registers.ensures
    (subst (λ (n : ℕ). TablesOf c.counted-registers.result.now c.fixups.labels c.fixups.skips (index_after (take n c.args.fixups.now) 0) (drop n c.args.fixups.now)) none c.fixups.invariant.tables)
