use Rattle.std.proofs.Common.{◌+◌, ◌∙◌, [], ◌∷◌, List, ap, length, refl, subst, sym, ℕ}
use Rattle.std.proofs.lemmas.List.{with_items_is}
use Rattle.pef_plan.specs.Runs.Ends.{Begins, NearKept, NearSmall}
use Rattle.pef_plan.specs.declared.runs.run.Run.TheVariants.{Imports}
use Rattle.pef_plan.specs.Runs.Tables.{Agrees}
use Rattle.pef_plan.specs.Runs.Kept.Turns.{Turns}
use Rattle.pef_plan.proofs.RunsProofs.EndsKept.{Brings, Moves, import_passed, section_passed, words_import}
use Rattle.pef_plan.proofs.runs.ends.RunEnds.pass.Goals as goal

pub returns-in_ok-bring-in-Import : goal.returns-in_ok-bring-in-Import
returns-in_ok-bring-in-Import c =
    let a = c.args in
    let len = c.fill_after.ensures.len ∙ ap length c.deref_mut.ensures.value in
    let items = with_items_is a.self.now.near c.fill_after.new.near (len ∙ sym a.self.now.near.ok.0) in
    import_passed a.known a.at c.in-Import.import a.self.now _ c.pair_at-pair.result.after c.pair_at-pair.result.far_after c.pair_at-pair.result.on c.pair_at-pair.result.far_on c.goes_on-imports.result c.in-Import.is (record {
      ends = c.requires.ends;
      near_is = c.pair_at-pair.ensures.after;
      far_is = c.pair_at-pair.ensures.far_after;
      pairs_next = c.in_ok-pass.ensures.next;
      pairs_on = c.pair_at-pair.ensures.on;
      pairs = c.in_ok-pass.ensures.here;
      far_next = c.in_ok-pass-2.ensures.next;
      far_pairs_on = c.pair_at-pair.ensures.far_on;
      far_pairs = c.in_ok-pass-2.ensures.here;
      near_len = ap length items ∙ len;
      near = λ l agrees. subst (λ (row : List ℕ). NearKept l (a.at.first ∷ a.at.others.now) row) (sym items) (c.fill_after.ensures.is l agrees);
      near_small = subst (λ (row : List ℕ). NearSmall (length a.known.registers.now + 1) (a.at.first ∷ a.at.others.now) row) (sym items) c.fill_after.ensures.small;
    }) refl refl
    (words_import (λ l. Agrees l a.known a.at.others.now) (length a.known.registers.now + 1) c.in-Import.import a.at.first a.at.others.now a.self.now.words c.in-Import.is c.requires.ends.words)
    (subst (λ (i : ℕ). Begins Imports (a.at.first.offset + 4) (i + 1) a.at.others.now c.goes_on-imports.result) c.from.ensures c.goes_on-imports.ensures)
    (subst (λ (row : List ℕ). Brings c.goes_on-imports.result row a.self.now.imports c.bring.new.self) c.deref.ensures.value c.in_ok-bring-in-Import.ensures)

pub returns-in_ok-pass_section-in-Section : goal.returns-in_ok-pass_section-in-Section
returns-in_ok-pass_section-in-Section c =
    let a = c.args in
    let len = c.fill_after.ensures.len ∙ ap length c.deref_mut.ensures.value in
    let items = with_items_is a.self.now.near c.fill_after.new.near (len ∙ sym a.self.now.near.ok.0) in
    let new = c.pass_section.new.self in
    let p = c.in_ok-pass_section-in-Section.ensures in
    let near_items = p.same_near ∙ items in
    section_passed a.known a.at c.in-Section.section a.self.now new c.pair_at-pair.result.after c.pair_at-pair.result.far_after c.pair_at-pair.result.on c.pair_at-pair.result.far_on c.in-Section.is (record {
      ends = c.requires.ends;
      near_is = c.pair_at-pair.ensures.after;
      far_is = c.pair_at-pair.ensures.far_after;
      pairs_next = ap (λ w. w.next) p.pairs ∙ c.in_ok-pass.ensures.next;
      pairs_on = c.pair_at-pair.ensures.on;
      pairs = subst (λ (w : Turns). Moves c.pair_at-pair.result.on (c.pair_at-pair.result.after ∷ []) a.self.now.pairs.next w.here) (sym p.pairs) c.in_ok-pass.ensures.here;
      far_next = ap (λ w. w.next) p.far_pairs ∙ c.in_ok-pass-2.ensures.next;
      far_pairs_on = c.pair_at-pair.ensures.far_on;
      far_pairs = subst (λ (w : Turns). Moves c.pair_at-pair.result.far_on (c.pair_at-pair.result.far_after ∷ []) a.self.now.far_pairs.next w.here) (sym p.far_pairs) c.in_ok-pass-2.ensures.here;
      near_len = ap length near_items ∙ len;
      near = λ l agrees. subst (λ (row : List ℕ). NearKept l (a.at.first ∷ a.at.others.now) row) (sym near_items) (c.fill_after.ensures.is l agrees);
      near_small = subst (λ (row : List ℕ). NearSmall (length a.known.registers.now + 1) (a.at.first ∷ a.at.others.now) row) (sym near_items) c.fill_after.ensures.small;
    }) p.column_len p.far_len p.far p.ends p.imports
