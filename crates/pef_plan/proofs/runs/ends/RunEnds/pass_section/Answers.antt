use Rattle.std.proofs.Common.{◌≡◌, ◌<◌, ◌+◌, ◌∙◌, ap, ap₂, length, slice_index, subst, sym, List, ℕ}
use Rattle.std.proofs.lemmas.List.{with_items_is}
use Rattle.pef_cert.specs.Labels.{Labels}
use Rattle.pef_plan.specs.Runs.Ends.{ColumnAt}
use Rattle.pef_plan.specs.Runs.Tables.{Agrees, place_of}
use Rattle.pef_plan.proofs.RunsProofs.EndsKept.{Brings, column_at, line_at, spaced_brought, words_c_brought, words_d_brought}
use Rattle.pef_plan.proofs.runs.ends.RunEnds.pass_section.Goals as goal

pub returns-clause-ends : goal.returns-clause-ends
returns-clause-ends c =
    let a = c.args in
    let P : Labels → Type 0 = λ l. Agrees l a.known a.at.others.now in
    let count : ℕ = length a.known.registers.now + 1 in
    let old = c.requires.ends in
    let items = with_items_is a.self.now.column c.copy_column.new.column (c.copy_column.ensures.len ∙ (sym c.requires.column_len ∙ sym a.self.now.column.ok.0)) in
    let far_items = with_items_is a.self.now.far c.fill_far.new.far (c.fill_far.ensures.len ∙ (ap length c.deref_mut-2.ensures.value ∙ sym a.self.now.far.ok.0)) in
    let column : (l : Labels) → P l → ColumnAt l a.at.first a.at.others.now c.copy_column.new.column a.section = λ l agrees.
    column_at l a.known a.at a.section a.self.now.near.items c.copy_column.new.column agrees (c.requires.near l agrees)
    (λ x under. c.copy_column.ensures.is x under ∙ ap₂ (λ near class. slice_index near (place_of count x class)) c.deref.ensures.value c.class_of-class.ensures) in
    record {
      in_c = words_c_brought P count a.section a.at.first a.at.others.now c.goes_on-words.result c.line_of.result.now a.self.now.words.in_c c.bring.new.self c.requires.base old.in_c
          (λ l agrees. line_at l a.known a.at a.section a.self.now.near.items c.line_of.result.now agrees (c.requires.near l agrees)
          (λ d under. subst (λ (n : ℕ). d < n → slice_index c.line_of.result.now d ≡ slice_index c.deref-3.result.now (place_of n c.class_of-class.result d)) c.classes-classes.ensures (c.line_of.ensures.is d) under
          ∙ ap₂ (λ near class. slice_index near (place_of count class d)) c.deref-3.ensures.value c.class_of-class.ensures))
          c.goes_on-words.ensures c.in_ok-bring.ensures;
      in_d = words_d_brought P count 512 a.section a.at.first a.at.others.now c.goes_on-words.result c.copy_column.new.column a.self.now.words.in_d c.bring-2.new.self c.requires.base old.in_d column c.goes_on-words.ensures (subst (λ (row : List ℕ). Brings c.goes_on-words.result row a.self.now.words.in_d c.bring-2.new.self) (c.all_of-column.ensures ∙ (c.deref-2.ensures.value ∙ items)) c.in_ok-bring-2.ensures);
      skips = words_d_brought P count 63 a.section a.at.first a.at.others.now c.goes_on-words.result c.copy_column.new.column a.self.now.words.skips c.bring-3.new.self c.requires.base old.skips column c.goes_on-words.ensures (subst (λ (row : List ℕ). Brings c.goes_on-words.result row a.self.now.words.skips c.bring-3.new.self) (c.all_of-column.ensures ∙ (c.deref-2.ensures.value ∙ items)) c.in_ok-bring-3.ensures);
      spaced = spaced_brought P count a.section a.at.first a.at.others.now c.goes_on-spaced.result c.fill_far.new.far a.self.now.words.spaced c.bring-4.new.self c.requires.base old.spaced c.fill_far.ensures.is c.goes_on-spaced.ensures (subst (λ (row : List ℕ). Brings c.goes_on-spaced.result row a.self.now.words.spaced c.bring-4.new.self) (c.all_of.ensures ∙ (c.deref-4.ensures.value ∙ far_items)) c.in_ok-bring-4.ensures);
    }
