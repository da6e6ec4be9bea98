use Rattle.std.proofs.Common.{◌≡◌, ◌+◌, ◌∙◌, ap, arith, inl, inr, min, slice_index, sym}
use Rattle.std.specs.Prelude.{slice_set}
use Rattle.std.proofs.lemmas.Bool.Decides.{eqb_tells}
use Rattle.std.proofs.lemmas.List.{get_or-set_other, get_or-set_same, length-set}
use Rattle.pef_plan.proofs.rows.lower_line.Goals as goal

pub classes-preserved : goal.classes-preserved
classes-preserved c =
    let a = c.args in
    let i = c.classes.invariant in
    let d = c.classes.d in
    let len = i.len in
    let under = c.classes-test.true in
    let inside = c.requires.inside in
    let number = c.min-in-classes.result in
    let before : slice_index c.classes.row (a.start + d) ≡ slice_index a.row.now (a.start + d) = i.others (a.start + d) (inr (omega arith)) in
    let new : number ≡ min (min (slice_index a.row.now (a.start + d)) (slice_index a.tops.now d)) a.top = c.min-in-classes.ensures ∙ ap (λ x. min x a.top) (c.min.ensures ∙ ap (λ x. min x (slice_index a.tops.now d)) before) in
    record {
      len = length-set c.classes.row (a.start + d) number ∙ len;
      are = λ e low.
          elim (eqb_tells e d) [
            | inl same ↦
                (let at : a.start + e ≡ a.start + d = ap (λ n. a.start + n) same.1 in
                let is : slice_index (slice_set c.classes.row (a.start + d) number) (a.start + e) ≡ number = ap (slice_index (slice_set c.classes.row (a.start + d) number)) at ∙ get_or-set_same c.classes.row (a.start + d) number 0 (omega (arith, len, under, inside)) in
                is ∙ (new ∙ ap (λ n. min (min (slice_index a.row.now (a.start + n)) (slice_index a.tops.now n)) a.top) (sym same.1)))
            | inr other ↦
                (let apart = other.1 in
                get_or-set_other c.classes.row (a.start + d) (a.start + e) number 0 (λ same. apart (omega (arith, same))) ∙ i.are e (omega (arith, low, apart)))
          ];
      others = λ x out.
          get_or-set_other c.classes.row (a.start + d) x number 0 (λ same. elim out [ inl low ↦ absurd (omega (arith, low, same)) | inr high ↦ absurd (omega (arith, high, same)) ])
          ∙ i.others x (elim out [ inl low ↦ inl low | inr high ↦ inr (omega (arith, high)) ]);
    }
