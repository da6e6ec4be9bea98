use Rattle.std.proofs.Common.{◌≡◌, ◌+◌, ◌∙◌, ℕ, ap, arith, inl, inr, length, min, slice_index, sym}
use Rattle.std.specs.Prelude.{slice_set}
use Rattle.std.proofs.lemmas.Bool.Decides.{eqb_tells}
use Rattle.std.proofs.lemmas.List.{get_or-set_other, get_or-set_same, length-set}
use Rattle.pef_plan.specs.Runs.Tables.{number_in}
use Rattle.pef_plan.proofs.rows.fill_tops.Goals as goal

pub classes-preserved : goal.classes-preserved
classes-preserved c =
    let a = c.args in
    let i = c.classes.invariant in
    let n : ℕ = length a.tops.now in
    let d = c.classes.d in
    let under = c.classes-test.true in
    let len = i.len in
    let value = c.min.result in
    let new : value ≡ min (number_in n a.row.now a.cross.class d + 1) (min a.cross.line a.cross.column + 2) = c.min.ensures ∙ ap (λ x. min (number_in n a.row.now a.cross.class d + 1) (x + 2)) c.min-most.ensures in
    record {
      len = length-set c.classes.tops d value ∙ len;
      are = λ e low.
          elim (eqb_tells e d) [
            | inl same ↦
                ap (slice_index (slice_set c.classes.tops d value)) same.1
                ∙ (get_or-set_same c.classes.tops d value 0 (omega (arith, len, under))
                ∙ (new ∙ ap (λ x. min (number_in n a.row.now a.cross.class x + 1) (min a.cross.line a.cross.column + 2)) (sym same.1)))
            | inr other ↦ (let apart = other.1 in get_or-set_other c.classes.tops d e value 0 apart ∙ i.are e (omega (arith, low, apart)))
          ];
    }

pub returns-clause-tops : goal.returns-clause-tops
returns-clause-tops c =
    let a = c.args in
    let i = c.classes.invariant in
    let len = i.len in
    let past = c.classes-test.false in
    let class = c.requires.class in
    record {
      class = get_or-set_same c.classes.tops a.cross.class c.min-2.result 0 (omega (arith, len, class)) ∙ c.min-2.ensures;
      others = λ d under away. get_or-set_other c.classes.tops a.cross.class d c.min-2.result 0 away ∙ i.are d (omega (arith, under, past));
    }
