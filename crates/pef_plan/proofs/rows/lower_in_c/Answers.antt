use Rattle.std.proofs.Common.{◌+◌, ℕ, inl, inr, arith, length, slice_index, subst, sym}
use Rattle.std.proofs.lemmas.Bool.Decides.{eqb_tells}
use Rattle.pef_plan.specs.Kept.Rows.{Adds, AddsInC, state_of}
use Rattle.pef_plan.specs.Runs.Tables.{number_in}
use Rattle.pef_plan.proofs.DirectLemmas.{in_c-away}
use Rattle.pef_plan.proofs.LoweredLines.{adds-in_c, bests-in_line, class_inside, words_best}
use Rattle.pef_plan.proofs.rows.lower_in_c.Goals as goal

pub lower_by_pairs-requires-clause-led : goal.lower_by_pairs-requires-clause-led
lower_by_pairs-requires-clause-led c = λ d under.
    let a = c.args in
    let r = c.requires in
    let inside = class_inside a.known a.at a.of.section a.of.class r.at r.base r.class in
    let bests = bests-in_line a.ends.now.words.in_c a.row.now c.copy_line.new.line c.lower_in_c.new.line c.classes-2.result (length a.known.registers.now + 1) a.of.class c.classes-2.ensures c.copy_line.ensures.len c.copy_line.ensures.are c.lower_in_c.ensures.best d under in
    (words_best a.known a.at a.of.section a.of.class d _ _ a.ends.now r.at r.base r.class under r.ends bests).led (r.each a.of.class d (omega (arith, inside)) under).led

pub put_line-requires-clause-less : goal.put_line-requires-clause-less
put_line-requires-clause-less c = λ d under.
    let a = c.args in
    let r = c.requires in
    let bests = bests-in_line a.ends.now.words.in_c a.row.now c.copy_line.new.line c.lower_in_c.new.line c.classes-2.result (length a.known.registers.now + 1) a.of.class c.classes-2.ensures c.copy_line.ensures.len c.copy_line.ensures.are c.lower_in_c.ensures.best d under in
    let words = (words_best a.known a.at a.of.section a.of.class d _ _ a.ends.now r.at r.base r.class under r.ends bests).better in
    let wide = c.copy_line.ensures.len in
    let count = c.classes-2.ensures in
    let len = c.lower_in_c.ensures.len in
    let pairs = c.lower_by_pairs.ensures.lower d (omega (arith, under, len, wide, count)) in
    omega (arith, pairs, words)

pub returns-clause-each : goal.returns-clause-each
returns-clause-each c = λ x d under_x under_d.
    let a = c.args in
    let r = c.requires in
    let rows : ℕ = length a.known.registers.now + 1 in
    elim (eqb_tells x a.of.class) [
      | inl same ↦
          (let bests = bests-in_line a.ends.now.words.in_c a.row.now c.copy_line.new.line c.lower_in_c.new.line c.classes-2.result rows a.of.class c.classes-2.ensures c.copy_line.ensures.len c.copy_line.ensures.are c.lower_in_c.ensures.best d under_d in
          let wide = c.copy_line.ensures.len in
          let count = c.classes-2.ensures in
          let len = c.lower_in_c.ensures.len in
          let inside = class_inside a.known a.at a.of.section a.of.class r.at r.base r.class in
          let new : AddsInC a.known (state_of a.at a.of.class d) a.of.section (slice_index c.lower_by_pairs.new.line d) =
          adds-in_c a.known a.at a.of.section a.of.class d (number_in rows a.row.now a.of.class d) (slice_index c.lower_in_c.new.line d) _ a.ends.now r.at r.base r.class under_d r.ends (r.each a.of.class d (omega (arith, inside)) under_d)
          bests (c.lower_by_pairs.ensures.lower d (omega (arith, under_d, len, wide, count))) (c.lower_by_pairs.ensures.led d under_d) (c.lower_by_pairs.ensures.pairs d under_d) in
          subst (λ y. AddsInC a.known (state_of a.at y d) a.of.section (number_in rows c.put_line.new.row y d)) (sym same.1)
          (subst (λ n. AddsInC a.known (state_of a.at a.of.class d) a.of.section n) (sym (c.put_line.ensures.are d under_d)) new))
      | inr other ↦ in_c-away a.known (state_of a.at x d) a.of.section a.of.class (number_in rows c.put_line.new.row x d) r.class other.1
          (subst (λ n. Adds a.known (state_of a.at x d) 1 n) (sym (c.put_line.ensures.lowers.others x d under_x under_d other.1)) (r.each x d under_x under_d))
    ]
