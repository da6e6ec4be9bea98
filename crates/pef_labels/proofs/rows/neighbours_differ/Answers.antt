use Rattle.std.proofs.Common.{◌≢◌, ◌∙◌, drop, length, take, arith, sym}
use Rattle.std.proofs.lemmas.Bool.{false≢true}
use Rattle.std.proofs.lemmas.List.{length-drop}
use Rattle.pef_labels.proofs.RowLemmas.{differ_both, differ_here, differ_later, long_rows, starts_same}
use Rattle.pef_labels.proofs.rows.neighbours_differ.Goals as goal

pub returns-then-starts_with : goal.returns-then-starts_with
returns-then-starts_with c =
    let w = c.args.width in
    let rest = c.rows.rest.now in
    let long = long_rows w c.rows.left (length rest) c.rows-test.true c.rows.invariant.long in
    let says = starts_same w rest c.starts_with.result long.0 (rw (c.split_at.ensures.front, c.split_at.ensures.back) at c.starts_with.ensures.value) in
    (λ wrong. absurd (false≢true wrong), λ all. absurd (differ_here w c.rows.left rest c.rows-test.true (c.rows.invariant.rest all) (says.0 c.if-starts_with.true)))

pub rows-preserved : goal.rows-preserved
rows-preserved c =
    let w = c.args.width in
    let rest = c.rows.rest.now in
    let some = c.rows-test.true in
    let i = c.rows.invariant in
    let long = long_rows w c.rows.left (length rest) some i.long in
    let says = starts_same w rest c.starts_with.result long.0 (rw (c.split_at.ensures.front, c.split_at.ensures.back) at c.starts_with.ensures.value) in
    let other : take w rest ≢ take w (drop w rest) = λ same. false≢true (sym c.if-starts_with.false ∙ says.1 same) in
    rw c.split_at.ensures.back record {
      long = (let less = long.1 in omega (arith, less, length-drop w rest));
      all = λ later. i.all (differ_both w c.rows.left rest some other later);
      rest = λ all. differ_later w c.rows.left rest some (i.rest all);
    }
