use Rattle.std.proofs.Common.{◌≡◌, ◌-◌, ◌+◌, ◌∙◌, ◌++◌, suc, length, ap, arith, replicate}
use Rattle.pef_labels.specs.Kept.RowsKept.{EndsWith}
use Rattle.pef_labels.specs.Rows.{rows_from}
use Rattle.pef_labels.proofs.RowLemmas.{full-more, full-push, rows-many_more, rows-pushed}
use Rattle.pef_labels.proofs.rows.LabelRows.push_many.Goals as goal

same_last : (c : goal.After-self-1) → EndsWith c.self.inside.ends.items c.self.inside.values.items c.args.row.now
same_last c = rw (c.deref.ensures.value, c.deref-2.ensures.value) at (c.end_with.ensures.yes c.if-end_with.true)

count : (c : goal.After-self-1) → length c.self.inside.ends.items ≡ suc (c.len-last.result - 1)
count c = let some = (same_last c).some in let len = c.len-last.ensures in omega (arith, some, len)

pub invariant_of-self : goal.invariant_of-self
invariant_of-self c =
    let s = c.self.inside in
    let rows = rw (← c.self.view_is) at c.rows.ensures in
    let more = c.if-count-eq0.false in
    full-more s.width (c.rows.result + c.args.count) (c.len-last.result - 1) s.ends.items s.values.items c.self.invariant (count c) (omega (arith, rows, more))

pub returns-then-end_with-clause-ok : goal.returns-then-end_with-clause-ok
returns-then-end_with-clause-ok c =
    let s = c.self.inside in
    let rows : c.rows.result ≡ length (rows_from s.width 0 s.ends.items s.values.items) = rw (← c.self.view_is) at c.rows.ensures in
    let wide : length c.args.row.now ≡ s.width = rw (← c.self.view_is) at c.requires.wide in
    let many : c.rows.result + c.args.count - length (rows_from s.width 0 s.ends.items s.values.items) ≡ c.args.count = omega (arith, rows) in
    rw (← c.self.view_is)
    (ap (λ rows. record { width = s.width; rows = rows })
    (rows-many_more s.width (c.rows.result + c.args.count) (c.len-last.result - 1) s.ends.items s.values.items c.args.row.now c.self.invariant (count c) wide (same_last c) (omega (arith, rows))
    ∙ ap (λ n. rows_from s.width 0 s.ends.items s.values.items ++ replicate n c.args.row.now) many))

pub invariant_of-self-2 : goal.invariant_of-self-2
invariant_of-self-2 c =
    let s = c.self.inside in
    let rows : c.rows.result ≡ length (rows_from s.width 0 s.ends.items s.values.items) = rw (← c.self.view_is) at c.rows.ensures in
    let wide : length c.args.row.now ≡ s.width = rw (← c.self.view_is) at c.requires.wide in
    let more = c.if-count-eq0.false in
    let other = rw (c.deref.ensures.value, c.deref-2.ensures.value) at (c.end_with.ensures.no c.if-end_with.false) in
    rw (c.in_ok-push.ensures.items, c.reserve.ensures.items, c.in_ok-extend_from_slice.ensures.items)
    (full-push s.width (c.rows.result + c.args.count) s.ends.items s.values.items c.args.row.now c.self.invariant wide (omega (arith, rows, more)) other)

pub returns-clause-ok : goal.returns-clause-ok
returns-clause-ok c =
    let s = c.self.inside in
    let rows : c.rows.result ≡ length (rows_from s.width 0 s.ends.items s.values.items) = rw (← c.self.view_is) at c.rows.ensures in
    let wide : length c.args.row.now ≡ s.width = rw (← c.self.view_is) at c.requires.wide in
    let many : c.rows.result + c.args.count - length (rows_from s.width 0 s.ends.items s.values.items) ≡ c.args.count = omega (arith, rows) in
    rw (← c.self.view_is, c.in_ok-push.ensures.items, c.reserve.ensures.items, c.in_ok-extend_from_slice.ensures.items)
    (ap (λ rows. record { width = s.width; rows = rows })
    (rows-pushed s.width (c.rows.result + c.args.count) s.ends.items s.values.items c.args.row.now c.self.invariant wide
    ∙ ap (λ n. rows_from s.width 0 s.ends.items s.values.items ++ replicate n c.args.row.now) many))
