-- A row that isn't zero bytes ends them.
use Rattle.std.proofs.Common.{◌≡◌, ◌<◌, true, false, sym, arith}
use Rattle.pef_views.specs.PartialViews.{partly}
use Rattle.pef_inspect.specs.Zeros.{is_zero_row}
use Rattle.pef_inspect.proofs.ZeroLemmas.{zeros-here, zeros-next}
use Rattle.pef_inspect.proofs.zeros.zeros_from.Goals as goal

pub returns-then-not-is_zero_row : goal.returns-then-not-is_zero_row
returns-then-not-is_zero_row c =
    let p = partly c.args.container.now in
    let t = c.args.table in
    let j = c.loop-j.j in
    let under : j < t.count = omega arith in
    let other : is_zero_row p t j ≡ false = sym c.if-not-is_zero_row.ensures in
    let none = zeros-here p t j t.count under other in
    omega (arith, none, c.loop-j.invariant)

pub loop-j-preserved : goal.loop-j-preserved
loop-j-preserved c =
    let p = partly c.args.container.now in
    let t = c.args.table in
    let j = c.loop-j.j in
    let under : j < t.count = omega arith in
    let zero : is_zero_row p t j ≡ true = sym c.if-not-is_zero_row.ensures in
    let next = zeros-next p t j t.count under zero in
    omega (arith, next, c.loop-j.invariant)
