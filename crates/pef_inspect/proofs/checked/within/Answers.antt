-- The parts passed, and those that are left.
use Rattle.std.proofs.Common.{◌<◌, ◌∙◌, sym, arith}
use Rattle.pef_inspect.proofs.Within.{left-next, less-some, within-next}
use Rattle.pef_inspect.proofs.checked.within.Goals as goal

pub loop-i-preserved : goal.loop-i-preserved
loop-i-preserved g c =
    let cost = g.C.Costed.cost c.args.parts.now in
    let at = c.loop-i in
    let fits = less-some at.left (cost at.i) c.in-Some.rest c.in-Some.ensures in
    let under : at.i < c.args.count = omega arith in
    let next = within-next cost at.left at.i c.args.count under fits.cheap in
    rw fits.rest_is (record {
      parts = omega (arith, next, at.invariant.parts);
      rest = sym (left-next cost at.left at.i c.args.count under fits.cheap) ∙ at.invariant.rest;
    })
