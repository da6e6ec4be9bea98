-- A fixup goes last while they rise.
use Rattle.std.proofs.Common.{◌≤◌, sym, ◌∙◌, arith}
use Rattle.pef_script.proofs.TextProofs.Rising.{placed_last, rising-more}
use Rattle.pef_script.proofs.text.sections.FixupsSoFar.add.Goals as goal

pub invariant_of-self-then-from-end : goal.invariant_of-self-then-from-end
invariant_of-self-then-from-end c =
    let rising = rw c.in-Rising.is at c.self.invariant in
    let past : c.in-Rising.end ≤ c.args.fixup.offset = grind arith in
    rw c.in_ok-push-in-Rising.ensures.items (rising-more c.self.inside.fixups.items c.in-Rising.end _ c.args.fixup rising past (omega arith))

pub returns-in_ok-push-in-Rising : goal.returns-in_ok-push-in-Rising
returns-in_ok-push-in-Rising c =
    let is = rw c.in-Rising.is at c.self.view_is in
    let rising = rw c.in-Rising.is at c.self.invariant in
    let past : c.in-Rising.end ≤ c.args.fixup.offset = grind arith in
    rw (← is) (c.in_ok-push-in-Rising.ensures.items ∙ sym (placed_last c.self.inside.fixups.items c.in-Rising.end c.args.fixup rising.inside past))
