-- Past the end of fixups that rise, none overlaps.
use Rattle.std.proofs.Common.{◌≡◌, ◌≤◌, ◌∙◌, false, nat_lt, sym, arith}
use Rattle.std.proofs.lemmas.Bool.Decides.{nat_tests}
use Rattle.pef_script.proofs.TextProofs.Marking.{overlaps_is}
use Rattle.pef_script.proofs.TextProofs.Rising.{free_past}
use Rattle.pef_script.proofs.TextProofs.Sorting.{overlaps-fold}
use Rattle.pef_script.proofs.text.sections.FixupsSoFar.overlaps.Goals as goal

pub returns-else-from-end : goal.returns-else-from-end
returns-else-from-end c =
    let is = rw c.in-Rising.is at c.self.view_is in
    let rising = rw c.in-Rising.is at c.self.invariant in
    let past : c.in-Rising.end ≤ c.args.offset = grind arith in
    let past_too = c.if-from-end.false in
    let not_before : nat_lt c.from.result c.in-Rising.end ≡ false = grind (arith, nat_tests, past_too) in
    rw (← is) (not_before ∙ sym (free_past c.self.inside.fixups.items c.in-Rising.end c.args.offset c.args.count rising.inside past))

pub returns-in-Marked : goal.returns-in-Marked
returns-in-Marked c =
    let is = rw c.in-Marked.is at c.self.view_is in
    let kept = rw c.in-Marked.is at c.self.invariant in
    let fixups = c.self.inside.fixups.items in
    rw (← is) (c.overlaps.ensures ∙ (overlaps_is c.in-Marked.marks.leads.items fixups c.args.offset c.args.count kept.marked ∙ sym (overlaps-fold fixups c.args.offset c.args.count)))
