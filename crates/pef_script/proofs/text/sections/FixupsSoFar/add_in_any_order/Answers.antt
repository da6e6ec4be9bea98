-- In each order the fixup goes to the others.
use Rattle.std.proofs.Common.{sym, ap, ◌∙◌}
use Rattle.pef_script.specs.Text.Kept.Sections.{fixups_in}
use Rattle.pef_script.proofs.TextProofs.Offsets.{inserted_is}
use Rattle.pef_script.proofs.TextProofs.Sorting.{overlaps-fold}
use Rattle.pef_script.proofs.text.sections.FixupsSoFar.add_in_any_order.Goals as goal

pub add_marked-requires-clause-free : goal.add_marked-requires-clause-free
add_marked-requires-clause-free c =
    let is = rw c.in-Marked.is at c.self.view_is in
    sym (overlaps-fold c.self.inside.fixups.items c.args.fixup.offset 1) ∙ rw (← is) at c.requires

pub returns-in_ok-insert-in-Mapped : goal.returns-in_ok-insert-in-Mapped
returns-in_ok-insert-in-Mapped c =
    let is = rw c.in-Mapped.is at c.self.view_is in
    let free = rw (← is) at c.requires in
    rw (← is) (ap fixups_in c.in_ok-insert-in-Mapped.ensures.entries ∙ inserted_is c.in-Mapped.bases.entries c.args.fixup.offset c.args.fixup.base free)
