-- The fixup is apart from the others, and its mark is the only new one.
use Rattle.std.proofs.Common.{[], ◌∙◌, arith}
use Rattle.pef_script.proofs.TextProofs.Marking.{marked_more, marked_same}
use Rattle.pef_script.proofs.TextProofs.Rising.{apart-more}
use Rattle.pef_script.proofs.TextProofs.Sorting.{overlaps-fold}
use Rattle.pef_script.proofs.text.sections.add_marked.Goals as goal

pub returns-clause-kept : goal.returns-clause-kept
returns-clause-kept c =
    let fixups = c.args.fixups.now.items in
    let room = c.in_ok-make_room.ensures.room in
    let marks = marked_same c.args.marks.now.leads.items c.make_room.new.self.leads.items fixups c.in_ok-make_room.ensures.same c.requires.marked.marked in
    rw (c.in_ok-push.ensures.items, c.put.ensures)
    (record {
      apart = apart-more [] fixups c.args.fixup c.requires.marked.apart (overlaps-fold fixups c.args.fixup.offset 1 ∙ c.requires.free);
      marked = marked_more c.make_room.new.self.leads.items fixups c.args.fixup marks c.requires.free (omega (arith, room));
    })
