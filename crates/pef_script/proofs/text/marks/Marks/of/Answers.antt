-- Each turn marks the first of the fixups that are left.
use Rattle.std.proofs.Common.{get_or, take, arith}
use Rattle.std.proofs.lemmas.List.{take_more}
use Rattle.pef_reloc.specs.declared.fixup.Base.TheVariants.{Section}
use Rattle.pef_reloc.specs.declared.fixup.Fixup.{Fixup}
use Rattle.pef_script.proofs.TextProofs.Marking.{marked_more, marked_same}
use Rattle.pef_script.proofs.TextProofs.Sorting.{free_at}
use Rattle.pef_script.proofs.text.marks.Marks.of.Goals as goal

pub loop-fixup-preserved : goal.loop-fixup-preserved
loop-fixup-preserved c =
    let fixups = c.args.fixups.now in
    let i = c.loop-fixup.fixup-index in
    let none : Fixup = record { offset = 0; base = Section 0 } in
    let new : Fixup = get_or fixups i none in
    let free = free_at fixups i none c.requires (omega arith) in
    let marks = marked_same c.loop-fixup.marks.leads.items c.make_room.new.self.leads.items (take i fixups) c.in_ok-make_room.ensures.same c.loop-fixup.invariant in
    rw (take_more fixups i none (omega arith), c.put.ensures)
    (marked_more c.make_room.new.self.leads.items (take i fixups) new marks free (let room = c.in_ok-make_room.ensures.room in omega (arith, room)))
