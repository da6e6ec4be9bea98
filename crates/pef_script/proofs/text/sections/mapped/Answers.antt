-- The map has the fixups of the list, and then the new one.
use Rattle.std.proofs.Common.{◌≡◌, [], false, List, ap, ap₂, sym, subst, ◌∙◌}
use Rattle.std.specs.List.{fold}
use Rattle.pef_reloc.specs.declared.fixup.Fixup.{Fixup}
use Rattle.pef_script.specs.Text.Contents.{overlaps, placed}
use Rattle.pef_script.specs.Text.Kept.Sections.{fixups_in}
use Rattle.pef_script.proofs.TextProofs.Offsets.{inserted_is}
use Rattle.pef_script.proofs.text.sections.mapped.Goals as goal

pub returns : goal.returns
returns c =
    let all = fold placed [] c.args.fixups.now.items in
    let entries = c.insert_all.new.bases.entries in
    let moved : fixups_in entries ≡ all =
    c.in_ok-insert_all.ensures ∙ ap₂ (λ es (fs : List Fixup). fold placed (fixups_in es) fs) c.new-bases.ensures.empty c.deref.ensures.value in
    let free = subst (λ (fs : List Fixup). overlaps fs c.args.fixup.offset 1 ≡ false) (sym moved) c.requires.free in
    ap fixups_in c.in_ok-insert.ensures.entries
    ∙ (inserted_is entries c.args.fixup.offset c.args.fixup.base free ∙ ap (λ (fs : List Fixup). placed fs c.args.fixup) moved)
