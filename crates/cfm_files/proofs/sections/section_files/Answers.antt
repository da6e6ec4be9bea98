-- The files of one fragment more, and then those of all.
use Rattle.std.proofs.Common.{◌∙◌, ◌+◌, ◌++◌, List, ap, drop, get_or, map, sym}
use Rattle.std.proofs.lemmas.List.{append-nil, append_assoc, at_drop_all, at_drop_more}
use Rattle.cfm_files.specs.Sections.{file_seen, fragment_files, section_files}
use Rattle.cfm_files.specs.Writing.{FileIs}
use Rattle.cfm_files.proofs.sections.section_files.Goals as goal

pub loop-position-preserved : goal.loop-position-preserved
loop-position-preserved c =
    let at = c.loop-position in
    let s = c.args.context.now in
    let folder = c.args.folder.now in
    let order = c.args.order.now in
    let rest = section_files s folder (drop (at.position-index + 1) order) in
    let next = at_drop_more (section_files s folder) order at.position-index 0 c.loop-position-test.true in
    ap (λ (files : List FileIs). files ++ rest) c.in_ok-add_files.ensures
    ∙ append_assoc (map file_seen at.files.items) (fragment_files s folder (get_or order at.position-index 0)) rest
    ∙ ap (λ (more : List FileIs). map file_seen at.files.items ++ more) (sym next)
    ∙ at.invariant

pub returns : goal.returns
returns c =
    let at = c.loop-position in
    let s = c.args.context.now in
    let files = map file_seen at.files.items in
    sym (append-nil files) ∙ ap (λ (more : List FileIs). files ++ more) (sym (at_drop_all (section_files s c.args.folder.now) c.args.order.now at.position-index c.loop-position-test.false)) ∙ at.invariant
