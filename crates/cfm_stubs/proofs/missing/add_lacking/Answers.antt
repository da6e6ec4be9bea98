-- One more entry is there.
use Rattle.std.proofs.Common.{◌∙◌, ap}
use Rattle.std.specs.Str.{bytes_eq}
use Rattle.indexmap.specs.IndexMap.{insert_entry}
use Rattle.pef_names.specs.declared.name_key.NameKey.{NameKey}
use Rattle.cfm_stubs.specs.Kept.Tables.{lacking_named}
use Rattle.cfm_stubs.proofs.LackingLemmas.{lacking-insert}
use Rattle.cfm_stubs.proofs.missing.add_lacking.Goals as goal

pub returns : goal.returns
returns c =
    let e = c.args.entry in
    let entries = c.args.weak.now.entries in
    ap lacking_named (c.in_ok-insert.ensures.entries ∙ ap (insert_entry (λ (x y : NameKey). bytes_eq x.bytes.now y.bytes.now) entries (record { bytes = e.name })) c.are_weak-each.ensures)
    ∙ lacking-insert e.name e.fields entries
