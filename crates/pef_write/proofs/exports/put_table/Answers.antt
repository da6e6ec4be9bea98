-- The slot, the keys and the exports are the table.
use Rattle.std.proofs.Common.{◌≡◌, ◌∙◌, ◌++◌, ◌∷◌, [], length, map, ap, sym}
use Rattle.std.proofs.lemmas.List.{length-map}
use Rattle.pef_format.specs.Exports.{export_seen}
use Rattle.pef_hash.specs.Exports.{slot_word}
use Rattle.pef_write.specs.declared.field.Field.TheVariants.{Word}
use Rattle.pef_write.specs.Fields.{spelled}
use Rattle.pef_write.specs.Loaders.{export_fields}
use Rattle.pef_write.proofs.Fields.{from_nothing}
use Rattle.pef_write.proofs.NumberedLemmas.{table_whole}
use Rattle.pef_write.proofs.exports.put_table.Goals as goal

pub returns-clause-table : goal.returns-clause-table
returns-clause-table c =
    let es = c.args.exports.now in
    let slot = c.slot_of.ensures ∙ ap (λ n. slot_word n 0) (sym (length-map es export_seen)) in
    let first = from_nothing c.args.table.now.items _ _ c.in_ok-put_fields.ensures c.requires.first ∙ ap (λ w. spelled (Word w ∷ [])) slot in
    let third = c.in_ok-put_exports.ensures.entries ∙ ap (λ z. c.put_keys.new.out.items ++ spelled (export_fields (length z) (map export_seen es))) c.requires.none in
    table_whole (map export_seen es) c.put_fields.new.out.items c.put_keys.new.out.items c.put_exports.new.out.items first c.in_ok-put_keys.ensures third
