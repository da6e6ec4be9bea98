-- There is room for the names, and the table is the one of the tables.
use Rattle.std.proofs.Common.{◌∙◌, ◌<◌, ◌++◌, length, map, ap, ap₂, subst, sym, arith}
use Rattle.std.specs.List.{All, flat_map}
use Rattle.pef_hash.specs.Build.{BuiltTable}
use Rattle.pef_format.specs.Exports.{Export}
use Rattle.pef_write.specs.declared.field.Field.TheVariants.{Word}
use Rattle.pef_write.specs.Fields.{spelled}
use Rattle.pef_write.specs.Linked.{exports_at}
use Rattle.pef_write.specs.Loaders.{export_fields}
use Rattle.pef_write.proofs.ExportNames.{order_below}
use Rattle.pef_write.proofs.GatherLemmas.{table_is}
use Rattle.pef_write.proofs.loader.put_table.Goals as goal

pub put_exports-requires-clause-order : goal.put_exports-requires-clause-order
put_exports-requires-clause-order c =
    let s = c.args.script.now in
    subst (All (λ e. e < length s.exports)) (sym (c.deref-3.ensures.value ∙ ap (λ (t : BuiltTable). t.order) (c.hash.view_is ∙ c.requires.hash))) (order_below s)

pub put_exports-requires-clause-strings : goal.put_exports-requires-clause-strings
put_exports-requires-clause-strings c =
    let s = c.args.script.now in
    let order = c.deref-3.ensures.value ∙ ap (λ (t : BuiltTable). t.order) (c.hash.view_is ∙ c.requires.hash) in
    omega (arith, ap (λ o. length (flat_map (λ (e : Export). e.name) (exports_at s.exports o))) order, c.requires.room)

pub returns-clause-table : goal.returns-clause-table
returns-clause-table c = λ programs.
    let s = c.args.script.now in
    let table = c.hash.view_is ∙ c.requires.hash in
    let order = c.deref-3.ensures.value ∙ ap (λ (t : BuiltTable). t.order) table in
    let slots = c.in_ok-put_words.ensures ∙ ap₂ (λ z words. z ++ spelled (map Word words)) c.requires.first (c.deref.ensures.value ∙ ap (λ (t : BuiltTable). t.slots) table) in
    let keys = c.in_ok-put_words-2.ensures ∙ ap (λ words. c.put_words.new.out.items ++ spelled (map Word words)) (c.deref-2.ensures.value ∙ ap (λ (t : BuiltTable). t.keys) table) in
    let last = c.in_ok-put_exports.ensures.entries ∙ ap (λ o. c.put_words-2.new.out.items ++ spelled (export_fields (length c.args.strings.now.items) (exports_at s.exports o))) order in
    table_is s programs c.args.strings.now.items c.put_words.new.out.items c.put_words-2.new.out.items c.put_exports.new.out.items c.requires.names slots keys last

pub returns-clause-names : goal.returns-clause-names
returns-clause-names c =
    let s = c.args.script.now in
    let order = c.deref-3.ensures.value ∙ ap (λ (t : BuiltTable). t.order) (c.hash.view_is ∙ c.requires.hash) in
    c.in_ok-put_exports.ensures.names ∙ ap (λ o. c.args.strings.now.items ++ flat_map (λ (e : Export). e.name) (exports_at s.exports o)) order
