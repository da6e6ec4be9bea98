-- A name without a number is not in the table, so it goes last. Otherwise the names stay.
use Rattle.std.proofs.Common.{map, not, is_some, sym, ap, ◌∙◌}
use Rattle.indexmap.proofs.CallerLemmas.{insert_entry-new, keys-insert_entry-present}
use Rattle.pef_names.specs.declared.name_key.NameKey.{NameKey}
use Rattle.pef_script.specs.Text.Kept.Reader.{names_in}
use Rattle.pef_script.proofs.TextProofs.TableLemmas.{lookup-repeated, names_of_keys, none_if}
use Rattle.pef_script.proofs.text.tables.declare.Goals as goal

pub returns-clause-new : goal.returns-clause-new
returns-clause-new g c =
    lookup-repeated c.args.name.now c.args.table.now.entries 0
    ∙ ap is_some (sym c.in_ok-old.ensures.old)
    ∙ c.is_none.ensures

pub returns-clause-added : goal.returns-clause-added
returns-clause-added g c is_new =
    c.in_ok-old.ensures.entries
    ∙ insert_entry-new _ c.args.table.now (record { bytes = c.args.name }) c.args.value (sym c.in_ok-old.ensures.old ∙ none_if _ (c.is_none.ensures ∙ ap not is_new))

pub returns-clause-kept : goal.returns-clause-kept
returns-clause-kept g c is_known =
    ap names_in c.in_ok-old.ensures.entries
    ∙ names_of_keys _
    ∙ ap (map (λ (k : NameKey). k.bytes.now)) (keys-insert_entry-present _ c.args.table.now (record { bytes = c.args.name }) c.args.value (ap is_some (sym c.in_ok-old.ensures.old) ∙ c.is_none.ensures ∙ ap not is_known))
    ∙ sym (names_of_keys c.args.table.now.entries)
