-- One more entry and one more name are written, and at the end none is left.
use Rattle.std.proofs.Common.{◌≡◌, ◌∙◌, ◌+◌, ◌<◌, ◌≤◌, ◌^◌, ◌++◌, get_or, length, length-append, ap, sym, arith}
use Rattle.std.proofs.lemmas.Option.{get_or_from_slice_get}
use Rattle.pef_format.specs.Exports.{Export, export_seen}
use Rattle.pef_format.proofs.Laws.{class-small}
use Rattle.pef_script.specs.WellFormed.{ExportHolds, totals_of}
use Rattle.pef_words.proofs.Laws.Lists.{all-get}
use Rattle.pef_write.specs.Fields.{spelled}
use Rattle.pef_write.specs.Linked.{no_export}
use Rattle.pef_write.specs.Loaders.{export_entry}
use Rattle.pef_write.proofs.EntrySteps.{export-here, export_names-end, export_names-here, export_names_at, exports-end, within}
use Rattle.pef_write.proofs.Fields.{none_left, one_more}
use Rattle.pef_write.proofs.LinkedTables.{export_fits}
use Rattle.pef_write.proofs.entries.put_exports.Goals as goal

pub overflow_cast-len : goal.overflow_cast-len
overflow_cast-len c =
    let room = within c.loop-place.strings.items _ c.args.strings.now.items (export_names_at c.args.script.now.exports c.args.order.now) (2 ^ 24) c.loop-place.invariant.names c.requires.strings in
    omega (arith, room)

pub export_entry-requires-clause-at : goal.export_entry-requires-clause-at
export_entry-requires-clause-at c =
    let room = within c.loop-place.strings.items _ c.args.strings.now.items (export_names_at c.args.script.now.exports c.args.order.now) (2 ^ 24) c.loop-place.invariant.names c.requires.strings in
    omega (arith, room)

pub export_entry-requires-clause-class : goal.export_entry-requires-clause-class
export_entry-requires-clause-class c =
    let s = c.args.script.now in
    class-small (export_seen c.in-Some.export).fields.class (all-get (ExportHolds (totals_of s.sections) (length s.imports)) s.exports (get_or c.args.order.now c.loop-place.place-index 0) (export_seen c.in-Some.export) c.requires.holds.exports.each (sym c.in-Some.ensures)).class

pub export_entry-requires-clause-section : goal.export_entry-requires-clause-section
export_entry-requires-clause-section c =
    let s = c.args.script.now in
    export_fits s (get_or c.args.order.now c.loop-place.place-index 0) (export_seen c.in-Some.export) c.requires.holds (sym c.in-Some.ensures)

pub loop-place-preserved : goal.loop-place-preserved
loop-place-preserved c =
    let s = c.args.script.now in
    let order = c.args.order.now in
    let i = c.loop-place.place-index in
    let under : i < length order = omega arith in
    let e = export_seen c.in-Some.export in
    let place = get_or order i 0 in
    let there : get_or s.exports place no_export ≡ e = get_or_from_slice_get s.exports place e no_export (sym c.in-Some.ensures) in
    let at : c.len.result ≡ length c.loop-place.strings.items = omega arith in
    let name = c.in_ok-extend_from_slice.ensures.items ∙ ap (λ (x : Export). c.loop-place.strings.items ++ x.name) (sym there) in
    let size : length c.extend_from_slice.new.self.items ≡ length c.loop-place.strings.items + length (get_or s.exports place no_export).name = ap length name ∙ length-append c.loop-place.strings.items _ in
    let entry = c.in_ok-put_fields.ensures ∙ ap (λ f. c.loop-place.out.items ++ spelled f) (c.export_entry.ensures ∙ ap (λ n. export_entry n e) at ∙ ap (λ (x : Export). export_entry (length c.loop-place.strings.items) x) (sym there)) in
    record {
      names = one_more c.loop-place.strings.items _ c.extend_from_slice.new.self.items _ _ _ name (export_names-here s.exports order i under) c.loop-place.invariant.names;
      entries = rw size (one_more c.loop-place.out.items _ c.put_fields.new.out.items _ _ _ entry (export-here (length c.loop-place.strings.items) s.exports order i under) c.loop-place.invariant.entries);
    }

pub returns-clause-entries : goal.returns-clause-entries
returns-clause-entries c =
    let past : length c.args.order.now ≤ c.loop-place.place-index = omega arith in
    none_left c.loop-place.out.items _ _ (exports-end (length c.loop-place.strings.items) c.args.script.now.exports c.args.order.now c.loop-place.place-index past) c.loop-place.invariant.entries

pub returns-clause-names : goal.returns-clause-names
returns-clause-names c =
    let past : length c.args.order.now ≤ c.loop-place.place-index = omega arith in
    none_left c.loop-place.strings.items _ _ (export_names-end c.args.script.now.exports c.args.order.now c.loop-place.place-index past) c.loop-place.invariant.names
