-- One more name is listed. At the end the bytes and the lengths are those of all names.
use Rattle.std.proofs.Common.{◌∙◌, ◌+◌, ◌∷◌, [], length, drop, map, option_map, ap, ap₂, sym, arith}
use Rattle.std.proofs.lemmas.Option.{slice_get_within}
use Rattle.std.specs.List.{sum}
use Rattle.pef_hash.specs.Build.{built, names_in}
use Rattle.pef_format.specs.Exports.{Export, export_seen}
use Rattle.pef_script.specs.Script.{export_names}
use Rattle.pef_words.proofs.Laws.Lists.{drop-here}
use Rattle.pef_write.proofs.ExportNames.{all_joined, joined, names_in-joined, sum-joined}
use Rattle.pef_write.proofs.Fields.{one_more}
use Rattle.pef_write.proofs.Listing.{found-as}
use Rattle.pef_write.proofs.export_table.export_table.Goals as goal

-- one export more is there
pub overflow_add-k : goal.overflow_add-k
overflow_add-k c =
    let s = c.args.script.now in
    omega (arith, slice_get_within s.exports c.exports.k (export_seen c.in-Some.export) (sym c.in-Some.ensures), c.requires.exports.count)

pub exports-smaller : goal.exports-smaller
exports-smaller c =
    let s = c.args.script.now in
    omega (arith, slice_get_within s.exports c.exports.k (export_seen c.in-Some.export) (sym c.in-Some.ensures))

pub exports-preserved : goal.exports-preserved
exports-preserved c =
    let names = export_names c.args.script.now in
    let k = c.exports.k in
    let name = c.in-Some.export.name.now in
    let found = found-as (λ (symbol : Export). symbol.name) c.args.script.now.exports k _ (ap (option_map (λ (symbol : Export). symbol.name)) (sym (sym c.in-Some.ensures))) in
    let here = drop-here names k name found in
    record {
      names = one_more c.exports.names.items name c.extend_from_slice.new.self.items _ (joined (drop (k + 1) names)) _ c.in_ok-extend_from_slice.ensures.items (ap joined here) c.exports.invariant.names;
      lengths = one_more c.exports.lengths.items (length name ∷ []) c.push.new.self.items _ (map length (drop (k + 1) names)) _ c.in_ok-push.ensures.items (ap (map length) here) c.exports.invariant.lengths;
    }

pub build-requires-clause-whole : goal.build-requires-clause-whole
build-requires-clause-whole c =
    let names = export_names c.args.script.now in
    let none = found-as (λ (symbol : Export). symbol.name) c.args.script.now.exports c.exports.k _ (ap (option_map (λ (symbol : Export). symbol.name)) (sym (sym c.in_default.ensures))) in
    let all = all_joined names c.exports.k c.exports.names.items c.exports.lengths.items none c.exports.invariant.names c.exports.invariant.lengths in
    ap sum (c.deref-2.ensures.value ∙ all.1) ∙ sum-joined names ∙ ap length (sym (c.deref.ensures.value ∙ all.0))

pub returns : goal.returns
returns c =
    let names = export_names c.args.script.now in
    let none = found-as (λ (symbol : Export). symbol.name) c.args.script.now.exports c.exports.k _ (ap (option_map (λ (symbol : Export). symbol.name)) (sym (sym c.in_default.ensures))) in
    let all = all_joined names c.exports.k c.exports.names.items c.exports.lengths.items none c.exports.invariant.names c.exports.invariant.lengths in
    c.in_ok-build.ensures ∙ ap₂ (λ bytes lengths. built (names_in bytes lengths)) (c.deref.ensures.value ∙ all.0) (c.deref-2.ensures.value ∙ all.1) ∙ ap built (names_in-joined names)
