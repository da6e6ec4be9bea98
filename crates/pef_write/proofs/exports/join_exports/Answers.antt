-- The header, the names and the table are the loader section.
use Rattle.std.proofs.Common.{◌≡◌, ◌∙◌, ◌+◌, ◌++◌, length, length-append, map, ap, ap₂, sym, arith}
use Rattle.std.specs.Int.{next_multiple_of}
use Rattle.pef_format.specs.Exports.{export_seen}
use Rattle.pef_write.specs.ExportContainers.{export_tables}
use Rattle.pef_write.specs.Fields.{padded, spelled}
use Rattle.pef_write.specs.Loaders.{header_fields}
use Rattle.pef_write.proofs.Fields.{from_nothing, resized}
use Rattle.pef_write.proofs.Loaders.{length-loader_header}
use Rattle.pef_write.proofs.NumberedLemmas.{loader_whole, names_of}
use Rattle.pef_write.proofs.exports.join_exports.Goals as goal

pub returns : goal.returns
returns c =
    let xs = map export_seen c.args.exports.now in
    let t = export_tables xs in
    let header : c.put_fields.new.out.items ≡ spelled (header_fields t) = from_nothing c.in_ok-out.out.items _ _ c.in_ok-put_fields.ensures c.in_ok-out.ensures.items ∙ ap spelled c.header_fields.ensures in
    let front : c.extend_from_slice.new.self.items ≡ spelled (header_fields t) ++ names_of xs = c.in_ok-extend_from_slice.ensures.items ∙ ap₂ (λ a b. a ++ b) header c.requires.names in
    let len : length c.extend_from_slice.new.self.items ≡ 56 + length c.args.strings.now = ap length c.in_ok-extend_from_slice.ensures.items ∙ length-append c.put_fields.new.out.items c.args.strings.now ∙ ap (λ n. n + length c.args.strings.now) (ap length header ∙ length-loader_header t) in
    let far : c.table_place-from.result ≡ next_multiple_of (length c.extend_from_slice.new.self.items) 4 = c.table_place-from.ensures.after ∙ ap (λ n. next_multiple_of n 4) (sym len) in
    let padding : c.resize.new.self.items ≡ padded 4 (spelled (header_fields t) ++ names_of xs) =
    c.in_ok-resize.ensures.items ∙ resized 4 c.table_place-from.result c.extend_from_slice.new.self.len c.extend_from_slice.new.self.items far (omega arith) ∙ ap (padded 4) front in
    loader_whole xs c.extend_from_slice-2.new.self.items (c.in_ok-extend_from_slice-2.ensures.items ∙ ap₂ (λ a b. a ++ b) padding c.requires.table)
