-- The lengths fit, and the pieces make the loader section.
use Rattle.std.proofs.Common.{◌≡◌, ◌∙◌, length, map, ap, sym, arith}
use Rattle.std.specs.Int.{next_multiple_of}
use Rattle.pef_write.specs.Fields.{padded, spelled}
use Rattle.pef_write.specs.Kept.Views.{program_entry}
use Rattle.pef_write.specs.Linked.{script_tables}
use Rattle.pef_write.proofs.Fields.{from_nothing, resized}
use Rattle.pef_write.proofs.Loaders.{front_of, length-unpadded, length-written_loader}
use Rattle.pef_write.proofs.PieceLemmas.{front_is, places_are, table_fits, whole_is, whole_length}
use Rattle.pef_write.proofs.loader.join.Goals as goal

pub find_places-places-requires : goal.find_places-places-requires
find_places-places-requires c =
    let t = script_tables c.args.script.now (map program_entry c.args.pieces.programs.now) in
    omega (arith, whole_length t c.args.pieces c.requires.pieces, length-written_loader t, c.requires.fits)

pub overflow_add-places : goal.overflow_add-places
overflow_add-places c =
    let t = script_tables c.args.script.now (map program_entry c.args.pieces.programs.now) in
    let places = places_are t c.args.pieces c.requires.pieces c.find_places-places.result c.find_places-places.ensures.programs c.find_places-places.ensures.strings c.find_places-places.ensures.exports in
    omega (arith, places.exports, table_fits t c.args.pieces c.requires.pieces c.requires.fits)

pub header_fields-requires-clause-fits : goal.header_fields-requires-clause-fits
header_fields-requires-clause-fits c =
    let t = script_tables c.args.script.now (map program_entry c.args.pieces.programs.now) in
    omega (arith, length-written_loader t, c.requires.fits)

pub header_fields-requires-clause-places : goal.header_fields-requires-clause-places
header_fields-requires-clause-places c =
    let t = script_tables c.args.script.now (map program_entry c.args.pieces.programs.now) in
    places_are t c.args.pieces c.requires.pieces c.find_places-places.result c.find_places-places.ensures.programs c.find_places-places.ensures.strings c.find_places-places.ensures.exports

pub returns : goal.returns
returns c =
    let p = c.args.pieces in
    let t = script_tables c.args.script.now (map program_entry p.programs.now) in
    let are = c.requires.pieces in
    let places = places_are t p are c.find_places-places.result c.find_places-places.ensures.programs c.find_places-places.ensures.strings c.find_places-places.ensures.exports in
    let header = from_nothing c.in_ok-out.out.items _ _ c.in_ok-put_fields.ensures c.in_ok-out.ensures.items ∙ ap spelled c.header_fields.ensures in
    let front = front_is t p are c.put_fields.new.out.items c.extend_from_slice.new.self.items c.put_programs.new.out.items c.extend_from_slice-2.new.self.items header c.in_ok-extend_from_slice.ensures.items c.in_ok-put_programs.ensures c.in_ok-extend_from_slice-2.ensures.items in
    let far : c.find_places-places.result.exports ≡ next_multiple_of (length c.extend_from_slice-2.new.self.items) 4 = places.exports ∙ ap (λ n. next_multiple_of n 4) (sym (ap length front ∙ length-unpadded t)) in
    let padding : c.resize.new.self.items ≡ padded 4 (front_of t) =
    c.in_ok-resize.ensures.items ∙ resized 4 c.find_places-places.result.exports c.extend_from_slice-2.new.self.len c.extend_from_slice-2.new.self.items far (omega arith) ∙ ap (padded 4) front in
    whole_is t p are c.resize.new.self.items c.extend_from_slice-3.new.self.items padding c.in_ok-extend_from_slice-3.ensures.items
