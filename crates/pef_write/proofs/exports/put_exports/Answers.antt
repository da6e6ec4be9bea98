-- One more entry and one more name are written, and at the end none is left.
use Rattle.std.proofs.Common.{◌≡◌, ◌∙◌, ◌+◌, ◌<◌, ◌≤◌, ◌^◌, ◌++◌, drop, length, length-append, map, ap, arith}
use Rattle.pef_format.specs.Exports.{export_seen}
use Rattle.pef_write.proofs.Fields.{none_left, one_more}
use Rattle.pef_write.proofs.NumberedLemmas.{name-here, names-end, names_length, names_of, numbered-here, numbered-end, seen-fits}
use Rattle.pef_write.proofs.exports.put_exports.Goals as goal

pub put_export-requires-clause-fit : goal.put_export-requires-clause-fit
put_export-requires-clause-fit c =
    let under : c.loop-export.export-index < length c.args.exports.now = omega arith in
    seen-fits c.args.exports.now c.loop-export.export-index _ under c.requires.fit.each

pub put_export-requires-clause-room : goal.put_export-requires-clause-room
put_export-requires-clause-room c =
    let rest = names_of (map export_seen (drop c.loop-export.export-index c.args.exports.now)) in
    let all = names_of (map export_seen c.args.exports.now) in
    omega (arith, ap length c.loop-export.invariant.names, length-append c.loop-export.strings.items rest, length-append c.args.strings.now.items all, names_length (map export_seen c.args.exports.now), c.requires.room)

pub loop-export-preserved : goal.loop-export-preserved
loop-export-preserved c =
    let es = c.args.exports.now in
    let i = c.loop-export.export-index in
    let under : i < length es = omega arith in
    let name = c.in_ok-put_export.ensures.name in
    let size = ap length name ∙ length-append c.loop-export.strings.items _ in
    record {
      names = one_more c.loop-export.strings.items _ c.put_export.new.strings.items _ _ _ name (name-here es i _ under) c.loop-export.invariant.names;
      entries = rw size (one_more c.loop-export.out.items _ c.put_export.new.out.items _ _ _ c.in_ok-put_export.ensures.entry (numbered-here (length c.loop-export.strings.items) es i _ under) c.loop-export.invariant.entries);
    }

pub returns-clause-entries : goal.returns-clause-entries
returns-clause-entries c =
    let past : length c.args.exports.now ≤ c.loop-export.export-index = omega arith in
    none_left c.loop-export.out.items _ _ (numbered-end (length c.loop-export.strings.items) c.args.exports.now c.loop-export.export-index past) c.loop-export.invariant.entries

pub returns-clause-names : goal.returns-clause-names
returns-clause-names c =
    let past : length c.args.exports.now ≤ c.loop-export.export-index = omega arith in
    none_left c.loop-export.strings.items _ _ (names-end c.args.exports.now c.loop-export.export-index past) c.loop-export.invariant.names
