-- The next import of the way is one of the order.
use Rattle.std.proofs.Common.{Some, Ok, arith}
use Rattle.cfm_closure.specs.Kept.Resolutions.{meant}
use Rattle.cfm_closure.proofs.KnownLemmas.{are_known-more, keeps-more, keeps-none, on_way-still}
use Rattle.cfm_closure.proofs.resolve.note_way.Goals as goal

pub loop-import-init : goal.loop-import-init
loop-import-init c = record { keeps = keeps-none c.args.bindings.now; known = λ i below. absurd (omega arith) }

pub note-requires-clause-place : goal.note-requires-clause-place
note-requires-clause-place c = (on_way-still c.args.bindings.now c.loop-import.bindings (Some (Ok (meant c.args.resolution))) c.args.way.now c.loop-import.import-index c.loop-import.invariant.keeps c.requires c.loop-import-test.true).place

pub note-requires-clause-import : goal.note-requires-clause-import
note-requires-clause-import c = (on_way-still c.args.bindings.now c.loop-import.bindings (Some (Ok (meant c.args.resolution))) c.args.way.now c.loop-import.import-index c.loop-import.invariant.keeps c.requires c.loop-import-test.true).import

pub note-requires-clause-right : goal.note-requires-clause-right
note-requires-clause-right c = (on_way-still c.args.bindings.now c.loop-import.bindings (Some (Ok (meant c.args.resolution))) c.args.way.now c.loop-import.import-index c.loop-import.invariant.keeps c.requires c.loop-import-test.true).leads

pub loop-import-preserved : goal.loop-import-preserved
loop-import-preserved c = record {
  keeps = keeps-more c.args.bindings.now c.loop-import.bindings c.note.new.self c.loop-import.invariant.keeps c.note.ensures.keeps;
  known = are_known-more c.loop-import.bindings.rows c.note.new.self.rows c.args.way.now c.loop-import.import-index c.note.ensures.keeps.known c.loop-import.invariant.known c.note.ensures.known;
}
