-- Each unit sends its character.
use Rattle.std.proofs.Common.{ap}
use Rattle.std.proofs.lemmas.List.{at_drop_more, drop_all}
use Rattle.pef_rows.specs.Unicode.{units_string}
use Rattle.pef_ports.proofs.Laws.Sending.{Sends-short, sent-all, sent-nothing, sent-piece, sent-short}
use Rattle.pef_rows.proofs.unicode.print_units.Goals as goal

pub loop-unit-init : goal.loop-unit-init
loop-unit-init g c = sent-nothing (g.W.Sink.stream c.args.out.now) c.args.page.now.items (units_string c.args.units.now)

pub loop-unit-preserved : goal.loop-unit-preserved
loop-unit-preserved g c = sent-piece _ c.loop-unit.invariant (at_drop_more units_string c.args.units.now c.loop-unit.unit-index 0 c.loop-unit-test.true) c.in_ok-print_unit.ensures

pub returns-in_err-print_unit : goal.returns-in_err-print_unit
returns-in_err-print_unit g c =
    Sends-short _ c.from_residual.result _ c.from_residual.ensures.1 (sent-short _ c.loop-unit.invariant (at_drop_more units_string c.args.units.now c.loop-unit.unit-index 0 c.loop-unit-test.true) c.in_err-print_unit.ensures)

pub returns : goal.returns
returns g c = sent-all c.loop-unit.invariant (ap units_string (drop_all c.loop-unit.unit-index c.args.units.now c.loop-unit-test.false))
