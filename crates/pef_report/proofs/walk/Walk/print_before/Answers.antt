-- The findings about what comes before, if any are left.
use Rattle.std.proofs.Common.{◌≡◌, [], length, refl, rules, sym}
use Rattle.pef_ports.proofs.Laws.Sending.{Sends-short, sent-all, sent-nothing}
use Rattle.pef_report.proofs.Merging.{none_after, none_before}
use Rattle.pef_report.proofs.walk.Walk.print_before.Goals as goal

pub returns-then-is_empty-clause-sends : goal.returns-then-is_empty-clause-sends
returns-then-is_empty-clause-sends g c =
    let walk = c.args.self.now in
    let none : length walk.left.now ≡ 0 = search rules in
    rw (none_before walk.base c.args.rank walk.left.now none) (sent-all (sent-nothing (g.W.Sink.stream c.args.out.now) c.args.page.now.items []) refl)

pub returns-then-is_empty-clause-passes : goal.returns-then-is_empty-clause-passes
returns-then-is_empty-clause-passes g c =
    let walk = c.args.self.now in
    let none : length walk.left.now ≡ 0 = search rules in
    record { base = refl; reading = refl; left = sym (none_after c.args.rank walk.left.now none) }

pub returns-in_err-print_findings-clause-sends : goal.returns-in_err-print_findings-clause-sends
returns-in_err-print_findings-clause-sends g c = Sends-short _ c.from_residual.result _ c.from_residual.ensures.1 (rw c.split_before.ensures.first at c.in_err-print_findings.ensures)

pub returns-clause-sends : goal.returns-clause-sends
returns-clause-sends g c = rw c.split_before.ensures.first at c.in_ok-print_findings.ensures
