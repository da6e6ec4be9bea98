-- Each container sends its text, and is counted.
use Rattle.std.proofs.Common.{◌==◌, ◌∙◌, List, ℕ, ap, refl, subst}
use Rattle.cfm_members.specs.Search.{containers_in}
use Rattle.cfm_members.specs.Views.{places_left}
use Rattle.pef_ports.proofs.Laws.Sending.{Sends-short}
use Rattle.mac_report.specs.Containers.{IsRowOf, Steps, rest_for, row_text, tallied}
use Rattle.mac_report.specs.Views.{row_seen}
use Rattle.mac_report.proofs.ContainerLemmas.{no_value, walked-all, walked-more, walked-nothing, walked-short}
use Rattle.mac_report.proofs.containers.print_contents.Goals as goal

pub loop-place-init : goal.loop-place-init
loop-place-init g c =
    let bytes = c.args.contents.now.bytes.now in
    let left_is = ap places_left c.into_iter-place-iterator.ensures.into_iter_gives ∙ c.new-place-items.ensures.places in
    rw (c.new-tally.ensures, left_is) (walked-nothing c.args.form bytes (g.W.Sink.stream c.args.out.now) c.args.page.now.items (containers_in bytes 0))

pub returns-in_err-print : goal.returns-in_err-print
returns-in_err-print g c =
    let at = c.loop-place in
    let form = c.args.form in
    let bytes = c.args.contents.now.bytes.now in
    let row = row_seen c.read_row-row.result in
    let here = row_text form (at.tally.turn.containers == 0) row in
    let next = tallied at.tally (rest_for bytes at.tally.turn c.in-Some.place) row in
    let steps : Steps form bytes at.tally c.in-Some.place here next = record { row = row; is = subst (λ (rest : List ℕ). IsRowOf rest at.tally.turn c.in-Some.place row) c.rest_of-rest.ensures c.read_row-row.ensures; printed = refl; counted = refl } in
    let w = walked-short c.in-Some.place (places_left c.next.new.self) here next at.invariant c.in-Some.ensures.steps steps c.in_err-print.ensures in
    (w.0, w.1, w.2, Sends-short _ c.from_residual.result _ c.from_residual.ensures.1 w.3, no_value _ _ c.from_residual.result c.from_residual.ensures.1)

pub loop-place-preserved-in_ok-print : goal.loop-place-preserved-in_ok-print
loop-place-preserved-in_ok-print g c =
    let at = c.loop-place in
    let form = c.args.form in
    let bytes = c.args.contents.now.bytes.now in
    let row = row_seen c.read_row-row.result in
    let here = row_text form (at.tally.turn.containers == 0) row in
    let next = tallied at.tally (rest_for bytes at.tally.turn c.in-Some.place) row in
    let steps : Steps form bytes at.tally c.in-Some.place here next = record { row = row; is = subst (λ (rest : List ℕ). IsRowOf rest at.tally.turn c.in-Some.place row) c.rest_of-rest.ensures c.read_row-row.ensures; printed = refl; counted = refl } in
    let counted = c.with_row-tally.ensures ∙ ap (λ rest. tallied at.tally rest row) c.rest_of-rest.ensures in
    rw counted (walked-more c.in-Some.place (places_left c.next.new.self) here next at.invariant c.in-Some.ensures.steps steps c.in_ok-print.ensures)

pub loop-place-preserved : goal.loop-place-preserved
loop-place-preserved g c =
    let at = c.loop-place in
    let form = c.args.form in
    let bytes = c.args.contents.now.bytes.now in
    let row = row_seen c.read_row-row.result in
    let here = row_text form (at.tally.turn.containers == 0) row in
    let next = tallied at.tally (rest_for bytes at.tally.turn c.in-Some.place) row in
    let steps : Steps form bytes at.tally c.in-Some.place here next = record { row = row; is = subst (λ (rest : List ℕ). IsRowOf rest at.tally.turn c.in-Some.place row) c.rest_of-rest.ensures c.read_row-row.ensures; printed = refl; counted = refl } in
    let counted = c.with_row-tally.ensures ∙ ap (λ rest. tallied at.tally rest row) c.rest_of-rest.ensures in
    rw counted (walked-more c.in-Some.place (places_left c.next.new.self) here next at.invariant c.in-Some.ensures.steps steps c.in_ok-print.ensures)

pub returns : goal.returns
returns g c =
    let at = c.loop-place in
    let w = walked-all at.invariant c.in-None.ensures.steps.0 in
    (w.0, at.tally, w.1, w.2, refl)
