-- Each fragment sends its line, in the order in which the routines run.
use Rattle.std.proofs.Common.{◌≡◌, ◌+◌, ◌++◌, List, ℕ, get_or, sym, subst}
use Rattle.pef_ports.proofs.Laws.Sending.{IsSentUpTo, Sends-short, sent-all, sent-nothing, sent-piece, sent-short}
use Rattle.pef_tool.specs.Kept.Routines.{routine_text, routines_text}
use Rattle.pef_tool.proofs.LoadedLemmas.{routines-end, routines-left, routines-next, routines-start}
use Rattle.pef_tool.proofs.loaded.print_routines.Goals as goal

pub loop-i-init : goal.loop-i-init
loop-i-init g c =
    let out = g.W.Sink.stream c.args.out.now in
    let page = c.args.page.now.items in
    let text = routines_text c.args.routine c.args.loaded.now.context c.args.loaded.now.connection.0 c.args.order.now in
    let P : List ℕ → Type 0 = λ left. IsSentUpTo out out page page text left in
    subst P (sym (routines-start c.args.routine c.args.loaded.now.context c.args.loaded.now.connection.0 c.args.order.now)) (sent-nothing out page text)

pub returns-in_err-print_routine : goal.returns-in_err-print_routine
returns-in_err-print_routine g c =
    let at = c.loop-i in
    let r = c.args.routine in
    let s = c.args.loaded.now.context in
    let n = c.args.loaded.now.connection.0 in
    let order = c.args.order.now in
    let rest = routines-left r s n order (at.i + 1) in
    let P : ℕ → Type 0 = λ place. routines-left r s n order at.i ≡ routine_text r s n (get_or order place 0) ++ rest in
    let next : P c.place.result = subst P (sym c.place.ensures.place) (routines-next r s n order at.i c.loop-i-test.true) in
    Sends-short _ c.from_residual.result _ c.from_residual.ensures.1 (sent-short rest at.invariant next c.in_err-print_routine.ensures)

pub loop-i-preserved : goal.loop-i-preserved
loop-i-preserved g c =
    let at = c.loop-i in
    let r = c.args.routine in
    let s = c.args.loaded.now.context in
    let n = c.args.loaded.now.connection.0 in
    let order = c.args.order.now in
    let rest = routines-left r s n order (at.i + 1) in
    let P : ℕ → Type 0 = λ place. routines-left r s n order at.i ≡ routine_text r s n (get_or order place 0) ++ rest in
    let next : P c.place.result = subst P (sym c.place.ensures.place) (routines-next r s n order at.i c.loop-i-test.true) in
    sent-piece rest at.invariant next c.in_ok-print_routine.ensures

pub returns : goal.returns
returns g c = sent-all c.loop-i.invariant (routines-end c.args.routine c.args.loaded.now.context c.args.loaded.now.connection.0 c.args.order.now c.loop-i.i c.loop-i-test.false)
