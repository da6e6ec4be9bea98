-- The fragments, the initialization routines, the main entry, and the termination routines.
use Rattle.std.proofs.Common.{List, ℕ, codes, ap, subst}
use Rattle.pef_ports.specs.Sent.{Sends}
use Rattle.pef_ports.proofs.Laws.Sending.{Prints-then, Sends-short, Sends-then, StopsShort-longer, StopsShort-then, same_printed, same_short}
use Rattle.pef_tool.specs.Fragment.{entry_text}
use Rattle.pef_tool.specs.Loaded.{fragments_text, init_order_in, inits_text, main_in, terms_text}
use Rattle.pef_tool.proofs.loaded.print_loaded.Goals as goal

pub returns-in_err-print_fragments : goal.returns-in_err-print_fragments
returns-in_err-print_fragments g c =
    let s = c.args.loaded.now.context in
    let n = c.args.loaded.now.connection.0 in
    let order = init_order_in s n in
    let short = same_short (ap (fragments_text s) c.order_of.ensures) c.in_err-print_fragments.ensures in
    Sends-short _ c.from_residual.result _ c.from_residual.ensures.1 (StopsShort-longer (terms_text s n order) (StopsShort-longer (entry_text (codes "main ") (main_in s n)) (StopsShort-longer (inits_text s n order) short)))

pub returns-in_err-print_routines : goal.returns-in_err-print_routines
returns-in_err-print_routines g c =
    let s = c.args.loaded.now.context in
    let n = c.args.loaded.now.connection.0 in
    let order = init_order_in s n in
    let fragments = same_printed (ap (fragments_text s) c.order_of.ensures) c.in_ok-print_fragments.ensures in
    let short = StopsShort-then fragments (same_short (ap (inits_text s n) c.init_order_of-init_order.ensures) c.in_err-print_routines.ensures) in
    Sends-short _ c.from_residual-in_err-print_routines.result _ c.from_residual-in_err-print_routines.ensures.1 (StopsShort-longer (terms_text s n order) (StopsShort-longer (entry_text (codes "main ") (main_in s n)) short))

pub returns-in_err-print_main : goal.returns-in_err-print_main
returns-in_err-print_main g c =
    let s = c.args.loaded.now.context in
    let n = c.args.loaded.now.connection.0 in
    let order = init_order_in s n in
    let fragments = same_printed (ap (fragments_text s) c.order_of.ensures) c.in_ok-print_fragments.ensures in
    let inits = Prints-then fragments (same_printed (ap (inits_text s n) c.init_order_of-init_order.ensures) c.in_ok-print_routines.ensures) in
    let line = ap (entry_text (codes "main ")) c.main.ensures in
    let short = StopsShort-then inits (same_short line c.in_err-print_main.ensures) in
    Sends-short _ c.from_residual-in_err-print_main.result _ c.from_residual-in_err-print_main.ensures.1 (StopsShort-longer (terms_text s n order) short)

pub returns : goal.returns
returns g c =
    let s = c.args.loaded.now.context in
    let n = c.args.loaded.now.connection.0 in
    let order = init_order_in s n in
    let fragments = same_printed (ap (fragments_text s) c.order_of.ensures) c.in_ok-print_fragments.ensures in
    let inits = Prints-then fragments (same_printed (ap (inits_text s n) c.init_order_of-init_order.ensures) c.in_ok-print_routines.ensures) in
    let line = ap (entry_text (codes "main ")) c.main.ensures in
    let main = Prints-then inits (same_printed line c.in_ok-print_main.ensures) in
    let P : List ℕ → Type 0 = λ t. Sends c.print_routines-2.result (g.W.Sink.stream c.print_main.new.out) (g.W.Sink.stream c.print_routines-2.new.out) c.print_main.new.page.items c.print_routines-2.new.page.items t in
    Sends-then c.print_routines-2.result (g.W.Sink.stream c.print_routines-2.new.out) c.print_routines-2.new.page.items (terms_text s n order) main
    (subst P (ap (terms_text s n) c.init_order_of-init_order.ensures) c.print_routines-2.ensures)
