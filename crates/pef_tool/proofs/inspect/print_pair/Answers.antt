-- The report on the file, and then that on its companion.
use Rattle.std.proofs.Common.{◌++◌, ◌+◌, ◌-◌, ◌^◌, ◌∙◌, ℕ, ap₂, min, option_map, refl}
use Rattle.pef_ports.proofs.Laws.Sending.{Prints-then, Sends-short, StopsShort-longer, StopsShort-then}
use Rattle.pef_tool.specs.Inspect.{IsPairPrinted}
use Rattle.pef_tool.specs.Kept.Inspecting.{companion_seen, read_seen}
use Rattle.pef_tool.proofs.InspectLemmas.{no_value, some_beside}
use Rattle.pef_tool.proofs.inspect.print_pair.Goals as goal

pub returns-in_err-errors : goal.returns-in_err-errors
returns-in_err-errors g c =
    let pair = c.args.pair.now in
    let path = pair.named.path.now in
    let read = read_seen pair.named.bytes in
    let companion = option_map (companion_seen path) pair.companion in
    let e = c.in_err-errors.ensures in
    let w = some_beside c.args.form path read companion in
    let all = min (e.1 + w.1) (2 ^ 64 - 1) in
    let whole : IsPairPrinted c.args.form path read companion (e.0 ++ w.0) all =
    record { own = e.0; own_errors = e.1; beside = w.0; beside_errors = w.1; first = e.2; second = w.2; texts = refl; sum = refl } in
    let r = c.from_residual in
    (e.0 ++ w.0, all, whole, Sends-short _ r.result _ r.ensures.1 (StopsShort-longer w.0 e.3), no_value _ _ r.result r.ensures.1)

pub returns-in_err-more : goal.returns-in_err-more
returns-in_err-more g c =
    let pair = c.args.pair.now in
    let path = pair.named.path.now in
    let read = read_seen pair.named.bytes in
    let companion = option_map (companion_seen path) pair.companion in
    let e = c.in_ok-errors.ensures in
    let m = c.in_err-more.ensures in
    let all = min (e.1 + m.1) (2 ^ 64 - 1) in
    let whole : IsPairPrinted c.args.form path read companion (e.0 ++ m.0) all =
    record { own = e.0; own_errors = e.1; beside = m.0; beside_errors = m.1; first = e.2; second = m.2; texts = refl; sum = refl } in
    let r = c.from_residual-in_err-more in
    (e.0 ++ m.0, all, whole, Sends-short _ r.result _ r.ensures.1 (StopsShort-then e.3 m.3), no_value _ _ r.result r.ensures.1)

pub returns : goal.returns
returns g c =
    let pair = c.args.pair.now in
    let path = pair.named.path.now in
    let read = read_seen pair.named.bytes in
    let companion = option_map (companion_seen path) pair.companion in
    let e = c.in_ok-errors.ensures in
    let m = c.in_ok-more.ensures in
    let all = min (e.1 + m.1) (2 ^ 64 - 1) in
    let whole : IsPairPrinted c.args.form path read companion (e.0 ++ m.0) all =
    record { own = e.0; own_errors = e.1; beside = m.0; beside_errors = m.1; first = e.2; second = m.2; texts = refl; sum = refl } in
    (e.0 ++ m.0, all, whole, Prints-then e.3 m.3, c.saturating_add.ensures ∙ ap₂ (λ (a b : ℕ). min (a + b) (2 ^ 64 - 1)) e.4 m.4)
