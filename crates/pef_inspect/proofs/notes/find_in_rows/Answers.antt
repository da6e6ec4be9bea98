-- The notes on the rows, and then those on zero rows.
use Rattle.pef_views.specs.PartialViews.{partly}
use Rattle.pef_loader.specs.PartialViews.{partly_loaded}
use Rattle.pef_inspect.specs.Oddities.{loader_notes}
use Rattle.pef_inspect.specs.Zeros.{zero_notes}
use Rattle.pef_inspect.proofs.Taking.{taken-two}
use Rattle.pef_inspect.proofs.notes.find_in_rows.Goals as goal

pub returns : goal.returns
returns g c =
    let p = partly c.args.container.now in
    let l = partly_loaded c.args.loader.now in
    let taken = g.S.Findings.taken in
    taken-two (taken c.args.sink.now) (taken c.find_in_loader.new.sink) (taken c.find_zero_rows.new.sink) (loader_notes c.args.limits p l) (zero_notes p l) c.in_ok-find_in_loader.ensures c.in_ok-find_zero_rows.ensures
