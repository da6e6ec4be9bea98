-- The notes of a container that was read.
use Rattle.std.proofs.Common.{◌≡◌, Result, Ok, OnOk, subst}
use Rattle.pef_views.specs.Container.{Contained}
use Rattle.pef_views.specs.Partial.{partial_of}
use Rattle.pef_views.specs.PartialViews.{partly}
use Rattle.pef_views.specs.declared.fault.ViewFault.{ViewFault}
use Rattle.pef_inspect.specs.Oddities.{Adds, HasIrregularExports, IrregularOpened, notes_within, opened_notes}
use Rattle.pef_inspect.proofs.notes.find_notes_within.Goals as goal

pub returns-in-Ok : goal.returns-in-Ok
unfolding notes_within HasIrregularExports
returns-in-Ok g c =
    let taken = g.S.Findings.taken in
    let is : Ok (partly c.in-Ok.container) ≡ partial_of c.args.bytes.now = c.in-Ok.ensures in
    let P : Result Contained ViewFault → Type 0 = λ r. OnOk c.find_in_container.result (Adds (taken c.args.sink.now) (taken c.find_in_container.new.sink) (opened_notes c.args.limits r) (IrregularOpened r)) in
    subst P is c.find_in_container.ensures
