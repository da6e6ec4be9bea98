-- A row that isn't cut and those after it, or one that is, which is the last.
use Rattle.std.proofs.Common.{◌∙◌, sym, ap}
use Rattle.pef_words.specs.Refusals.{result_map}
use Rattle.mac_resources.specs.References.{list_count}
use Rattle.mac_resources.specs.Views.{fork_seen, resource_seen}
use Rattle.mac_resources.proofs.ListLemmas.{left-error, left-row}
use Rattle.mac_resources.proofs.resources.Resources.next_row.Goals as goal

pub returns-in-Ok : goal.returns-in-Ok
returns-in-Ok c =
    let s = c.args.self.now in
    let here = ap (result_map resource_seen) c.in-Ok.is in
    rw here (left-row (fork_seen s.fork) s.list s.row (list_count s.list.kind) (resource_seen c.in-Ok.field-0) _ c.requires (sym c.resource_at-next.ensures ∙ here))

pub returns-in-Err : goal.returns-in-Err
returns-in-Err c =
    let s = c.args.self.now in
    let here = ap (result_map resource_seen) c.in-Err.is in
    rw (here, c.count-self.ensures) (left-error (fork_seen s.fork) s.list s.row (list_count s.list.kind) c.in-Err.field-0 _ c.requires (sym c.resource_at-next.ensures ∙ here))
