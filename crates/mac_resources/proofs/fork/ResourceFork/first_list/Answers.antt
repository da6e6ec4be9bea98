-- A type with another code is passed over, and the first with the code ends the search.
use Rattle.std.proofs.Common.{◌∙◌, ◌<◌, sym, arith}
use Rattle.pef_words.proofs.Laws.Refusals.{first_among-here, first_among-next}
use Rattle.mac_resources.specs.Resources.{list_here}
use Rattle.mac_resources.specs.Views.{fork_seen}
use Rattle.mac_resources.proofs.fork.ResourceFork.first_list.Goals as goal

pub loop-row-preserved : goal.loop-row-preserved
loop-row-preserved c =
    let under : c.loop-row.row < c.args.self.type_count = omega arith in
    sym (first_among-next (list_here (fork_seen c.args.self) c.args.type_code) _ _ under (sym c.in-None.ensures)) ∙ c.loop-row.invariant

pub returns-in-Some : goal.returns-in-Some
returns-in-Some c =
    let under : c.loop-row.row < c.args.self.type_count = omega arith in
    sym (first_among-here (list_here (fork_seen c.args.self) c.args.type_code) _ _ c.in-Some.list under (sym c.list_if.ensures ∙ c.in-Some.is)) ∙ c.loop-row.invariant
