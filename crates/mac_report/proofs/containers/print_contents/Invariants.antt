-- The containers so far were sent. Whatever the places left add, all places add both.
use Rattle.cfm_members.specs.Search.{containers_in}
use Rattle.cfm_members.specs.Views.{places_left}
use Rattle.mac_report.proofs.ContainerLemmas.{HasWalked}
use Rattle.mac_report.proofs.containers.print_contents.Given as goal

abbrev pub invariant-loop-place : goal.invariant-loop-place
invariant-loop-place g l = HasWalked l.form l.contents.bytes.now (g.W.Sink.stream l.fn.out) (g.W.Sink.stream l.out) l.fn.page.items l.page.items (containers_in l.contents.bytes.now 0) l.tally (places_left l.place-iterator)
