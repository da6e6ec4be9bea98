use Rattle.pef_reloc.proofs.ActLists.{applied-append}
use Rattle.pef_reloc.proofs.FlatLaws.{applied-trace}
use Rattle.pef_reloc.proofs.theorems.acts_in_turn.Goals as goal

pub returns : goal.returns
returns c = record { behind = applied-append; additions = applied-trace }
