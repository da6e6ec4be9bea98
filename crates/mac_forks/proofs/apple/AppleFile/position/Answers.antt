-- An entry with another id is passed over.
use Rattle.std.proofs.Common.{◌∙◌, ◌<◌, sym, arith}
use Rattle.pef_words.proofs.Laws.Refusals.{first_among-next}
use Rattle.mac_forks.specs.Apple.{id_here}
use Rattle.mac_forks.proofs.apple.AppleFile.position.Goals as goal

pub loop-i-preserved : goal.loop-i-preserved
loop-i-preserved c =
    let under : c.loop-i.i < c.args.self.now.header.entry_count = omega arith in
    sym (first_among-next (id_here c.args.self.now.cut.bytes.now c.args.id) _ _ under (sym c.in-None.ensures)) ∙ c.loop-i.invariant
