-- The entries left decide.
use Rattle.std.proofs.Common.{◌≡◌, ◌-◌}
use Rattle.pef_words.specs.Refusals.{first_among}
use Rattle.mac_forks.specs.Apple.{id_here}
use Rattle.mac_forks.proofs.apple.AppleFile.position.Given as goal

abbrev pub invariant-loop-i : goal.invariant-loop-i
invariant-loop-i l =
    first_among (id_here l.self.cut.bytes.now l.id) l.i (l.self.header.entry_count - l.i)
    ≡ first_among (id_here l.self.cut.bytes.now l.id) 0 l.self.header.entry_count
