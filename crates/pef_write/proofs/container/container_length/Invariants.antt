-- The part counted and the part left make the whole.
use Rattle.std.proofs.Common.{◌≡◌, ◌+◌, drop, length}
use Rattle.pef_write.specs.Containers.{data_from, raw_data}
use Rattle.pef_write.proofs.container.container_length.Given as goal

abbrev pub invariant-loop-section : goal.invariant-loop-section
invariant-loop-section l = l.at + length (raw_data (drop l.section-index l.sections) l.loader)
    ≡ data_from (length l.sections) + length (raw_data l.sections l.loader)
