-- The part written and the part left make the whole.
use Rattle.std.proofs.Common.{◌≡◌, ◌++◌, drop}
use Rattle.pef_write.specs.Containers.{raw_data, written_container}
use Rattle.pef_write.proofs.container.write_container.Given as goal

abbrev pub invariant-loop-section : goal.invariant-loop-section
invariant-loop-section l = l.out.items ++ raw_data (drop l.section-index l.sections) l.loader
    ≡ written_container l.fn.versions l.sections l.loader
