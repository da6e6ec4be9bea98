-- The sections of the fragments that are left come after those so far.
use Rattle.std.proofs.Common.{◌≡◌, ◌++◌, drop}
use Rattle.cfm_prepare.specs.NewSections.{new_sections_of}
use Rattle.cfm_prepare.proofs.new_sections.new_sections.Given as goal

abbrev pub invariant-loop-position : goal.invariant-loop-position
invariant-loop-position l = l.sections.items ++ new_sections_of l.closure.pairs l.granule.bytes (drop l.position-index l.new) ≡ new_sections_of l.closure.pairs l.granule.bytes l.new
