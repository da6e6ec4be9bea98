use Rattle.std.proofs.Common.{◌≡◌, ◌++◌}
use Rattle.pef_script.proofs.text.sections.to_sections.Given as goal

-- the sections so far, and those that are left, are all
abbrev pub invariant-loop-section : goal.invariant-loop-section
invariant-loop-section l = l.made.items ++ l.section-iterator.rest.items ≡ l.fn.sections.items
