use Rattle.std.proofs.Common.{◌≡◌, drop}
use Rattle.pef_script.specs.Text.Oddities.{has_two_spaces}
use Rattle.pef_script.proofs.text.oddity.has_two_spaces.Given as goal

-- the bytes left decide
abbrev pub invariant-loop-at : goal.invariant-loop-at
invariant-loop-at l = has_two_spaces (drop l.at l.line) ≡ has_two_spaces l.line
