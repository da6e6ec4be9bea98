use Rattle.std.proofs.Common.{◌≡◌, ◌-◌, take}
use Rattle.std.specs.List.{position_from}
use Rattle.pef_lines.specs.Lines.{lines_of}
use Rattle.pef_script.specs.Text.Earlier.{is_about}
use Rattle.pef_script.proofs.text.earlier.earlier_of.Given as goal

-- the lines left before this one decide
abbrev pub invariant-loop-at : goal.invariant-loop-at
invariant-loop-at l =
    position_from (is_about l.fault l.line) l.at (take (l.number - l.at) (lines_of l.rest))
    ≡ position_from (is_about l.fault l.line) 1 (take (l.number - 1) (lines_of l.text))
