use Rattle.std.proofs.Common.{◌≡◌, ◌-◌, slice_get}
use Rattle.pef_lines.specs.Lines.{lines_of}
use Rattle.pef_script.proofs.text.places.line_at.Given as goal

-- the lines left have the line
abbrev pub invariant-lines : goal.invariant-lines
invariant-lines l = slice_get (lines_of l.rest) l.left ≡ slice_get (lines_of l.text) (l.number - 1)

abbrev pub decreases-lines : goal.decreases-lines
decreases-lines l = l.left
