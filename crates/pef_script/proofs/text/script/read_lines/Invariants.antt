use Rattle.std.proofs.Common.{◌≡◌, ◌+◌, ◌≤◌, length}
use Rattle.pef_lines.specs.Lines.{lines_of}
use Rattle.pef_script.specs.Text.Grammar.{read_lines}
use Rattle.pef_script.specs.Text.Kept.Reader.{so_far}
use Rattle.pef_script.proofs.text.script.read_lines.Given as goal

-- the lines left turn the state so far into the state after all lines
abbrev pub invariant-lines : goal.invariant-lines
invariant-lines l = record {
  small : l.number + length l.rest ≤ length l.text + 1;
  whole : read_lines (so_far l.reader) l.number (lines_of l.rest) ≡ read_lines (so_far l.fn.reader) 1 (lines_of l.text);
}

abbrev pub decreases-lines : goal.decreases-lines
decreases-lines l = length l.rest
