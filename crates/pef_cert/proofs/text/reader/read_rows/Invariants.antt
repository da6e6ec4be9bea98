use Rattle.std.proofs.Common.{◌≡◌, ◌-◌, ◌*◌, ◌≤◌, [], length}
use Rattle.pef_cert.specs.Text.Grammar.{rows_read}
use Rattle.pef_cert.specs.Text.Kept.Reading.{left}
use Rattle.pef_cert.proofs.text.reader.read_rows.Given as goal

-- the rows so far and those of the lines that are left are all
abbrev pub invariant-loop-at : goal.invariant-loop-at
invariant-loop-at l = record {
  rows : rows_read (l.classes * l.classes) l.at (l.count - l.at) l.labels.rows (left l.lines) ≡ rows_read (l.classes * l.classes) 0 l.count [] (left l.fn.lines);
  count : length l.labels.rows ≡ l.at;
  width : l.labels.width ≡ l.classes * l.classes;
  no_more : length (left l.lines).text ≤ length (left l.fn.lines).text;
}
