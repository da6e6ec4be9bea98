use Rattle.std.proofs.Common.{◌≡◌, ◌-◌, ◌*◌, ◌≤◌, length}
use Rattle.pef_cert.specs.Text.Grammar.{last_labels}
use Rattle.pef_cert.specs.Text.Kept.Reading.{RangesGoing, left}
use Rattle.pef_cert.proofs.text.reader.read_ranges.Given as goal

-- the rows so far and those of the ranges that are left are all
abbrev pub invariant-rows : goal.invariant-rows
invariant-rows l = record {
  going : RangesGoing (l.classes * l.classes) l.count l.labels.rows (left l.lines) (left l.fn.lines);
  count : length l.labels.rows ≡ l.first;
  inside : l.first ≤ l.count;
  before : l.before.items ≡ last_labels l.labels.rows;
  width : l.labels.width ≡ l.classes * l.classes;
  no_more : length (left l.lines).text ≤ length (left l.fn.lines).text;
}

abbrev pub decreases-rows : goal.decreases-rows
decreases-rows l = l.count - l.first
