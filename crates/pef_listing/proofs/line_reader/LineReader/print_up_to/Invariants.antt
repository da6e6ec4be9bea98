use Rattle.std.proofs.Common.{◌≡◌, ◌+◌, [], false, if◌then◌else◌, length}
use Rattle.pef_ports.proofs.Laws.Sending.{IsSentUpTo}
use Rattle.pef_listing.specs.Left.{lines_left}
use Rattle.pef_listing.proofs.ReaderLemmas.{text_stream}
use Rattle.pef_listing.proofs.line_reader.LineReader.print_up_to.Given as goal

abbrev pub invariant-lines : goal.invariant-lines
invariant-lines l = record {
  sent : IsSentUpTo (text_stream l.fn.text) (text_stream l.text) [] l.page.items (lines_left l.fn.self) (lines_left l.self);
  listing : l.self.listing ≡ l.fn.self.listing;
  ended : l.more ≡ false → lines_left l.self ≡ [];
}

abbrev pub decreases-lines : goal.decreases-lines
decreases-lines l = length (lines_left l.self) + (if l.more then 1 else 0)
