use Rattle.std.proofs.Common.{◌≡◌, ◌+◌, [], false, if◌then◌else◌, length}
use Rattle.pef_ports.proofs.Laws.Sending.{IsSentUpTo}
use Rattle.pef_listing.specs.Left.{lines_left}
use Rattle.pef_listing.specs.Listing.{listing_text}
use Rattle.pef_listing.specs.Views.{parts}
use Rattle.pef_listing.proofs.listing.Listing.print.Given as goal

abbrev pub invariant-each : goal.invariant-each
invariant-each g l = record {
  sent : IsSentUpTo (g.W.Sink.stream l.fn.out) (g.W.Sink.stream l.out) l.fn.page.items l.page.items (listing_text (parts l.fn.self).container (parts l.fn.self).loader) (lines_left l.lines);
  ended : l.more ≡ false → lines_left l.lines ≡ [];
}

abbrev pub decreases-each : goal.decreases-each
decreases-each g l = length (lines_left l.lines) + (if l.more then 1 else 0)
