-- The header's line is the next.
use Rattle.std.proofs.Common.{ℕ, List, refl}
use Rattle.pef_loader.specs.Views.{loaded}
use Rattle.pef_views.specs.Views.{contained}
use Rattle.pef_listing.specs.Left.{from_section}
use Rattle.pef_listing.specs.Listing.{container_text}
use Rattle.pef_listing.proofs.ReaderLemmas.{header-some, sent-line}
use Rattle.pef_listing.proofs.line_reader.LineReader.print_container.Goals as goal

pub returns-clause-next : goal.returns-clause-next
returns-clause-next g c =
    let v = contained c.args.self.now.listing.container in
    let rest : List ℕ = from_section v (loaded c.args.self.now.listing.loader) 0 in
    sent-line c.args.self.now _ (container_text v.header) rest c.requires (header-some v.header) refl (rw c.header.ensures.value at c.in_ok-print_header.ensures)
