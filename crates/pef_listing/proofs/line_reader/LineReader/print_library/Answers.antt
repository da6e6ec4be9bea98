-- A library's line is the next.
use Rattle.std.proofs.Common.{◌≡◌, ℕ, ◌+◌, ◌<◌, List, ◌++◌, ◌∙◌, refl, arith}
use Rattle.pef_loader.specs.Views.{loaded}
use Rattle.pef_listing.specs.Left.{from_import, lines_from, lines_left}
use Rattle.pef_listing.specs.Listing.{library_lines}
use Rattle.pef_listing.proofs.ReaderLemmas.{parts-front, sent-line, short-line}
use Rattle.pef_listing.proofs.line_reader.LineReader.print_library.Goals as goal

pub returns-in_err-print_at-clause-next : goal.returns-in_err-print_at-clause-next
returns-in_err-print_at-clause-next g c =
    let v = loaded c.args.self.now.listing.loader in
    let under : c.args.i < v.header.library_count = omega (arith, c.if-i-len.false, c.len.ensures) in
    let rest : List ℕ = lines_from (library_lines v) v.header.library_count (c.args.i + 1) ++ from_import v 0 in
    let front : lines_left c.args.self.now ≡ library_lines v c.args.i ++ rest = c.requires ∙ parts-front (library_lines v) v.header.library_count c.args.i (from_import v 0) under in
    short-line _ c.from_residual.result _ c.args.self.now c.args.self.now (library_lines v c.args.i) rest front refl c.from_residual.ensures.1 c.in_err-print_at.ensures.sends

pub returns-clause-next : goal.returns-clause-next
returns-clause-next g c =
    let v = loaded c.args.self.now.listing.loader in
    let under : c.args.i < v.header.library_count = omega (arith, c.if-i-len.false, c.len.ensures) in
    let rest : List ℕ = lines_from (library_lines v) v.header.library_count (c.args.i + 1) ++ from_import v 0 in
    let front : lines_left c.args.self.now ≡ library_lines v c.args.i ++ rest = c.requires ∙ parts-front (library_lines v) v.header.library_count c.args.i (from_import v 0) under in
    sent-line c.args.self.now _ (library_lines v c.args.i) rest front c.print_at.ensures.some refl c.in_ok-print_at.ensures.sends
