-- An import's line is the next.
use Rattle.std.proofs.Common.{◌≡◌, ℕ, ◌+◌, ◌<◌, List, ◌++◌, ◌∙◌, refl, arith}
use Rattle.pef_loader.specs.Views.{loaded}
use Rattle.pef_listing.specs.Left.{from_entries, lines_from, lines_left}
use Rattle.pef_listing.specs.Listing.{import_lines}
use Rattle.pef_listing.proofs.ReaderLemmas.{parts-front, sent-line, short-line}
use Rattle.pef_listing.proofs.line_reader.LineReader.print_import.Goals as goal

pub returns-in_err-print_import-clause-next : goal.returns-in_err-print_import-clause-next
returns-in_err-print_import-clause-next g c =
    let l = loaded c.args.self.now.listing.loader in
    let under : c.args.j < l.header.import_count = omega (arith, c.if-j-imports.false, c.imports.ensures.count) in
    let rest : List ℕ = lines_from (import_lines l) l.header.import_count (c.args.j + 1) ++ from_entries l in
    let front : lines_left c.args.self.now ≡ import_lines l c.args.j ++ rest = c.requires ∙ parts-front (import_lines l) l.header.import_count c.args.j (from_entries l) under in
    short-line _ c.from_residual.result _ c.args.self.now _ (import_lines l c.args.j) rest front refl c.from_residual.ensures.1 (rw c.args.self.now.names_of at c.in_err-print_import.ensures.sends)

pub returns-clause-next : goal.returns-clause-next
returns-clause-next g c =
    let l = loaded c.args.self.now.listing.loader in
    let under : c.args.j < l.header.import_count = omega (arith, c.if-j-imports.false, c.imports.ensures.count) in
    let rest : List ℕ = lines_from (import_lines l) l.header.import_count (c.args.j + 1) ++ from_entries l in
    let front : lines_left c.args.self.now ≡ import_lines l c.args.j ++ rest = c.requires ∙ parts-front (import_lines l) l.header.import_count c.args.j (from_entries l) under in
    sent-line c.args.self.now _ (import_lines l c.args.j) rest front (rw c.args.self.now.names_of at c.print_import.ensures.some) refl (rw c.args.self.now.names_of at c.in_ok-print_import.ensures.sends)
