-- An export's line is the next.
use Rattle.std.proofs.Common.{◌≡◌, ℕ, ◌+◌, ◌-◌, ◌<◌, List, [], ◌++◌, ◌∙◌, Option, None, Some, ap, refl, sym, arith}
use Rattle.pef_loader.specs.Views.{loaded}
use Rattle.pef_listing.specs.Left.{lines_from, lines_left}
use Rattle.pef_listing.specs.Listing.{each_text, export_lines}
use Rattle.pef_ports.specs.Ports.{Grows, Stream}
use Rattle.pef_ports.specs.Sent.{Prints}
use Rattle.std.proofs.lemmas.List.{append-nil}
use Rattle.pef_listing.proofs.PartLemmas.{each_text-more}
use Rattle.pef_listing.proofs.ReaderLemmas.{sent-line, short-line}
use Rattle.pef_listing.proofs.line_reader.LineReader.print_export.Goals as goal

pub returns-in_err-print_at-clause-next : goal.returns-in_err-print_at-clause-next
returns-in_err-print_at-clause-next g c =
    let v = loaded c.args.self.now.listing.loader in
    let under : c.args.i < v.header.export_count = omega (arith, c.if-i-len.false, c.len.ensures) in
    let rest : List ℕ = lines_from (export_lines v) v.header.export_count (c.args.i + 1) in
    let front : lines_left c.args.self.now ≡ export_lines v c.args.i ++ rest = c.requires ∙ each_text-more (export_lines v) c.args.i v.header.export_count under in
    short-line _ c.from_residual.result _ c.args.self.now c.args.self.now (export_lines v c.args.i) rest front refl c.from_residual.ensures.1 c.in_err-print_at.ensures.sends

pub returns-clause-next : goal.returns-clause-next
returns-clause-next g c =
    let v = loaded c.args.self.now.listing.loader in
    let under : c.args.i < v.header.export_count = omega (arith, c.if-i-len.false, c.len.ensures) in
    let rest : List ℕ = lines_from (export_lines v) v.header.export_count (c.args.i + 1) in
    let front : lines_left c.args.self.now ≡ export_lines v c.args.i ++ rest = c.requires ∙ each_text-more (export_lines v) c.args.i v.header.export_count under in
    sent-line c.args.self.now _ (export_lines v c.args.i) rest front c.print_at.ensures.some refl c.in_ok-print_at.ensures.sends

-- nothing is sent
Prints-nothing : (a : Stream) (p : List ℕ) → Prints a a p p []
Prints-nothing a p = record { sent = []; out = grows a.bytes; whole = sym (append-nil p); sound = refl }
  where
    grows : (bytes : Option (List ℕ)) → Grows bytes bytes []
    grows None = tt
    grows (Some w) = ap Some (sym (append-nil w))

pub returns-then-i-len-clause-next : goal.returns-then-i-len-clause-next
returns-then-i-len-clause-next g c =
    let v = loaded c.args.self.now.listing.loader in
    let none : v.header.export_count - c.args.i ≡ 0 = omega (arith, c.if-i-len.true, c.len.ensures) in
    let ended : lines_left c.args.self.now ≡ [] = c.requires ∙ ap (each_text (export_lines v) c.args.i) none in
    record { lines = []; rest = []; front = ended; sends = Prints-nothing _ _; steps = (refl, refl, ended) }
