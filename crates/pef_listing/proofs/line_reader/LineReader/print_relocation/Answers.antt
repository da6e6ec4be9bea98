-- The line of a relocation header is the next, and then come the instructions of its program.
use Rattle.std.proofs.Common.{◌≡◌, ℕ, ◌+◌, ◌<◌, List, ◌++◌, ◌∙◌, ap, refl, arith}
use Rattle.pef_loader.specs.Views.{loaded}
use Rattle.pef_reloc.specs.declared.instr.Instr.{Instr}
use Rattle.pef_reloc.specs.Unrolled.{instrs_of}
use Rattle.pef_listing.specs.Instructions.{program_text}
use Rattle.pef_listing.specs.Left.{from_relocation, lines_left}
use Rattle.pef_listing.specs.Listing.{reloc_header_text}
use Rattle.pef_listing.proofs.ReaderLemmas.{relocation-front, sent-line, short-line}
use Rattle.pef_listing.proofs.line_reader.LineReader.print_relocation.Goals as goal

pub returns-in_err-print_header-clause-next : goal.returns-in_err-print_header-clause-next
returns-in_err-print_header-clause-next g c =
    let l = loaded c.args.self.now.listing.loader in
    let r : ℕ × List ℕ = (c.at-relocation.result.section, c.at-relocation.result.bytes.now) in
    let under : c.args.k < l.header.reloc_count = omega (arith, c.if-k-relocs.false, c.relocs.ensures.count) in
    let rest : List ℕ = program_text (instrs_of r.1) ++ from_relocation l (c.args.k + 1) in
    let front : lines_left c.args.self.now ≡ reloc_header_text r ++ rest = c.requires ∙ relocation-front l c.args.k r under c.at-relocation.ensures.is in
    short-line _ c.from_residual.result _ c.args.self.now c.args.self.now (reloc_header_text r) rest front refl c.from_residual.ensures.1 c.in_err-print_header.ensures

pub returns-clause-next : goal.returns-clause-next
returns-clause-next g c =
    let l = loaded c.args.self.now.listing.loader in
    let r : ℕ × List ℕ = (c.at-relocation.result.section, c.at-relocation.result.bytes.now) in
    let under : c.args.k < l.header.reloc_count = omega (arith, c.if-k-relocs.false, c.relocs.ensures.count) in
    let rest : List ℕ = program_text (instrs_of r.1) ++ from_relocation l (c.args.k + 1) in
    let front : lines_left c.args.self.now ≡ reloc_header_text r ++ rest = c.requires ∙ relocation-front l c.args.k r under c.at-relocation.ensures.is in
    let left = ap (λ (xs : List Instr). program_text xs ++ from_relocation l (c.args.k + 1)) (c.instrs.ensures ∙ ap instrs_of c.at-relocation.ensures.program) in
    sent-line c.args.self.now _ (reloc_header_text r) rest front (omega arith) left c.in_ok-print_header.ensures
