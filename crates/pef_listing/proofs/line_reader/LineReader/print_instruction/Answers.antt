-- An instruction's line is the next.
use Rattle.std.proofs.Common.{◌≡◌, ℕ, List, ◌++◌, ◌∙◌, ap, refl, append_assoc}
use Rattle.pef_loader.specs.Views.{loaded}
use Rattle.pef_reloc.specs.declared.instr.Instr.{Instr}
use Rattle.pef_reloc.specs.Views.{listed}
use Rattle.pef_listing.specs.Instructions.{instr_text, program_text}
use Rattle.pef_listing.specs.Left.{from_relocation, lines_left}
use Rattle.pef_listing.proofs.ReaderLemmas.{instr-some, sent-line, short-line}
use Rattle.pef_listing.proofs.line_reader.LineReader.print_instruction.Goals as goal

pub returns-in_err-print_instr-clause-next : goal.returns-in_err-print_instr-clause-next
returns-in_err-print_instr-clause-next g c =
    let tail : List ℕ = from_relocation (loaded c.args.self.now.listing.loader) c.args.k in
    let left : List Instr = listed c.next_instr.new.self in
    let rest : List ℕ = program_text left ++ tail in
    let front : lines_left c.args.self.now ≡ instr_text c.in-Some.instr ++ rest =
    c.requires ∙ ap (λ (xs : List Instr). program_text xs ++ tail) c.in-Some.ensures.takes ∙ append_assoc (instr_text c.in-Some.instr) (program_text left) tail in
    short-line _ c.from_residual.result _ c.args.self.now c.args.self.now (instr_text c.in-Some.instr) rest front refl c.from_residual.ensures.1 c.in_err-print_instr.ensures

pub returns-clause-next : goal.returns-clause-next
returns-clause-next g c =
    let tail : List ℕ = from_relocation (loaded c.args.self.now.listing.loader) c.args.k in
    let left : List Instr = listed c.next_instr.new.self in
    let rest : List ℕ = program_text left ++ tail in
    let front : lines_left c.args.self.now ≡ instr_text c.in-Some.instr ++ rest =
    c.requires ∙ ap (λ (xs : List Instr). program_text xs ++ tail) c.in-Some.ensures.takes ∙ append_assoc (instr_text c.in-Some.instr) (program_text left) tail in
    sent-line c.args.self.now _ (instr_text c.in-Some.instr) rest front (instr-some c.in-Some.instr) refl c.in_ok-print_instr.ensures
