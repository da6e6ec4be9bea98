-- Instruction by instruction.
use Rattle.std.proofs.Common.{◌∷◌, arith}
use Rattle.std.specs.Option.{option_to_list}
use Rattle.pef_reloc.specs.declared.instr.Instr.TheVariants.{BySectDWithSkip}
use Rattle.pef_reloc.specs.Instrs.{halfword_bytes}
use Rattle.pef_cert.specs.Text.Printed.{halfword_words, words_text}
use Rattle.pef_ports.proofs.Laws.Sending.{Sends-short, sent-all, sent-nothing, sent-piece, sent-short}
use Rattle.pef_cert.proofs.TextProofs.PrintLemmas.{instrs_fit-parts, instrs_text-more, instrs_text-none}
use Rattle.pef_cert.proofs.text.printer.print_instrs.Goals as goal

pub spelling-requires : goal.spelling-requires
spelling-requires g c = (instrs_fit-parts _ _ (BySectDWithSkip 0 0) c.loop-instr-test.true c.loop-instr.invariant.fit).0

pub loop-instr-init : goal.loop-instr-init
loop-instr-init g c = record { sent = sent-nothing _ _ _; fit = c.requires }

pub loop-instr-preserved : goal.loop-instr-preserved
loop-instr-preserved g c =
    let words = c.spelling.result.first ∷ option_to_list c.spelling.result.second in
    let next = instrs_text-more _ _ (BySectDWithSkip 0 0) words c.loop-instr-test.true c.spelling.ensures in
    record {
      sent = sent-piece {piece = words_text (halfword_words (halfword_bytes words))} _ c.loop-instr.invariant.sent next c.in_ok-print_spelling.ensures;
      fit = (instrs_fit-parts _ _ (BySectDWithSkip 0 0) c.loop-instr-test.true c.loop-instr.invariant.fit).1;
    }

pub returns-in_err-print_spelling : goal.returns-in_err-print_spelling
returns-in_err-print_spelling g c =
    let words = c.spelling.result.first ∷ option_to_list c.spelling.result.second in
    let next = instrs_text-more _ _ (BySectDWithSkip 0 0) words c.loop-instr-test.true c.spelling.ensures in
    Sends-short _ c.from_residual.result _ c.from_residual.ensures.1 (sent-short {piece = words_text (halfword_words (halfword_bytes words))} _ c.loop-instr.invariant.sent next c.in_err-print_spelling.ensures)

pub returns : goal.returns
returns g c = sent-all c.loop-instr.invariant.sent (instrs_text-none c.args.instrs.now c.loop-instr.instr-index (omega arith))
