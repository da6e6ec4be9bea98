-- Each instruction is printed after the findings about what comes before it.
use Rattle.std.proofs.Common.{◌∙◌, ap, map, refl, sym}
use Rattle.pef_reloc.specs.Views.{placed}
use Rattle.pef_report.specs.Inspection.{instr_row, merged_left, merged_text}
use Rattle.pef_report.specs.Order.{after}
use Rattle.pef_ports.proofs.Laws.Sending.{Sends-short, sent-all, sent-nothing, sent-piece, sent-short}
use Rattle.pef_report.proofs.walk.Walk.print_instrs.Goals as goal

pub loop-step-init : goal.loop-step-init
loop-step-init g c = record {
  sent = rw c.new-instrs.ensures (sent-nothing _ _ _);
  base = refl;
  reading = refl;
  left = ap (λ steps. merged_left (map (instr_row c.args.k c.args.program.at) steps) c.args.self.now.left.now) c.new-instrs.ensures;
}

pub loop-step-preserved : goal.loop-step-preserved
loop-step-preserved g c =
    let base = c.args.self.now.base in
    let at = c.loop-step in
    let row = instr_row c.args.k c.args.program.at in
    let rest = map row (placed c.next_placed.new.self) in
    let next = ap (map row) c.in-Some.ensures.takes in
    let passes = rw c.rank.ensures at c.in_ok-print_instr.ensures.passes in
    record {
      sent = rw passes.left (sent-piece (merged_text base rest (after (row c.in-Some.step).rank at.self.left.now)) at.invariant.sent (ap (λ rows. merged_text base rows at.self.left.now) next) (rw (at.invariant.base, c.rank.ensures, c.file_offset.ensures) at c.in_ok-print_instr.ensures.sends));
      base = passes.base ∙ at.invariant.base;
      reading = passes.reading ∙ at.invariant.reading;
      left = rw passes.left (sym (ap (λ rows. merged_left rows at.self.left.now) next) ∙ at.invariant.left);
    }

pub returns-in_err-print_instr-clause-sends : goal.returns-in_err-print_instr-clause-sends
returns-in_err-print_instr-clause-sends g c =
    let base = c.args.self.now.base in
    let at = c.loop-step in
    let row = instr_row c.args.k c.args.program.at in
    let rest = map row (placed c.next_placed.new.self) in
    let next = ap (map row) c.in-Some.ensures.takes in
    Sends-short _ c.from_residual.result _ c.from_residual.ensures.1 (sent-short (merged_text base rest (after (row c.in-Some.step).rank at.self.left.now)) at.invariant.sent (ap (λ rows. merged_text base rows at.self.left.now) next) (rw (at.invariant.base, c.rank.ensures, c.file_offset.ensures) at c.in_err-print_instr.ensures.sends))

pub returns-clause-sends : goal.returns-clause-sends
returns-clause-sends g c =
    let at = c.loop-step in
    sent-all at.invariant.sent (ap (λ steps. merged_text c.args.self.now.base (map (instr_row c.args.k c.args.program.at) steps) at.self.left.now) c.in_default.ensures.takes.0)

pub returns-clause-passes : goal.returns-clause-passes
returns-clause-passes g c =
    let at = c.loop-step in
    record {
      base = at.invariant.base;
      reading = at.invariant.reading;
      left = sym (ap (λ steps. merged_left (map (instr_row c.args.k c.args.program.at) steps) at.self.left.now) c.in_default.ensures.takes.0) ∙ at.invariant.left;
    }
