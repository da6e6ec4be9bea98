-- The lines begin with an empty state.
use Rattle.std.proofs.Common.{Ok, subst, sym, ap, ◌∙◌}
use Rattle.pef_lines.specs.Lines.{lines_of}
use Rattle.pef_script.specs.Text.Grammar.{located, no_lines, read_lines, script_of}
use Rattle.pef_script.specs.Text.Kept.Steps.{FailsIn}
use Rattle.pef_script.proofs.TextProofs.LineLemmas.{placed_fails}
use Rattle.pef_script.proofs.text.script.read_parts.Goals as goal

pub returns-in-Ok : goal.returns-in-Ok
unfolding script_of
returns-in-Ok c =
    let text = c.args.text.now in
    let read = ap (λ s. read_lines s 1 (lines_of text)) (sym c.new-reader.ensures) ∙ c.in-Ok.ensures ∙ ap Ok (sym c.in_ok-into_parts-in-Ok.ensures) in
    ap (located text) read

pub returns : goal.returns
unfolding script_of
returns c =
    let text = c.args.text.now in
    let fails = subst (λ s. FailsIn c.in-Err.stopped (read_lines s 1 (lines_of text))) c.new-reader.ensures c.in-Err.ensures in
    rw c.in_text.ensures (placed_fails text c.in-Err.stopped (read_lines no_lines 1 (lines_of text)) fails)
