-- Each word is sent after a space.
use Rattle.std.proofs.Common.{◌∷◌, ◌++◌, [], ◌+◌, ◌∙◌, Bor, List, ℕ, ap, drop, map, sym}
use Rattle.std.proofs.lemmas.List.{at_drop_more}
use Rattle.pef_ports.proofs.Laws.Sending.{Sends-short, sent-piece, sent-short}
use Rattle.pef_faults.specs.Notes.Scripts.{each_text}
use Rattle.pef_faults.proofs.notes.script.print_each.Goals as goal

abbrev nothing : Bor (List ℕ)
nothing = record { ref_ptr = (0, 0); now = [] }

abbrev text : List (Bor (List ℕ)) → List ℕ
text words = each_text (map (λ word. word.now) words)

pub returns-in_err-print_pieces : goal.returns-in_err-print_pieces
returns-in_err-print_pieces g c =
    let at = c.loop-word in
    let words = c.args.words.now in
    let rest = text (drop (at.word-index + 1) words) in
    let next = at_drop_more text words at.word-index nothing c.loop-word-test.true ∙ ap (λ word. (32 ∷ word) ++ rest) (sym c.as_bytes.ensures.value) in
    Sends-short _ c.from_residual.result _ c.from_residual.ensures.1 (sent-short rest at.invariant next c.in_err-print_pieces.ensures)

pub loop-word-preserved : goal.loop-word-preserved
loop-word-preserved g c =
    let at = c.loop-word in
    let words = c.args.words.now in
    let rest = text (drop (at.word-index + 1) words) in
    let next = at_drop_more text words at.word-index nothing c.loop-word-test.true ∙ ap (λ word. (32 ∷ word) ++ rest) (sym c.as_bytes.ensures.value) in
    sent-piece rest at.invariant next c.in_ok-print_pieces.ensures
