-- Each piece sends its text.
use Rattle.std.proofs.Common.{◌+◌, drop, get_or, ap, ◌∙◌}
use Rattle.std.proofs.lemmas.List.{at_drop_more, drop_all}
use Rattle.pef_ports.specs.Pieces.{pieces_text}
use Rattle.pef_ports.specs.declared.pieces.Piece.TheVariants.{Number}
use Rattle.pef_ports.proofs.PieceLemmas.{pieces-more}
use Rattle.pef_ports.proofs.Laws.Sending.{Sends-short, sent-all, sent-nothing, sent-piece, sent-short}
use Rattle.pef_ports.proofs.pieces.print_pieces.Goals as goal

pub loop-piece-init : goal.loop-piece-init
loop-piece-init g c = sent-nothing (g.W.Sink.stream c.args.out.now) c.args.page.now.items (pieces_text c.args.pieces.now)

pub loop-piece-preserved : goal.loop-piece-preserved
loop-piece-preserved g c =
    let at = c.loop-piece in
    let pieces = c.args.pieces.now in
    let next = at_drop_more pieces_text pieces at.piece-index (Number 0) c.loop-piece-test.true ∙ pieces-more (get_or pieces at.piece-index (Number 0)) (drop (at.piece-index + 1) pieces) in
    sent-piece _ at.invariant next c.in_ok-print_piece.ensures

pub returns-in_err-print_piece : goal.returns-in_err-print_piece
returns-in_err-print_piece g c =
    let at = c.loop-piece in
    let pieces = c.args.pieces.now in
    let next = at_drop_more pieces_text pieces at.piece-index (Number 0) c.loop-piece-test.true ∙ pieces-more (get_or pieces at.piece-index (Number 0)) (drop (at.piece-index + 1) pieces) in
    Sends-short _ c.from_residual.result _ c.from_residual.ensures.1 (sent-short _ at.invariant next c.in_err-print_piece.ensures)

pub returns : goal.returns
returns g c = sent-all c.loop-piece.invariant (ap pieces_text (drop_all c.loop-piece.piece-index c.args.pieces.now c.loop-piece-test.false))
