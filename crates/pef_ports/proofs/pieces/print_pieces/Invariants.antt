use Rattle.std.proofs.Common.{drop}
use Rattle.pef_ports.specs.Pieces.{pieces_text}
use Rattle.pef_ports.proofs.Laws.Sending.{IsSentUpTo}
use Rattle.pef_ports.proofs.pieces.print_pieces.Given as goal

abbrev pub invariant-loop-piece : goal.invariant-loop-piece
invariant-loop-piece g l = IsSentUpTo (g.W.Sink.stream l.fn.out) (g.W.Sink.stream l.out) l.fn.page.items l.page.items (pieces_text l.pieces) (pieces_text (drop l.piece-index l.pieces))
