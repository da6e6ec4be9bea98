-- Pieces one after the other.
use Rattle.std.proofs.Common.{◌≡◌, ℕ, List, [], ◌∷◌, ◌++◌, sym, ap, ◌∙◌, append_assoc}
use Rattle.std.proofs.lemmas.List.{append-nil}
use Rattle.pef_ports.specs.declared.pieces.Piece.{Piece}
use Rattle.pef_ports.specs.Pieces.{piece_text, pieces_after, pieces_text}

-- a text in front of pieces
after-text : (text : List ℕ) (pieces : List Piece) → pieces_after text pieces ≡ text ++ pieces_text pieces
after-text text [] = sym (append-nil text)
after-text text (piece ∷ pieces) =
    after-text (text ++ piece_text piece) pieces ∙ append_assoc text (piece_text piece) (pieces_text pieces) ∙ ap (λ (t : List ℕ). text ++ t) (sym (after-text (piece_text piece) pieces))

-- a piece in front of others
pub pieces-more : (piece : Piece) (pieces : List Piece) → pieces_text (piece ∷ pieces) ≡ piece_text piece ++ pieces_text pieces
pieces-more piece pieces = after-text (piece_text piece) pieces
