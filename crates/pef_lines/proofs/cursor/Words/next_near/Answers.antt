-- The next word ends at the first space.
use Rattle.std.proofs.Common.{refl, sym}
use Rattle.pef_lines.proofs.CursorLemmas.{words_of-cut}
use Rattle.pef_lines.proofs.LineLemmas.{cut_at-front}
use Rattle.pef_lines.proofs.cursor.Words.next_near.Goals as goal

pub returns-in_err-number : goal.returns-in_err-number
returns-in_err-number c =
    rw (c.from_residual.ensures, c.in-Some.is, words_of-cut c.in-Some.line.now c.in-Some-cut_near.word.now c.in-Some-cut_near.rest.now (sym c.in-Some-cut_near.ensures), ← c.in_err-number.ensures) refl

pub after-requires-clause-begins : goal.after-requires-clause-begins
after-requires-clause-begins c = cut_at-front 0x20 c.in-Some.line.now c.in-Some-cut_near.word.now c.in-Some-cut_near.rest.now (sym c.in-Some-cut_near.ensures)

pub returns : goal.returns
returns c =
    rw (c.in-Some.is, words_of-cut c.in-Some.line.now c.in-Some-cut_near.word.now c.in-Some-cut_near.rest.now (sym c.in-Some-cut_near.ensures), ← c.in_ok-number.ensures) refl
