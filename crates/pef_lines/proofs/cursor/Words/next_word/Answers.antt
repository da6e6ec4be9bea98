-- The next word ends at the first space, or with the line.
use Rattle.std.proofs.Common.{refl, sym}
use Rattle.pef_lines.proofs.CursorLemmas.{words_of-cut, words_of-last}
use Rattle.pef_lines.proofs.cursor.Words.next_word.Goals as goal

pub returns-in-Some-cut_near : goal.returns-in-Some-cut_near
returns-in-Some-cut_near c =
    rw (c.in-Some.is, words_of-cut c.in-Some.rest.now c.in-Some-cut_near.word.now c.in-Some-cut_near.behind.now (sym c.in-Some-cut_near.ensures)) refl

pub returns-in-None : goal.returns-in-None
returns-in-None c = rw (c.in-Some.is, words_of-last c.in-Some.rest.now (sym c.in-None.ensures)) refl
