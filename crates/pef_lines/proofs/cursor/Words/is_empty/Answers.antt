use Rattle.pef_lines.proofs.CursorLemmas.{none_left-is}
use Rattle.pef_lines.proofs.cursor.Words.is_empty.Goals as goal

pub returns : goal.returns
returns c = none_left-is c.args.self.now.rest c.is_none.result c.is_none.ensures
