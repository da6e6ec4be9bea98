use Rattle.std.proofs.Common.{rules}
use Rattle.pef_script.proofs.text.reader.Reader.enter_once.Goals as goal

pub returns : goal.returns
returns c = search rules
