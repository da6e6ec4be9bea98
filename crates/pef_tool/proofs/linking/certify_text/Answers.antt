-- The certificates are those of the script.
use Rattle.pef_tool.proofs.linking.certify_text.Goals as goal

pub returns-in-Ok-of : goal.returns-in-Ok-of
returns-in-Ok-of c = (c.in-Ok.script, c.in-Ok.ensures, c.in-Ok-of.ensures)
