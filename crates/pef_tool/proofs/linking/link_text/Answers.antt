-- The container of the script is linked.
use Rattle.pef_tool.proofs.linking.link_text.Goals as goal

pub returns-in-Ok-link_container : goal.returns-in-Ok-link_container
returns-in-Ok-link_container c = (c.in-Ok.script, c.in-Ok.ensures, c.in-Ok-link_container.ensures)
