-- For every script there is a linked container.
use Rattle.pef_write.proofs.LinkExists.{some_link}
use Rattle.pef_write.proofs.theorems.every_script_links.Goals as goal

pub returns : goal.returns
returns c = some_link
