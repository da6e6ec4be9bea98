use Rattle.std.proofs.Common.{rules}
use Rattle.pef_request.proofs.command_line.command_request.Goals as goal

pub returns-in-list : goal.returns-in-list
returns-in-list c = search rules
