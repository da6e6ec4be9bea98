use Rattle.std.proofs.Common.{rules}
use Rattle.cfm_prepare.proofs.open_connection.OpenConnection.main.Goals as goal

pub returns : goal.returns
returns c = search rules
