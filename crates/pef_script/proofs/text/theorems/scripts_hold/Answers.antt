use Rattle.pef_script.proofs.TextProofs.Holds.{script_of-holds}
use Rattle.pef_script.proofs.text.theorems.scripts_hold.Goals as goal

pub returns : goal.returns
returns c text s is = script_of-holds text s is
