-- The result is the script of the text.
use Rattle.pef_script.specs.Parts.{script_in}
use Rattle.pef_script.proofs.TextProofs.Holds.{script_of-holds}
use Rattle.pef_script.proofs.script.Script.read.Goals as goal

pub new-requires : goal.new-requires
new-requires c = script_of-holds c.args.text.now (script_in c.in_ok-parts.parts) c.in_ok-parts.ensures
