-- The instructions from the first on.
use Rattle.pef_reloc.proofs.Execution.{executed-few, executed-whole}
use Rattle.pef_reloc.proofs.executed.Executed.new.Goals as goal

pub returns-clause-all : goal.returns-clause-all
returns-clause-all c = rw (c.none-nothing.ensures, c.whole-whole.ensures) (executed-whole _ c.args.program.readable)

pub returns-clause-few : goal.returns-clause-few
returns-clause-few c = rw (c.none-nothing.ensures, c.whole-whole.ensures) (executed-few _ c.args.program.readable)
