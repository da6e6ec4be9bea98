-- The instructions are the part that is asked for.
use Rattle.std.proofs.Common.{Some, ap, ◌∙◌}
use Rattle.pef_loader.specs.Reloc.{instructions_of}
use Rattle.pef_loader.proofs.reloc.instructions.Goals as goal

pub returns-in_err-instructions : goal.returns-in_err-instructions
unfolding instructions_of
returns-in_err-instructions c = rw c.from_residual.ensures c.in_err-instructions.ensures

pub returns : goal.returns
unfolding instructions_of
returns c = ap Some c.bytes.ensures ∙ c.in_ok-instructions.ensures
