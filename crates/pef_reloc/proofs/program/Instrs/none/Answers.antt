-- No bytes are left.
use Rattle.std.proofs.Common.{ap, arith}
use Rattle.pef_reloc.specs.Decoding.{Code}
use Rattle.pef_reloc.proofs.CodeLemmas.{code-end}
use Rattle.pef_reloc.proofs.program.Instrs.none.Goals as goal

pub returns : goal.returns
returns c = ap (λ (k : Code). k.instrs) (code-end _ _ (omega arith))
