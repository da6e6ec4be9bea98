use Rattle.std.proofs.Common.{arith}
use Rattle.pef_reloc.proofs.Verifications.{numbered-inside}
use Rattle.pef_reloc.proofs.verifying.Sizes.imports.Goals as goal

pub returns-then-end-from : goal.returns-then-end-from
returns-then-end-from c = numbered-inside c.args.self c.args.count c.args.position c.args.first (omega arith) (omega arith)
