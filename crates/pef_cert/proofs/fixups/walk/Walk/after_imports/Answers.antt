use Rattle.std.proofs.Common.{arith}
use Rattle.pef_cert.proofs.FixupsProofs.WalkLemmas.{imports-end, imports-fail, imports-next}
use Rattle.pef_cert.proofs.fixups.walk.Walk.after_imports.Goals as goal

pub returns-in_err-left : goal.returns-in_err-left
returns-in_err-left c =
    rw c.from_residual.ensures
    (imports-fail c.args.count c.imports.counter c.imports.position c.imports.import c.imports.left.now _ (omega arith) c.imports.invariant.left c.in_err-left.ensures)

pub imports-preserved : goal.imports-preserved
imports-preserved c = record {
  position = omega (arith, c.imports.invariant.position);
  import = omega (arith, c.imports.invariant.import);
  left = imports-next c.args.count c.imports.counter c.imports.position c.imports.import c.imports.left.now c.in_ok-left.left.now _ (omega arith) c.imports.invariant.left c.in_ok-left.ensures;
}

pub returns : goal.returns
returns c = imports-end c.args.count c.imports.counter c.imports.position c.imports.import c.imports.left.now _ (omega arith) c.imports.invariant.left
