use Rattle.std.proofs.Common.{arith}
use Rattle.pef_reloc.specs.declared.fixup.Base.TheVariants.{Section}
use Rattle.pef_cert.proofs.FixupsProofs.WalkLemmas.{pairs-fail, pairs-fail_second, pairs-first, pairs-last, pairs-second}
use Rattle.pef_cert.proofs.fixups.walk.Walk.after_pairs.Goals as goal

pub returns-in_err-left : goal.returns-in_err-left
returns-in_err-left c =
    rw c.from_residual.ensures
    (pairs-fail c.args.count c.pairs.counter c.pairs.position c.args.stride (Section c.args.self.c) (Section c.args.self.d) c.pairs.left.now _ (omega arith) c.pairs.invariant.left c.in_err-left.ensures)

pub returns-in_err-left-2 : goal.returns-in_err-left-2
returns-in_err-left-2 c =
    let first = pairs-first c.args.count c.pairs.counter c.pairs.position c.args.stride (Section c.args.self.c) (Section c.args.self.d) c.pairs.left.now c.in_ok-left.left.now _ (omega arith) c.pairs.invariant.left c.in_ok-left.ensures in
    rw c.from_residual-in_err-left-2.ensures
    (pairs-fail_second c.args.count c.pairs.counter c.pairs.position c.args.stride (Section c.args.self.c) (Section c.args.self.d) c.in_ok-left.left.now _ first c.in_err-left-2.ensures)

pub pairs-preserved : goal.pairs-preserved
pairs-preserved c =
    let first = pairs-first c.args.count c.pairs.counter c.pairs.position c.args.stride (Section c.args.self.c) (Section c.args.self.d) c.pairs.left.now c.in_ok-left.left.now _ (omega arith) c.pairs.invariant.left c.in_ok-left.ensures in
    record {
      position = omega (arith, c.pairs.invariant.position, c.requires.stride);
      left = pairs-second c.args.count c.pairs.counter c.pairs.position c.args.stride (Section c.args.self.c) (Section c.args.self.d) c.in_ok-left.left.now c.in_ok-left-2.left.now _ first c.in_ok-left-2.ensures;
    }

pub returns : goal.returns
returns c = pairs-last c.args.count c.pairs.counter c.pairs.position c.args.stride (Section c.args.self.c) (Section c.args.self.d) c.pairs.left.now _ (omega arith) c.pairs.invariant.left
