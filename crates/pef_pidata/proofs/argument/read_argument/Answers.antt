use Rattle.std.proofs.Common.{◌≡◌, ◌+◌, ◌*◌, ◌∷◌, drop, drop-cons, get_or, sym, ap, ◌∙◌, add-one, arith}
use Rattle.std.proofs.lemmas.Nat.{pow-add}
use Rattle.pef_pidata.specs.Instructions.{argument_from}
use Rattle.pef_pidata.proofs.Arguments.{passed}
use Rattle.pef_pidata.proofs.argument.read_argument.Goals as goal

pub loop-i-preserved : goal.loop-i-preserved
loop-i-preserved c =
    let places : 7 * (c.loop-i.i + 1) ≡ 7 * c.loop-i.i + 7 = omega arith in
    let next : drop c.loop-i.i c.args.packed.now ≡ get_or c.args.packed.now c.loop-i.i 0 ∷ drop (c.loop-i.i + 1) c.args.packed.now = rw add-one (drop-cons c.args.packed.now c.loop-i.i 0 c.loop-i-test.true) in
    let step = passed c.args.at c.loop-i.i c.loop-i.value (get_or c.args.packed.now c.loop-i.i 0) (drop (c.loop-i.i + 1) c.args.packed.now) c.if-byte-lt-MORE.false c.if-i-eq-LAST.false in
    record {
      few = omega arith;
      bits = rw (c.from.ensures, c.from-in-loop-i.ensures, places, pow-add 2 (7 * c.loop-i.i) 7) (omega arith);
      rest = rw (c.from.ensures, c.from-in-loop-i.ensures) (sym (ap (argument_from c.args.at c.loop-i.i c.loop-i.value) next ∙ step) ∙ c.loop-i.invariant.rest);
    }
