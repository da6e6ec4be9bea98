use Rattle.std.proofs.Common.{◌≡◌, ◌+◌, ◌-◌, ◌*◌, ◌≤◌, length, sym, ap, ◌∙◌, arith}
use Rattle.std.proofs.lemmas.Bool.Decides.{Decides-eqb}
use Rattle.std.proofs.Math.Nat.{mul-le-mul_left}
use Rattle.pef_pidata.specs.Kept.Views.{common_seen}
use Rattle.pef_pidata.specs.Pattern.{woven}
use Rattle.pef_pidata.proofs.Repeats.{both_empty}
use Rattle.pef_pidata.proofs.Weaves.{part_written, length-woven}
use Rattle.pef_pidata.proofs.write.Common.weave.Goals as goal

pub returns-then-is_empty : goal.returns-then-is_empty
returns-then-is_empty c =
    let none = (Decides-eqb (length c.args.target.now) 0).0 (sym c.is_empty.ensures ∙ c.if-is_empty.true) in
    both_empty c.args.target.now (woven c.args.count c.args.size (common_seen c.args.self) c.args.parts.now) none
    (omega (arith, length-woven c.args.count c.args.size (common_seen c.args.self) c.args.parts.now c.requires.parts))

pub loop-i-preserved : goal.loop-i-preserved
loop-i-preserved c =
    let common = common_seen c.args.self in
    let len = c.len.result in
    let products : len * c.args.count ≡ length common * c.args.count = ap (λ n. n * c.args.count) c.len.ensures in
    let step : (c.loop-i.i + 1) * (len + c.args.size) ≡ c.loop-i.i * (len + c.args.size) + (length common + c.args.size) = omega (arith, c.len.ensures) in
    let up : c.loop-i.i ≤ c.args.count = omega arith in
    let part : (c.loop-i.i + 1) * c.args.size - c.loop-i.i * c.args.size ≡ c.args.size = omega arith in
    let joined = rw part at c.write_before.ensures in
    let inside : c.loop-i.i * (len + c.args.size) ≤ length c.loop-i.target = omega (arith, mul-le-mul_left (len + c.args.size) up, products, c.len.ensures) in
    part_written c.args.count c.args.size c.loop-i.i _ _ _ common c.args.parts.now c.loop-i.target c.write_before.new.target _ c.loop-i-test.true inside step c.requires.parts joined c.loop-i.invariant
