use Rattle.std.proofs.Common.{arith}
use Rattle.std.proofs.Math.Pow.{pow_mono}
use Rattle.pef_loader.proofs.marks.step_of.Goals as goal

pub returns-clause-few : goal.returns-clause-few
returns-clause-few c = let small = pow_mono {i = c.args.power} {j = 58} c.requires in omega (arith, small)
