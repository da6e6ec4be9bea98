use Rattle.std.proofs.Common.{◌+◌, ◌*◌, ℕ, arith, slice_index, refl}
use Rattle.pef_cert.proofs.SetLemmas.{above-min, attains-max, attains-min, below-max}
use Rattle.pef_cert.proofs.sets.line_holds.Goals as goal

pub loop-x-preserved : goal.loop-x-preserved
loop-x-preserved c =
    let f = λ (x : ℕ). slice_index c.args.row.now (c.args.from + x * c.args.stride) in
    let i = c.loop-x.invariant in
    let low = attains-min c.args.count c.loop-x.x c.loop-x.lowest (f c.loop-x.x) f (record { at = i.low.0; under = i.low.1; is = i.low.2 }) (omega arith) refl in
    let high = attains-max c.args.count c.loop-x.x c.loop-x.highest (f c.loop-x.x) f (record { at = i.high.0; under = i.high.1; is = i.high.2 }) (omega arith) refl in
    rw (c.min-lowest.ensures, c.max-highest.ensures) (record {
      above = above-min c.loop-x.x c.loop-x.lowest (f c.loop-x.x) f i.above refl;
      below = below-max c.loop-x.x c.loop-x.highest (f c.loop-x.x) f i.below refl;
      low = (low.at, low.under, low.is);
      high = (high.at, high.under, high.is);
    })
