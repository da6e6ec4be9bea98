use Rattle.std.proofs.Common.{◌≡◌, ◌*◌, ap, arith}
use Rattle.pef_reloc.proofs.Verifications.{pairs-inside}
use Rattle.pef_reloc.proofs.verifying.Sizes.pairs.Goals as goal

pub returns-then-next-from : goal.returns-then-next-from
returns-then-next-from c =
    let same : c.args.places.stride * c.from.result ≡ c.args.places.stride * c.args.places.count = ap (λ n. c.args.places.stride * n) c.from.ensures in
    λ k j. pairs-inside c.args.self c.args.places.count c.args.places.from c.args.places.stride k j (omega (arith, same))
