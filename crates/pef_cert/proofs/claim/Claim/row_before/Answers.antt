use Rattle.std.proofs.Common.{◌≡◌, ◌+◌, ◌-◌, suc, ℕ, arith, subst}
use Rattle.pef_cert.specs.Kept.Claims.{IsRowOf}
use Rattle.pef_cert.proofs.SweepLemmas.{row-steps}
use Rattle.pef_cert.proofs.claim.Claim.row_before.Goals as goal

pub returns-then-at-self : goal.returns-then-at-self
returns-then-at-self c =
    let s = c.args.self in
    let next : c.args.row ≡ suc (c.args.row - 1) = omega (arith, c.if-row-gt0.true) in
    row-steps s.kept.ends.now (c.args.row - 1) c.args.at c.requires.shaped.full.rising
    (subst (λ (q : ℕ). IsRowOf s.kept.ends.now q (c.args.at + 1)) next c.requires.behind) (omega (arith, c.if-at-self.true))
