-- A bit more, and no bit is left after the eighth.
use Rattle.std.proofs.Common.{◌≡◌, ◌∙◌, ◌-◌, ◌<◌, sym, ap, arith}
use Rattle.mac_forks.specs.Crc.{remainder_after, shifted_by}
use Rattle.mac_forks.proofs.CrcLemmas.{shifted_by-next, shifted_by-none}
use Rattle.mac_forks.proofs.crc.with_byte.Goals as goal

pub bits-preserved : goal.bits-preserved
bits-preserved c =
    let under : c.bits.counter < 8 = omega arith in
    rw (c.shifted-rest.ensures) (sym (shifted_by-next 8 c.bits.counter c.bits.rest under) ∙ c.bits.invariant)

pub returns : goal.returns
unfolding remainder_after
returns c =
    let none : 8 - c.bits.counter ≡ 0 = omega arith in
    sym (shifted_by-none c.bits.rest) ∙ ap (λ n. shifted_by n c.bits.rest) (sym none) ∙ c.bits.invariant
