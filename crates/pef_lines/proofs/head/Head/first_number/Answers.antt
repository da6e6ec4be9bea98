-- The number in the first bytes of a line tells the bytes.
use Rattle.std.proofs.Common.{◌≡◌, ◌+◌, ◌-◌, ◌*◌, ◌/◌, ◌^◌, arith}
use Rattle.std.proofs.Math.Facts.{Fits-lt-pow}
use Rattle.pef_lines.specs.Kept.Numbers.{key_of}
use Rattle.pef_lines.proofs.HeadLemmas.{head_reads}
use Rattle.pef_lines.proofs.head.Head.first_number.Goals as goal

pub returns : goal.returns
returns c =
    let head = c.args.self.now in
    let front = c.read_u64.result / 2 ^ head.shift in
    let digit = (front - head.key) / 256 in
    let front_is : front ≡ key_of head.digits.now + 256 * digit = omega (arith, head.key_is) in
    rw (c.split_at.ensures.back) (head_reads head.digits.now c.args.line.now head.tens head.shift digit head.spelled head.bytes (λ k. Fits-lt-pow (c.type_inv.line k)) (omega arith) (omega arith) head.shift_is (rw (← c.read_u64.ensures) front_is) (omega arith))
