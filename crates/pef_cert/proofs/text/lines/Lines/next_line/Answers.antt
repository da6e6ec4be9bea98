use Rattle.std.proofs.Common.{◌+◌, ◌≤◌, ◌^◌, length, arith, sym}
use Rattle.pef_lines.proofs.Laws.{cut_at-shorter}
use Rattle.pef_cert.proofs.text.lines.Lines.next_line.Goals as goal

pub invariant_of-self : goal.invariant_of-self
invariant_of-self c =
    let shorter = cut_at-shorter 0x0A c.args.self.now.rest.now c.in_ok-bytes.bytes.now c.in_ok-bytes.rest.now (sym c.in_ok-bytes.ensures) in
    let small : c.args.self.now.number + length c.args.self.now.rest.now ≤ 2 ^ 63 = c.args.self.now.small in
    record { small = omega (arith, shorter, small) }

pub returns-clause-less : goal.returns-clause-less
returns-clause-less c = cut_at-shorter 0x0A c.args.self.now.rest.now c.in_ok-bytes.bytes.now c.in_ok-bytes.rest.now (sym c.in_ok-bytes.ensures)

pub returns-clause-no_more : goal.returns-clause-no_more
returns-clause-no_more c =
    let shorter = cut_at-shorter 0x0A c.args.self.now.rest.now c.in_ok-bytes.bytes.now c.in_ok-bytes.rest.now (sym c.in_ok-bytes.ensures) in
    omega (arith, shorter)
