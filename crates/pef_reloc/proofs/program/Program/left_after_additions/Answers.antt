-- The additions of the instruction are taken from the limit, and those of the others are left.
use Rattle.std.proofs.Common.{◌≡◌, ℕ, suc, ◌+◌, ap, sym, length, arith}
use Rattle.pef_reloc.specs.declared.program.Instrs.{Instrs}
use Rattle.pef_reloc.specs.Views.{listed}
use Rattle.pef_reloc.proofs.Counts.{listed-taken, next-count, none-left, whole-count}
use Rattle.pef_reloc.proofs.program.Program.left_after_additions.Goals as goal

pub loop-at-init : goal.loop-at-init
loop-at-init c =
    let whole = c.whole-instrs.result in
    ap (λ (n : ℕ). c.args.limit + n) (sym (whole-count c.args.self.now.bytes.now whole c.args.self.now.readable (ap (λ (w : Instrs). w.bytes.now) c.whole-instrs.ensures) (ap (λ (w : Instrs). w.at) c.whole-instrs.ensures)))

pub loop-at-preserved : goal.loop-at-preserved
loop-at-preserved c =
    let here = c.in-Some.ensures in
    let next = next-count c.loop-at.instrs c.next_placed.new.self c.in-Some.at c.in-Some.instr c.additions_at.result here.takes here.passes here.place c.additions_at.ensures in
    let before = c.loop-at.invariant in
    let enough = c.in_ok-left.ensures.0 in
    let left = c.in_ok-left.ensures.1 in
    omega (arith, next, before, enough, left)

pub loop-at-smaller : goal.loop-at-smaller
loop-at-smaller c =
    let taken : length (listed c.loop-at.instrs) ≡ suc (length (listed c.next_placed.new.self)) = ap length (listed-taken c.loop-at.instrs c.next_placed.new.self c.in-Some.at c.in-Some.instr c.in-Some.ensures.takes) in
    omega (arith, taken)

pub returns-in_err-left : goal.returns-in_err-left
returns-in_err-left c =
    let here = c.in-Some.ensures in
    let next = next-count c.loop-at.instrs c.next_placed.new.self c.in-Some.at c.in-Some.instr c.additions_at.result here.takes here.passes here.place c.additions_at.ensures in
    let before = c.loop-at.invariant in
    let more = c.in_err-left.ensures in
    rw c.from_residual.ensures (omega (arith, next, before, more))

pub returns : goal.returns
returns c =
    let none = none-left c.loop-at.instrs c.in_default.ensures.takes.0 in
    let before = c.loop-at.invariant in
    omega (arith, none, before)
