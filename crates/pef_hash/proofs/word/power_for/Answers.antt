-- The search continues after a power that leaves too many exports, and ends at the first other one.
use Rattle.std.proofs.Common.{◌≡◌, sym, ◌∙◌, arith}
use Rattle.pef_hash.specs.Limits.{most_written_power}
use Rattle.pef_hash.proofs.Slots.{least_power-end, least_power-here, least_power-next}
use Rattle.pef_hash.proofs.word.power_for.Goals as goal

pub returns-then-count-power-lt-EXPORTS_A_SLOT : goal.returns-then-count-power-lt-EXPORTS_A_SLOT
returns-then-count-power-lt-EXPORTS_A_SLOT c =
    sym (least_power-here c.args.count c.loop-power.power most_written_power (omega arith) (omega arith)) ∙ c.loop-power.invariant

pub loop-power-preserved : goal.loop-power-preserved
loop-power-preserved c =
    sym (least_power-next c.args.count c.loop-power.power most_written_power (omega arith) (omega arith)) ∙ c.loop-power.invariant

pub returns : goal.returns
returns c =
    let all : most_written_power ≡ c.loop-power.power = omega arith in
    all ∙ sym (least_power-end c.args.count c.loop-power.power most_written_power (omega arith)) ∙ c.loop-power.invariant
