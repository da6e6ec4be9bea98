-- One more symbol is counted, or not. There are few.
use Rattle.std.proofs.Common.{true, false, sym, arith}
use Rattle.cfm_stubs.specs.Kept.Tables.{symbol_seen}
use Rattle.cfm_stubs.proofs.MemorySteps.{others-few, others-here}
use Rattle.cfm_stubs.proofs.memory.count_others.Goals as goal
use Rattle.cfm_stubs.proofs.memory.count_others.Goals.{then-not-is_routine, else-not-is_routine}

pub overflow_add-count : goal.overflow_add-count
overflow_add-count c =
    let few = others-few c.args.symbols.now in
    omega (arith, few, c.loop-k.invariant, c.requires)

pub loop-k-preserved : goal.loop-k-preserved
loop-k-preserved c =
    let xs = c.args.symbols.now in
    let k = c.loop-k.k in
    let s = symbol_seen c.at-class.result in
    elim c.if-not-is_routine.branch [
      | then-not-is_routine w ↦ (
          let here = others-here xs k s c.at-class.ensures false (sym w.if-not-is_routine.ensures) in
          omega (arith, here, w.count-is, c.loop-k.invariant)
          )
      | else-not-is_routine w ↦ (
          let here = others-here xs k s c.at-class.ensures true (sym w.if-not-is_routine.ensures) in
          omega (arith, here, w.count-is, c.loop-k.invariant)
          )
    ]
