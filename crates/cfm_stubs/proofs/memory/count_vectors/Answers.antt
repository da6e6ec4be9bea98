-- One more symbol is counted, or not. There are few.
use Rattle.std.proofs.Common.{true, false, sym, arith}
use Rattle.cfm_stubs.specs.Kept.Tables.{symbol_seen}
use Rattle.cfm_stubs.proofs.MemorySteps.{vectors-few, vectors-here}
use Rattle.cfm_stubs.proofs.memory.count_vectors.Goals as goal
use Rattle.cfm_stubs.proofs.memory.count_vectors.Goals.{then-is_vector, else-is_vector}

pub overflow_add-count : goal.overflow_add-count
overflow_add-count c =
    let few = vectors-few c.args.symbols.now in
    omega (arith, few, c.loop-k.invariant, c.requires)

pub loop-k-preserved : goal.loop-k-preserved
loop-k-preserved c =
    let xs = c.args.symbols.now in
    let k = c.loop-k.k in
    let s = symbol_seen c.at-class.result in
    elim c.if-is_vector.branch [
      | then-is_vector w ↦ (
          let here = vectors-here xs k s c.at-class.ensures true (sym w.if-is_vector.ensures) in
          omega (arith, here, w.count-is, c.loop-k.invariant)
          )
      | else-is_vector w ↦ (
          let here = vectors-here xs k s c.at-class.ensures false (sym w.if-is_vector.ensures) in
          omega (arith, here, w.count-is, c.loop-k.invariant)
          )
    ]
