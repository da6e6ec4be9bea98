-- There are few vectors.
use Rattle.std.proofs.Common.{◌*◌, arith}
use Rattle.cfm_stubs.proofs.MemorySteps.{multiple-near, vectors-few}
use Rattle.cfm_stubs.proofs.memory.zeros_from.Goals as goal

pub overflow_mul-count_vectors : goal.overflow_mul-count_vectors
overflow_mul-count_vectors c =
    omega (arith, vectors-few c.args.symbols.now, c.count_vectors.ensures, c.requires)

pub next_multiple_of-requires-clause-fits : goal.next_multiple_of-requires-clause-fits
next_multiple_of-requires-clause-fits c =
    let near = multiple-near (8 * c.count_vectors.result) in
    omega (arith, near, vectors-few c.args.symbols.now, c.count_vectors.ensures, c.requires)
