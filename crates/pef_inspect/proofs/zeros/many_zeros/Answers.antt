-- A row has few bytes.
use Rattle.std.proofs.Common.{arith}
use Rattle.std.proofs.lemmas.Nat.{mul-le}
use Rattle.pef_inspect.proofs.zeros.many_zeros.Goals as goal

pub overflow_mul-length : goal.overflow_mul-length
overflow_mul-length c =
    let few = mul-le c.from.result c.args.rows 256 4294967296 (omega (arith, c.from.ensures)) (omega arith) in
    omega (arith, few)
