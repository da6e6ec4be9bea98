-- There are few vectors, and few symbols with zeros.
use Rattle.std.proofs.Common.{ℕ, ◌*◌, ◌≤◌, ◌<◌, arith}
use Rattle.std.proofs.lemmas.Nat.{mul-le}
use Rattle.cfm_stubs.specs.MemoryStubs.{vectors}
use Rattle.cfm_stubs.proofs.MemorySteps.{multiple-near, others-few, vectors-few}
use Rattle.cfm_stubs.proofs.memory.data_total.Goals as goal

zeros-small : (size count : ℕ) → size < 4294967296 → count < 16384 → size * count ≤ 70368744177664
zeros-small size count wide few = mul-le size count 4294967296 16384 (omega (arith, wide)) (omega (arith, few))

pub overflow_mul-result : goal.overflow_mul-result
overflow_mul-result c =
    let few = others-few c.args.symbols.now in
    let wide : c.from.result < 4294967296 = omega (arith, c.from.ensures, c.ranges.size.fits) in
    let total = zeros-small c.from.result c.count_others.result wide (omega (arith, few, c.count_others.ensures, c.requires)) in
    omega (arith, total)

pub overflow_add-result : goal.overflow_add-result
overflow_add-result c =
    let xs = c.args.symbols.now in
    let few = others-few xs in
    let near = multiple-near (8 * vectors xs) in
    let wide : c.from.result < 4294967296 = omega (arith, c.from.ensures, c.ranges.size.fits) in
    let total = zeros-small c.from.result c.count_others.result wide (omega (arith, few, c.count_others.ensures, c.requires)) in
    let begin : c.zeros_from.result ≤ 200000 = omega (arith, c.zeros_from.ensures, near, vectors-few xs, c.requires) in
    omega (arith, total, begin)
