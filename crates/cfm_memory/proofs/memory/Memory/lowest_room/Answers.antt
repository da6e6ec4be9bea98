-- The bytes that an instance takes and the first free address are small enough for the sum.
use Rattle.std.proofs.Common.{arith}
use Rattle.cfm_memory.proofs.Placing.{some_taken, taken_most}
use Rattle.cfm_memory.proofs.memory.Memory.lowest_room.Goals as goal

pub class_of-requires : goal.class_of-requires
class_of-requires c =
    let some = some_taken c.self.inside.granule.bytes c.from.result in
    let most = taken_most c.self.inside.granule.bytes c.from.result in
    (omega arith, omega arith)

pub search-address-requires-clause-taken : goal.search-address-requires-clause-taken
search-address-requires-clause-taken c =
    let some = some_taken c.self.inside.granule.bytes c.from.result in
    let most = taken_most c.self.inside.granule.bytes c.from.result in
    (omega arith, omega arith)

pub overflow_add-address : goal.overflow_add-address
overflow_add-address c =
    let most = taken_most c.self.inside.granule.bytes c.from.result in
    omega arith

pub overflow_cast-result : goal.overflow_cast-result
overflow_cast-result c = omega arith
