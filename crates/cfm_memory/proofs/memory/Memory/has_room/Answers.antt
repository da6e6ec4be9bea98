-- The bytes that an instance takes are few enough for the sum, and at least one.
use Rattle.std.proofs.Common.{arith}
use Rattle.cfm_memory.proofs.Placing.{some_taken, taken_most}
use Rattle.cfm_memory.proofs.memory.Memory.has_room.Goals as goal

pub overflow_add-range : goal.overflow_add-range
overflow_add-range c =
    let most = taken_most c.self.inside.granule.bytes c.from.result in
    omega arith

pub is_free-requires-clause-some : goal.is_free-requires-clause-some
is_free-requires-clause-some c =
    let some = some_taken c.self.inside.granule.bytes c.from.result in
    omega arith

pub rank_of-requires-clause-some : goal.rank_of-requires-clause-some
rank_of-requires-clause-some c =
    let some = some_taken c.self.inside.granule.bytes c.from.result in
    omega arith
