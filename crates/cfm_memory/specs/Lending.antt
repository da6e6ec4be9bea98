-- The memory after a borrow of a part ends.
use Rattle.std.specs.Prelude.{ℕ, List}
use Rattle.std.specs.Borrow.{Lends, MutBor, Fml, u8, Array}
use Rattle.cfm_memory.specs.contracts.memory.Memory as memory
use Rattle.cfm_memory.specs.Instances.{Layout, with_bytes, with_instances}

-- the memory ends with the last bytes of r in the instance at an address
abbrev pub LendsPart : MutBor Layout → ℕ → MutBor (List ℕ) → Fml
LendsPart m address r = Lends memory.the_row (Array u8 0) m r (λ w. with_instances m.now (with_bytes m.now.instances address w))
