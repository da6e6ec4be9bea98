-- The value of the code's memory, without places in the machine's memory.
use Rattle.std.specs.Prelude.{ℕ, map}
use Rattle.std.specs.Global.{Vec}
use Rattle.cfm_memory.specs.declared.memory.Memory.TheInside.{Inside}
use Rattle.cfm_memory.specs.Instances.{Instance, Layout}

-- an instance, from its address and its bytes
abbrev pub instance_seen : ℕ × Vec ℕ → Instance
instance_seen e = record { address = e.0; bytes = e.1.items }

-- the memory, as all clauses see it
abbrev pub layout : Inside → Layout
layout m = record { granule = m.granule.bytes; limit = m.limit; instances = map instance_seen m.instances.entries; reserved = m.reserved.items }
