-- The map has the bytes of the instance.
use Rattle.std.proofs.Common.{sym}
use Rattle.cfm_memory.proofs.Entries.{bytes_found, held_found, held_length}
use Rattle.cfm_memory.proofs.memory.Memory.part.Goals as goal

pub index-requires : goal.index-requires
index-requires c = held_found c.self.inside.granule.bytes c.self.inside.instances.entries c.self.inside.limit c.self.inside.reserved.items c.args.place c.args.self.now c.self.view_is c.requires

pub returns-clause-bytes : goal.returns-clause-bytes
returns-clause-bytes c =
    let bytes = bytes_found c.self.inside.instances.entries c.args.place.address c.index.result.now (sym c.index.ensures) in
    rw (← c.self.view_is, c.as_slice.ensures.value) bytes

pub returns-clause-len : goal.returns-clause-len
returns-clause-len c =
    let bytes = bytes_found c.self.inside.instances.entries c.args.place.address c.index.result.now (sym c.index.ensures) in
    rw c.as_slice.ensures.value (held_length c.self.inside.granule.bytes _ _ _ c.args.place c.args.self.now _ c.self.view_is c.requires bytes)
