-- No address below the one at which the search begins has room.
use Rattle.cfm_memory.proofs.Entries.{instances}
use Rattle.cfm_memory.proofs.Remembered.{past_barren, start_barren, start_small}
use Rattle.cfm_memory.proofs.memory.Memory.search.Goals as goal

pub past_instance-from-requires : goal.past_instance-from-requires
past_instance-from-requires c = start_small c.self.inside.granule.bytes c.args.taken c.args.step c.start.result (instances c.self.inside.instances.entries) c.self.inside.reserved.items c.self.inside.hints.rows c.start.ensures c.self.invariant.are_hints

pub first_vacant-address-requires-clause-barren : goal.first_vacant-address-requires-clause-barren
first_vacant-address-requires-clause-barren c =
    let xs = instances c.self.inside.instances.entries in
    let rs = c.self.inside.reserved.items in
    let start = start_barren c.self.inside.granule.bytes c.args.taken c.args.step c.start.result xs rs c.self.inside.hints.rows c.start.ensures c.self.invariant.are_hints in
    let past = rw (← c.self.view_is) at c.past_instance-from.ensures.past in
    let barren = past_barren c.self.inside.granule.bytes c.args.taken c.args.step c.start.result c.past_instance-from.result xs rs c.requires.taken.0 past start in
    rw (← c.self.view_is) barren
