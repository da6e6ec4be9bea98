-- The map has the new instance, and the hints hold.
use Rattle.std.proofs.Common.{◌≡◌, length, refl, ap, ◌∙◌}
use Rattle.cfm_memory.specs.Instances.{with_instance}
use Rattle.cfm_memory.proofs.Entries.{instances}
use Rattle.cfm_memory.proofs.Filled.{length_filled}
use Rattle.cfm_memory.proofs.Placed.{placed_is, placed_kept}
use Rattle.cfm_memory.proofs.memory.Memory.put.Goals as goal

pub invariant_of-self-2 : goal.invariant_of-self-2
invariant_of-self-2 c =
    let es = c.self.inside.instances.entries in
    let v = c.in_ok-bytes.bytes in
    let view_is = c.self.view_is in
    let is : instances c.insert.new.self.entries ≡ with_instance (instances es) (record { address = c.args.address; bytes = v.items }) = ap instances c.in_ok-insert.ensures.entries ∙ placed_is c.self.inside.granule.bytes _ c.self.inside.limit c.args.size c.args.alignment c.args.address v es c.self.inside.reserved.items view_is c.requires.room in
    rw is (placed_kept c.self.inside.granule.bytes _ c.self.inside.limit c.self.inside.hints.rows c.args.size c.args.alignment c.args.address v.items (instances es) c.self.inside.reserved.items view_is (ap length c.in_ok-bytes.ensures ∙ length_filled c.args.image.now c.args.size c.requires.image) c.requires.room c.self.invariant)

pub returns-clause-placed : goal.returns-clause-placed
returns-clause-placed c =
    let es = c.self.inside.instances.entries in
    let v = c.in_ok-bytes.bytes in
    let view_is = c.self.view_is in
    let is : instances c.insert.new.self.entries ≡ with_instance (instances es) (record { address = c.args.address; bytes = v.items }) = ap instances c.in_ok-insert.ensures.entries ∙ placed_is c.self.inside.granule.bytes _ c.self.inside.limit c.args.size c.args.alignment c.args.address v es c.self.inside.reserved.items view_is c.requires.room in
    rw (← view_is, is, c.in_ok-bytes.ensures) refl
