-- The map is without the entry of that address.
use Rattle.std.proofs.Common.{◌≡◌, refl, ap, ◌∙◌}
use Rattle.cfm_memory.specs.Instances.{without}
use Rattle.cfm_memory.proofs.Entries.{instances, removed_is}
use Rattle.cfm_memory.proofs.Placed.{given_back_kept}
use Rattle.cfm_memory.proofs.memory.Memory.give_back.Goals as goal

pub invariant_of-self : goal.invariant_of-self
invariant_of-self c =
    let es = c.self.inside.instances.entries in
    let is : instances c.remove.new.self.entries ≡ without (instances es) c.args.place.address = ap instances c.remove.ensures.entries ∙ removed_is es c.args.place.address in
    rw is (given_back_kept c.self.inside.granule.bytes c.self.inside.limit c.args.place.address c.self.inside.hints.rows c.lower.new.self.rows (instances es) c.self.inside.reserved.items c.lower.ensures.len (rw c.from.ensures at c.lower.ensures.rows) c.self.invariant)

pub returns-clause-given_back : goal.returns-clause-given_back
returns-clause-given_back c =
    let es = c.self.inside.instances.entries in
    let is : instances c.remove.new.self.entries ≡ without (instances es) c.args.place.address = ap instances c.remove.ensures.entries ∙ removed_is es c.args.place.address in
    rw (← c.self.view_is, is) refl
