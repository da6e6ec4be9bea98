-- The map has the bytes of the instance.
use Rattle.std.proofs.Common.{◌≡◌, nat_eq, refl, sym, ◌∙◌}
use Rattle.cfm_memory.specs.Instances.{holds_place}
use Rattle.cfm_memory.proofs.Changes.{in_order_seen, place_clear}
use Rattle.cfm_memory.proofs.Entries.{bytes_found, instances, none_found}
use Rattle.cfm_memory.proofs.memory.Memory.holds.Goals as goal

pub returns-in-Some-clause-held : goal.returns-in-Some-clause-held
returns-in-Some-clause-held c =
    let is = bytes_found c.self.inside.instances.entries c.args.place.address c.in-Some.bytes.now c.in-Some.ensures.value in
    rw (← c.self.view_is, is, c.len.ensures, c.in-Some.bytes.now.ok.0) refl

pub returns-in-None-clause-held : goal.returns-in-None-clause-held
returns-in-None-clause-held c =
    let is = none_found c.self.inside.instances.entries c.args.place.address c.in-None.ensures.value in
    rw (← c.self.view_is, is) refl

pub returns-in-Some-clause-clear : goal.returns-in-Some-clause-clear
returns-in-Some-clause-clear c = λ tells.
    let order = in_order_seen c.self.inside.granule.bytes c.self.inside.limit c.self.inside.hints.rows (instances c.self.inside.instances.entries) c.self.inside.reserved.items c.args.self.now c.self.view_is c.self.invariant in
    let is = bytes_found c.self.inside.instances.entries c.args.place.address c.in-Some.bytes.now c.in-Some.ensures.value in
    let held : nat_eq c.len.result c.args.place.size ≡ holds_place c.args.self.now c.args.place = rw (← c.self.view_is, is, c.len.ensures, c.in-Some.bytes.now.ok.0) refl in
    place_clear c.args.self.now c.args.place order (sym held ∙ tells)
