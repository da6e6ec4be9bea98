-- A write through the part changes that entry alone.
use Rattle.std.proofs.Common.{◌≡◌, Some, refl, sym, ap, ◌∙◌}
use Rattle.std.specs.Option.{option_copied_mut}
use Rattle.std.specs.Vec.{with_items}
use Rattle.cfm_memory.specs.Instances.{with_bytes}
use Rattle.cfm_memory.proofs.Entries.{bytes_found, found, held_found, held_length, instances, lent_there, written_is}
use Rattle.cfm_memory.proofs.Placed.{written_kept}
use Rattle.cfm_memory.proofs.memory.Memory.part_mut.Goals as goal

pub unwrap-bytes-requires : goal.unwrap-bytes-requires
unwrap-bytes-requires c = lent_there c.get_mut.result _ c.get_mut.ensures.value (held_found c.self.inside.granule.bytes c.self.inside.instances.entries c.self.inside.limit c.self.inside.reserved.items c.args.place c.args.self.now c.self.view_is c.requires)

pub invariant_of-self-lent : goal.invariant_of-self-lent
invariant_of-self-lent c = λ w.
    let es = c.self.inside.instances.entries in
    let v = c.unwrap-bytes.result.now in
    let there : Some v ≡ found es c.args.place.address = ap option_copied_mut (sym c.unwrap-bytes.ensures) ∙ c.get_mut.ensures.value in
    let is : instances (c.get_mut.follows.lender (with_items v w)).entries ≡ with_bytes (instances es) c.args.place.address w = ap instances (c.get_mut.follows.holds (with_items v w)).0 ∙ written_is es c.args.place.address v (with_items v w) w there (rw (v.ok.0) refl) in
    rw is (written_kept c.self.inside.granule.bytes c.self.inside.limit c.self.inside.hints.rows c.args.place.address w (instances es) c.self.inside.reserved.items c.self.invariant)

pub returns : goal.returns
returns c =
    let es = c.self.inside.instances.entries in
    let v = c.unwrap-bytes.result.now in
    let there : Some v ≡ found es c.args.place.address = ap option_copied_mut (sym c.unwrap-bytes.ensures) ∙ c.get_mut.ensures.value in
    let bytes = bytes_found es c.args.place.address v there in (
      (
        refl,
        λ w.
            let is : instances (c.get_mut.follows.lender (with_items v w)).entries ≡ with_bytes (instances es) c.args.place.address w = ap instances (c.get_mut.follows.holds (with_items v w)).0 ∙ written_is es c.args.place.address v (with_items v w) w there (rw (v.ok.0) refl) in
            rw (← c.self.view_is, is) refl,
      ),
      record {
        writes_back = tt;
        bytes = rw (← c.self.view_is, c.as_mut_slice.ensures.value) bytes;
        len = rw c.as_mut_slice.ensures.value (held_length c.self.inside.granule.bytes es c.self.inside.limit c.self.inside.reserved.items c.args.place c.args.self.now v.items c.self.view_is c.requires bytes);
      },
    )
