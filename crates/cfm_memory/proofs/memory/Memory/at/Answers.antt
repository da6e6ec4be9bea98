-- The range lies in the last instance that begins up to its address, or nowhere.
use Rattle.std.proofs.Common.{◌≡◌, ℕ, [], ◌∷◌, ◌++◌, sym, ◌∙◌}
use Rattle.std.specs.Global.{Vec}
use Rattle.cfm_memory.specs.Views.{instance_seen}
use Rattle.cfm_memory.specs.Limits.{first_address}
use Rattle.cfm_memory.proofs.Changes.{found_clear, in_order_seen}
use Rattle.cfm_memory.proofs.Entries.{entries_to, instances, last_begins, none_to, part_is, range_of_last}
use Rattle.cfm_memory.proofs.memory.Memory.at.Goals as goal

pub returns-in_err-start-clause-range : goal.returns-in_err-start-clause-range
returns-in_err-start-clause-range c =
    let es = c.self.inside.instances.entries in
    let none : entries_to c.args.address es ≡ [] = sym (c.range.ensures.between tt) ∙ c.in_err-start.ensures.steps.0 in
    rw (c.from_residual.ensures, ← c.self.view_is) (sym (none_to es c.args.address c.args.len none))

pub returns-clause-range : goal.returns-clause-range
returns-clause-range c =
    let es = c.self.inside.instances.entries in
    let last : ℕ × Vec ℕ = (c.in_ok-start.start.now, c.in_ok-start.bytes.now) in
    let is : entries_to c.args.address es ≡ c.next_back.new.self ++ last ∷ [] = sym (c.range.ensures.between tt) ∙ c.in_ok-start.ensures.steps in
    let begins = last_begins es c.next_back.new.self last c.args.address is in
    let there = range_of_last c.self.inside.granule.bytes first_address c.self.inside.limit es c.next_back.new.self last c.args.address c.args.len c.self.invariant.laid_out is in
    rw (c.range_of.ensures, c.deref.ensures.value, ← c.self.view_is) (part_is (instance_seen last) c.args.address c.args.len begins ∙ sym there)

pub returns-clause-clear : goal.returns-clause-clear
returns-clause-clear c =
    let order = in_order_seen c.self.inside.granule.bytes c.self.inside.limit c.self.inside.hints.rows (instances c.self.inside.instances.entries) c.self.inside.reserved.items c.args.self.now c.self.view_is c.self.invariant in
    found_clear c.args.self.now c.range_of.result c.args.address c.args.len order (returns-clause-range c)
