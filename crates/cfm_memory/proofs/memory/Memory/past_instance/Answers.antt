-- The last instance that begins up to the address decides.
use Rattle.std.proofs.Common.{◌≡◌, ◌+◌, ℕ, max, length, sym, ap, ◌∙◌, arith}
use Rattle.std.specs.Global.{Vec}
use Rattle.cfm_memory.specs.Limits.{first_address}
use Rattle.cfm_memory.specs.Placement.{end_of, taken}
use Rattle.cfm_memory.specs.Views.{instance_seen}
use Rattle.cfm_memory.proofs.Entries.{instances, last_ends}
use Rattle.cfm_memory.proofs.Placing.{free_past, within_taken}
use Rattle.cfm_memory.proofs.Remembered.{past_last, past_none}
use Rattle.cfm_memory.proofs.memory.Memory.past_instance.Goals as goal

pub returns-then-from-clause-past : goal.returns-then-from-clause-past
returns-then-from-clause-past c = rw (← c.self.view_is) (record {
  low = omega arith;
  between = free_past c.self.inside.granule.bytes first_address c.self.inside.limit c.args.from c.args.from (instances c.self.inside.instances.entries) (omega (arith, c.if-from.true, c.from.ensures)) c.self.invariant.laid_out;
  full = λ other low free. low;
})

pub taken_by-requires : goal.taken_by-requires
taken_by-requires c =
    let es = c.self.inside.instances.entries in
    let e : ℕ × Vec ℕ = (c.in-Some.start.now, c.in-Some.bytes.now) in
    let at = sym (c.range.ensures.between tt) ∙ c.in-Some.ensures.steps in
    let ends = last_ends c.self.inside.granule.bytes first_address c.self.inside.limit es c.next_back.new.self e _ c.self.invariant.laid_out at in
    let within = within_taken c.self.inside.granule.bytes (length c.in-Some.bytes.now.items) in
    omega (arith, ends, within, c.self.invariant.small, c.len.ensures, c.in-Some.bytes.now.ok.0)

pub overflow_add-from : goal.overflow_add-from
overflow_add-from c =
    let es = c.self.inside.instances.entries in
    let e : ℕ × Vec ℕ = (c.in-Some.start.now, c.in-Some.bytes.now) in
    let at = sym (c.range.ensures.between tt) ∙ c.in-Some.ensures.steps in
    let ends = last_ends c.self.inside.granule.bytes first_address c.self.inside.limit es c.next_back.new.self e _ c.self.invariant.laid_out at in
    let takes : c.taken_by.result ≡ taken c.self.inside.granule.bytes (length c.in-Some.bytes.now.items) = c.taken_by.ensures ∙ ap (taken c.self.inside.granule.bytes) (c.len.ensures ∙ c.in-Some.bytes.now.ok.0) in
    omega (arith, ends, takes, c.self.invariant.small, c.from-in-Some.ensures)

pub returns-in-Some-clause-past : goal.returns-in-Some-clause-past
returns-in-Some-clause-past c =
    let es = c.self.inside.instances.entries in
    let e : ℕ × Vec ℕ = (c.in-Some.start.now, c.in-Some.bytes.now) in
    let at = sym (c.range.ensures.between tt) ∙ c.in-Some.ensures.steps in
    let takes : c.taken_by.result ≡ taken c.self.inside.granule.bytes (length c.in-Some.bytes.now.items) = c.taken_by.ensures ∙ ap (taken c.self.inside.granule.bytes) (c.len.ensures ∙ c.in-Some.bytes.now.ok.0) in
    let ends : c.from-in-Some.result + c.taken_by.result ≡ end_of c.self.inside.granule.bytes (instance_seen e) = omega (arith, takes, c.from-in-Some.ensures) in
    rw (← c.self.view_is) (past_last c.self.inside.granule.bytes c.args.from c.max.result c.self.inside.limit es c.next_back.new.self e (c.max.ensures ∙ ap (max c.args.from) ends) c.self.invariant.laid_out at)

pub returns-in-Some-clause-bound : goal.returns-in-Some-clause-bound
returns-in-Some-clause-bound c =
    let es = c.self.inside.instances.entries in
    let e : ℕ × Vec ℕ = (c.in-Some.start.now, c.in-Some.bytes.now) in
    let at = sym (c.range.ensures.between tt) ∙ c.in-Some.ensures.steps in
    let ends = last_ends c.self.inside.granule.bytes first_address c.self.inside.limit es c.next_back.new.self e _ c.self.invariant.laid_out at in
    let takes : c.taken_by.result ≡ taken c.self.inside.granule.bytes (length c.in-Some.bytes.now.items) = c.taken_by.ensures ∙ ap (taken c.self.inside.granule.bytes) (c.len.ensures ∙ c.in-Some.bytes.now.ok.0) in
    omega (arith, ends, takes, c.self.invariant.small, c.from-in-Some.ensures, c.max.ensures, c.requires)

pub returns-in-None-clause-past : goal.returns-in-None-clause-past
returns-in-None-clause-past c =
    let none = sym (c.range.ensures.between tt) ∙ c.in-None.ensures.steps.0 in
    rw (← c.self.view_is) (past_none c.self.inside.granule.bytes c.args.from c.self.inside.instances.entries none)
