-- The last instance that begins before the end of the range decides.
use Rattle.std.proofs.Common.{◌≡◌, ◌+◌, ◌-◌, ◌<◌, ◌≤◌, ℕ, length, sym, ap, subst, ◌∙◌, inl, inr, leb, true, false, arith}
use Rattle.std.specs.Global.{Vec}
use Rattle.std.proofs.lemmas.Bool.Decides.{leb_tells}
use Rattle.cfm_memory.specs.Limits.{first_address}
use Rattle.cfm_memory.specs.Placement.{IsFree, end_of, taken}
use Rattle.cfm_memory.specs.Views.{instance_seen}
use Rattle.cfm_memory.proofs.Entries.{free_of_last, free_of_none, instances, last_begins, last_ends, last_free}
use Rattle.cfm_memory.proofs.Placing.{within_taken}
use Rattle.cfm_memory.proofs.memory.Memory.is_free.Goals as goal

pub taken_by-requires : goal.taken_by-requires
taken_by-requires c =
    let es = c.self.inside.instances.entries in
    let e : ℕ × Vec ℕ = (c.in-Some.start.now, c.in-Some.bytes.now) in
    let at = sym (c.range.ensures.between tt) ∙ c.in-Some.ensures.steps in
    let ends = last_ends c.self.inside.granule.bytes first_address c.self.inside.limit es c.next_back.new.self e _ c.self.invariant.laid_out at in
    let within = within_taken c.self.inside.granule.bytes (length c.in-Some.bytes.now.items) in
    omega (arith, ends, within, c.self.invariant.small, c.len.ensures, c.in-Some.bytes.now.ok.0)

pub overflow_add-result : goal.overflow_add-result
overflow_add-result c =
    let es = c.self.inside.instances.entries in
    let e : ℕ × Vec ℕ = (c.in-Some.start.now, c.in-Some.bytes.now) in
    let at = sym (c.range.ensures.between tt) ∙ c.in-Some.ensures.steps in
    let ends = last_ends c.self.inside.granule.bytes first_address c.self.inside.limit es c.next_back.new.self e _ c.self.invariant.laid_out at in
    let takes : c.taken_by.result ≡ taken c.self.inside.granule.bytes (length c.in-Some.bytes.now.items) = c.taken_by.ensures ∙ ap (taken c.self.inside.granule.bytes) (c.len.ensures ∙ c.in-Some.bytes.now.ok.0) in
    omega (arith, ends, takes, c.self.invariant.small, c.from.ensures)

leb_yes : (a b : ℕ) → leb a b ≡ true → a ≤ b
leb_yes a b tells = elim (leb_tells a b) [ inl h ↦ h.1 | inr h ↦ (let other = h.0 in absurd (cc)) ]

leb_no : (a b : ℕ) → leb a b ≡ false → b < a
leb_no a b tells = elim (leb_tells a b) [ inl h ↦ (let other = h.0 in absurd (cc)) | inr h ↦ h.1 ]

pub returns-in-Some-clause-yes : goal.returns-in-Some-clause-yes
returns-in-Some-clause-yes c = λ tells.
    let es = c.self.inside.instances.entries in
    let e : ℕ × Vec ℕ = (c.in-Some.start.now, c.in-Some.bytes.now) in
    let at = sym (c.range.ensures.between tt) ∙ c.in-Some.ensures.steps in
    let takes : c.taken_by.result ≡ taken c.self.inside.granule.bytes (length c.in-Some.bytes.now.items) = c.taken_by.ensures ∙ ap (taken c.self.inside.granule.bytes) (c.len.ensures ∙ c.in-Some.bytes.now.ok.0) in
    let before : end_of c.self.inside.granule.bytes (instance_seen e) ≤ c.args.range.from = omega (arith, leb_yes (c.from.result + c.taken_by.result) c.args.range.from tells, takes, c.from.ensures) in
    let free = free_of_last c.self.inside.granule.bytes first_address c.self.inside.limit es c.next_back.new.self e c.args.range.from _ c.self.invariant.laid_out at before in
    let end : c.args.range.to - 1 + 1 ≡ c.args.range.to = omega (arith, c.requires.some) in
    rw (← c.self.view_is) (subst (λ n. IsFree c.self.inside.granule.bytes c.args.range.from n (instances es)) end free)

pub returns-in-Some-clause-no : goal.returns-in-Some-clause-no
returns-in-Some-clause-no c = λ tells free.
    let es = c.self.inside.instances.entries in
    let e : ℕ × Vec ℕ = (c.in-Some.start.now, c.in-Some.bytes.now) in
    let at = sym (c.range.ensures.between tt) ∙ c.in-Some.ensures.steps in
    let takes : c.taken_by.result ≡ taken c.self.inside.granule.bytes (length c.in-Some.bytes.now.items) = c.taken_by.ensures ∙ ap (taken c.self.inside.granule.bytes) (c.len.ensures ∙ c.in-Some.bytes.now.ok.0) in
    let begins = last_begins es c.next_back.new.self e _ at in
    let apart = last_free c.self.inside.granule.bytes es c.next_back.new.self e c.args.range.from c.args.range.to _ at (rw (← c.self.view_is) at free) in
    elim apart [
      | inl h ↦ omega (arith, h, begins, c.requires.some)
      | inr h ↦ omega (arith, h, takes, c.from.ensures, leb_no (c.from.result + c.taken_by.result) c.args.range.from tells)
    ]

pub returns-in-None-clause-yes : goal.returns-in-None-clause-yes
returns-in-None-clause-yes c = λ tells.
    let es = c.self.inside.instances.entries in
    let none = sym (c.range.ensures.between tt) ∙ c.in-None.ensures.steps.0 in
    let free = free_of_none c.self.inside.granule.bytes es c.args.range.from _ none in
    let end : c.args.range.to - 1 + 1 ≡ c.args.range.to = omega (arith, c.requires.some) in
    rw (← c.self.view_is) (subst (λ n. IsFree c.self.inside.granule.bytes c.args.range.from n (instances es)) end free)
