-- The search continues after an instance that is in the way, and ends before one that isn't.
use Rattle.std.proofs.Common.{◌≡◌, ℕ, ◌+◌, ◌%◌, ◌<◌, ◌≤◌, ◌^◌, max, List, ◌∷◌, Option, Some, Bor, length, ap, subst, ◌∙◌, inl, inr, arith}
use Rattle.std.specs.Global.{Vec}
use Rattle.std.specs.Map.Iter.{TakesFirst, deref_pair}
use Rattle.std.proofs.lemmas.Bool.{cases_lt}
use Rattle.std.proofs.lemmas.Map.Iter.{rest_more}
use Rattle.cfm_memory.specs.Instances.{Layout}
use Rattle.cfm_memory.specs.Kept.Searches.{IsFirstFree}
use Rattle.cfm_memory.specs.Views.{instance_seen}
use Rattle.cfm_memory.specs.Limits.{first_address}
use Rattle.cfm_memory.specs.Placement.{end_of, taken, IsFree}
use Rattle.cfm_memory.proofs.Changes.{laid_out_to}
use Rattle.cfm_memory.proofs.Entries.{entries_from, free_among, free_of_all, instances, laid_out_among}
use Rattle.cfm_memory.proofs.Placing.{free_past, no_multiple_between, first_before, first_after, first_from, within_taken}
use Rattle.cfm_memory.proofs.memory.Memory.first_free.Goals as goal

max_aligned : (a b r n : ℕ) → r ≡ max a b → a % n ≡ 0 → b % n ≡ 0 → r % n ≡ 0
max_aligned a b r n is a_is b_is =
    let P : ℕ → Type 0 = λ m. m % n ≡ 0 in
    elim (cases_lt a b) [
      | inl less ↦ (let e : b ≡ r = omega arith in subst P e b_is)
      | inr le ↦ (let e : a ≡ r = omega arith in subst P e a_is)
    ]

-- the first free address from an address on, among the instances from there on, is the first of all
first_of_all : (g bytes step from : ℕ) (es : List (ℕ × Vec ℕ)) (r : ℕ) → IsFree g from from (instances es) → IsFirstFree g bytes step from (instances (entries_from from es)) r → IsFirstFree g bytes step from (instances es) r
first_of_all g bytes step from es r between first = record {
  low = first.low;
  aligned = first.aligned;
  free = free_of_all g r (r + bytes) from es first.low between first.free;
  first = λ other low aligned free. first.first other low aligned (free_among g other (other + bytes) from es free);
}

pub loop-start-init : goal.loop-start-init
loop-start-init c =
    let e : c.into_iter-start-iterator.result ≡ entries_from c.args.from c.self.inside.instances.entries = c.into_iter-start-iterator.ensures.into_iter_gives ∙ c.range-start-items.ensures.between tt in
    let next = c.next_multiple_of-address.ensures in
    record {
      aligned = next.multiple;
      bound = omega (arith, next.upper_bound);
      laid_out = (first_address, rw (e, ← c.self.view_is) (laid_out_among c.self.inside.granule.bytes first_address (2 ^ 32) c.args.from c.self.inside.instances.entries (laid_out_to c.self.inside.granule.bytes first_address c.self.inside.limit (2 ^ 32) _ (omega (arith, c.self.invariant.small)) c.self.invariant.laid_out)));
      rest = λ r h. rw (← c.self.view_is) (first_of_all c.self.inside.granule.bytes c.args.taken c.args.step c.args.from c.self.inside.instances.entries r (rw (← c.self.view_is) at c.requires.between)
          (first_from c.self.inside.granule.bytes _ _ _ _ _ r (omega (arith, next.lower_bound)) (λ b low aligned. no_multiple_between _ b c.args.step (omega arith) next.multiple aligned (omega (arith, next.upper_bound))) (rw (e, ← c.self.view_is) at h)));
    }

-- past the limit there is no instance
pub returns-then-from-clause-first : goal.returns-then-from-clause-first
returns-then-from-clause-first c =
    let next = c.next_multiple_of-address.ensures in
    rw (← c.self.view_is) (record {
      low = next.lower_bound;
      aligned = next.multiple;
      free = free_past c.self.inside.granule.bytes first_address c.self.inside.limit _ _ (instances c.self.inside.instances.entries) (omega (arith, next.lower_bound)) c.self.invariant.laid_out;
      first = λ b low aligned free. no_multiple_between _ b c.args.step (omega arith) next.multiple aligned (omega (arith, next.upper_bound));
    })

-- the rest begins with the current instance
next_is : (s t : List (ℕ × Vec ℕ)) (r : Option (Bor ℕ × Bor (Vec ℕ))) (start : Bor ℕ) (bytes : Bor (Vec ℕ)) → r ≡ Some (start, bytes) → TakesFirst deref_pair s r t → instances s ≡ instance_seen (start.now, bytes.now) ∷ instances t
next_is s t r start bytes is steps = ap instances (rest_more deref_pair s t r (start, bytes) is steps)

pub taken_by-requires : goal.taken_by-requires
taken_by-requires c =
    let e = next_is c.loop-start.start-iterator c.next.new.self c.next.result c.in-Some.start c.in-Some.bytes c.in-Some.is c.next.ensures.steps in
    let laid = rw e at c.loop-start.invariant.laid_out.1 in
    omega (arith, laid.1, within_taken c.args.self.now.granule (length c.in-Some.bytes.now.items), c.len.ensures, c.in-Some.bytes.now.ok.0)

pub returns-then-address-taken-clause-first : goal.returns-then-address-taken-clause-first
returns-then-address-taken-clause-first c =
    let x = instance_seen (c.in-Some.start.now, c.in-Some.bytes.now) in
    let e = next_is c.loop-start.start-iterator c.next.new.self c.next.result c.in-Some.start c.in-Some.bytes c.in-Some.is c.next.ensures.steps in
    let laid = rw e at c.loop-start.invariant.laid_out.1 in
    let before : c.loop-start.address + c.args.taken ≤ x.address = omega (arith, c.from-start.ensures) in
    c.loop-start.invariant.rest _ (rw e (first_before c.args.self.now.granule _ _ _ _ _ x _ c.loop-start.invariant.aligned before laid))

pub loop-start-preserved : goal.loop-start-preserved
loop-start-preserved c =
    let x = instance_seen (c.in-Some.start.now, c.in-Some.bytes.now) in
    let e = next_is c.loop-start.start-iterator c.next.new.self c.next.result c.in-Some.start c.in-Some.bytes c.in-Some.is c.next.ensures.steps in
    let laid = rw e at c.loop-start.invariant.laid_out.1 in
    let takes : c.taken_by.result ≡ taken c.args.self.now.granule (length x.bytes) = c.taken_by.ensures ∙ ap (taken c.self.inside.granule.bytes) (c.len.ensures ∙ c.in-Some.bytes.now.ok.0) ∙ ap (λ (m : Layout). taken m.granule (length x.bytes)) c.self.view_is in
    let over : x.address < c.loop-start.address + c.args.taken = omega (arith, c.from-start.ensures) in
    let next = c.next_multiple_of.ensures in
    let behind : end_of c.args.self.now.granule x ≤ c.max-address.result = omega (arith, takes, c.from-start.ensures, next.lower_bound, c.max-address.ensures) in
    record {
      aligned = max_aligned _ _ _ _ c.max-address.ensures c.loop-start.invariant.aligned next.multiple;
      bound = omega (arith, laid.1, takes, c.from-start.ensures, next.upper_bound, c.max-address.ensures, c.loop-start.invariant.bound);
      laid_out = (end_of c.args.self.now.granule x, laid.2);
      rest = λ r h. c.loop-start.invariant.rest r (rw e (first_after c.args.self.now.granule c.args.taken c.args.step c.loop-start.address c.max-address.result x _ r over (omega (arith, c.max-address.ensures)) behind
          (λ b low past aligned.
          let near = no_multiple_between c.next_multiple_of.result b c.args.step (omega arith) next.multiple aligned (omega (arith, takes, c.from-start.ensures, next.upper_bound, past)) in
          omega (arith, near, low, c.max-address.ensures)) h));
    }
