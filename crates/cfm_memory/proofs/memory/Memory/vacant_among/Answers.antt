-- The search continues after a range that is in the way, and ends before one that isn't.
use Rattle.std.proofs.Common.{◌≡◌, ◌+◌, ℕ, suc, List, take, subst, arith}
use Rattle.cfm_memory.specs.Kept.Searches.{AllPassed}
use Rattle.cfm_memory.specs.declared.place.Reserved.{Reserved}
use Rattle.cfm_memory.proofs.Fronts.{between_past}
use Rattle.cfm_memory.proofs.Reserving.{clear_here, least_first, least_past, least_vacant, passed_more, passed_next, range_ends, range_some}
use Rattle.cfm_memory.proofs.memory.Memory.vacant_among.Goals as goal
use Rattle.cfm_memory.proofs.memory.Memory.vacant_among.Goals.{else-address-range, then-address-range}

-- past the last range
abbrev nothing : Reserved
nothing = record { from = 0; to = 0 }

pub loop-range-init : goal.loop-range-init
loop-range-init c = record {
  bound = c.first_free-address.ensures.bound;
  least = least_first c.args.self.now.granule c.args.taken c.args.step c.args.from c.first_free-address.result c.args.self.now.instances c.args.ranges.now c.first_free-address.ensures.first;
  passed = tt;
}

pub returns-then-address-taken-clause-first : goal.returns-then-address-taken-clause-first
returns-then-address-taken-clause-first c =
    let clear = clear_here c.loop-range.address (c.loop-range.address + c.args.taken) 0 c.loop-range.range-index c.args.ranges.now nothing c.requires.in_turn c.loop-range.invariant.passed (λ under. c.if-address-taken.true) in
    least_vacant c.args.self.now.granule c.args.taken c.args.step c.args.from c.loop-range.address c.args.self.now.instances c.args.ranges.now c.loop-range.invariant.least clear

pub first_free-address-requires-then-address-range-clause-from : goal.first_free-address-requires-then-address-range-clause-from
first_free-address-requires-then-address-range-clause-from c = range_ends 0 c.loop-range.range-index c.args.ranges.now nothing c.loop-range-test.true c.requires.in_turn

pub first_free-address-requires-then-address-range-clause-between : goal.first_free-address-requires-then-address-range-clause-between
first_free-address-requires-then-address-range-clause-between c =
    between_past c.args.self.now.granule c.args.self.now.instances c.args.ranges.now c.loop-range.range-index nothing c.loop-range-test.true (range_some 0 c.loop-range.range-index c.args.ranges.now nothing c.loop-range-test.true c.requires.in_turn) c.requires.clear

next_index : (a i : ℕ) (rs : List Reserved) → AllPassed a (take (suc i) rs) → AllPassed a (take (i + 1) rs)
next_index a i rs passed = let e : suc i ≡ i + 1 = omega arith in subst (λ n. AllPassed a (take n rs)) e passed

pub loop-range-preserved : goal.loop-range-preserved
loop-range-preserved c =
    let rs = c.args.ranges.now in
    let least = c.loop-range.invariant.least in
    elim c.if-address-range.branch [
      | then-address-range w ↦
          (let first = w.first_free-address-then-address-range.ensures.first in
          let next = least_past c.args.self.now.granule c.args.taken c.args.step c.args.from c.loop-range.address w.first_free-address-then-address-range.result c.loop-range.range-index c.args.self.now.instances rs nothing c.loop-range-test.true c.if-address-taken.false w.if-address-range.true least first in
          let more = passed_more c.loop-range.address w.first_free-address-then-address-range.result (take c.loop-range.range-index rs) (omega (arith, w.if-address-range.true, first.low)) c.loop-range.invariant.passed in
          rw w.address-is (record {
            bound = w.first_free-address-then-address-range.ensures.bound;
            least = next;
            passed = next_index w.first_free-address-then-address-range.result c.loop-range.range-index rs (passed_next w.first_free-address-then-address-range.result c.loop-range.range-index rs nothing c.loop-range-test.true more first.low);
          }))
      | else-address-range w ↦ rw w.address-is (record {
        bound = c.loop-range.invariant.bound;
        least = least;
        passed = next_index c.loop-range.address c.loop-range.range-index rs (passed_next c.loop-range.address c.loop-range.range-index rs nothing c.loop-range-test.true c.loop-range.invariant.passed w.if-address-range.false);
      })
    ]

pub returns-clause-first : goal.returns-clause-first
returns-clause-first c =
    let clear = clear_here c.loop-range.address (c.loop-range.address + c.args.taken) 0 c.loop-range.range-index c.args.ranges.now nothing c.requires.in_turn c.loop-range.invariant.passed (λ under. absurd (omega (arith, under, c.loop-range-test.false))) in
    least_vacant c.args.self.now.granule c.args.taken c.args.step c.args.from c.loop-range.address c.args.self.now.instances c.args.ranges.now c.loop-range.invariant.least clear
