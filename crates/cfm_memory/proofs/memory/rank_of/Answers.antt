-- The ranges so far end before it, and the next one decides.
use Rattle.std.proofs.Common.{◌≡◌, ◌+◌, ℕ, suc, List, take, sym, subst, insert, inl, inr, arith}
use Rattle.cfm_memory.specs.Kept.Searches.{AllPassed}
use Rattle.cfm_memory.specs.Reservation.{with_range}
use Rattle.cfm_memory.specs.declared.place.Reserved.{Reserved}
use Rattle.cfm_memory.proofs.Fronts.{clear_at}
use Rattle.cfm_memory.proofs.Reserving.{clear_here, insert_is, passed_next}
use Rattle.cfm_memory.proofs.memory.rank_of.Goals as goal

-- past the last range
abbrev nothing : Reserved
nothing = record { from = 0; to = 0 }

at_rank : (rs : List Reserved) (y : Reserved) (rank i : ℕ) → rank ≡ i → insert rs i y ≡ with_range rs y → insert rs rank y ≡ with_range rs y
at_rank rs y rank i same is = subst (λ n. insert rs n y ≡ with_range rs y) (sym same) is

pub returns-then-range-other-clause-clear : goal.returns-then-range-other-clause-clear
returns-then-range-other-clause-clear c =
    clear_here c.args.range.from c.args.range.to 0 c.loop-other.other-index c.args.ranges.now nothing c.requires.in_turn c.loop-other.invariant.passed (λ under. c.if-range-other.true)

pub returns-then-range-other-clause-inserted : goal.returns-then-range-other-clause-inserted
returns-then-range-other-clause-inserted c =
    at_rank c.args.ranges.now c.args.range c.loop-other.rank c.loop-other.other-index c.loop-other.invariant.rank
    (insert_is 0 c.loop-other.other-index c.args.ranges.now c.args.range nothing c.requires.some (omega arith) c.requires.in_turn c.loop-other.invariant.passed (λ under. c.if-range-other.true))

pub returns-then-range-other-2-clause-meets : goal.returns-then-range-other-2-clause-meets
returns-then-range-other-2-clause-meets c = λ clear.
    elim (clear_at c.args.range.from c.args.range.to c.loop-other.other-index c.args.ranges.now nothing c.loop-other-test.true clear) [
      | inl h ↦ omega (arith, h, c.if-range-other.false)
      | inr h ↦ omega (arith, h, c.if-range-other-2.true)
    ]

pub loop-other-preserved : goal.loop-other-preserved
loop-other-preserved c =
    let next = passed_next c.args.range.from c.loop-other.other-index c.args.ranges.now nothing c.loop-other-test.true c.loop-other.invariant.passed c.if-range-other-2.false in
    let e : suc c.loop-other.other-index ≡ c.loop-other.other-index + 1 = omega arith in
    record { rank = omega (arith, c.loop-other.invariant.rank); passed = subst (λ n. AllPassed c.args.range.from (take n c.args.ranges.now)) e next }

pub returns-clause-clear : goal.returns-clause-clear
returns-clause-clear c =
    clear_here c.args.range.from c.args.range.to 0 c.loop-other.other-index c.args.ranges.now nothing c.requires.in_turn c.loop-other.invariant.passed (λ under. absurd (omega (arith, under, c.loop-other-test.false)))

pub returns-clause-inserted : goal.returns-clause-inserted
returns-clause-inserted c =
    at_rank c.args.ranges.now c.args.range c.loop-other.rank c.loop-other.other-index c.loop-other.invariant.rank
    (insert_is 0 c.loop-other.other-index c.args.ranges.now c.args.range nothing c.requires.some (omega arith) c.requires.in_turn c.loop-other.invariant.passed (λ under. absurd (omega (arith, under, c.loop-other-test.false))))
