-- A place that doesn't have the address is passed over.
use Rattle.std.proofs.Common.{subst, inl, inr, arith}
use Rattle.std.proofs.lemmas.Bool.Decides.{eqb_tells}
use Rattle.cfm_memory.specs.Extents.{place_at}
use Rattle.cfm_prepare.specs.Locations.{IsInto}
use Rattle.cfm_prepare.proofs.locations.place_with.Goals as goal

pub loop-k-preserved : goal.loop-k-preserved
loop-k-preserved c = λ k offset under is. elim (eqb_tells k c.loop-k.k) [
  | inl same ↦ c.in_default.ensures.none offset (subst (λ j. IsInto (place_at c.args.places.now j) c.args.address offset) same.1 is)
  | inr apart ↦ c.loop-k.invariant k offset (omega (arith, under, apart.1)) is
]

pub returns-clause-none : goal.returns-clause-none
returns-clause-none c = λ k offset is. c.loop-k.invariant k offset (omega (arith, is.0, c.loop-k-test.false)) is.1
