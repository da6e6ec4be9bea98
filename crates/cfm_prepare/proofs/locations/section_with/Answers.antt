-- A fragment that doesn't have the address is passed over.
use Rattle.std.proofs.Common.{◌<◌, suc, length, sym, subst, inl, inr, arith}
use Rattle.std.proofs.lemmas.Bool.Decides.{eqb_tells, leb_tells}
use Rattle.cfm_prepare.specs.Fragments.{places_of}
use Rattle.cfm_prepare.specs.Locations.{IsIn}
use Rattle.cfm_prepare.proofs.locations.section_with.Goals as goal

pub loop-position-preserved : goal.loop-position-preserved
loop-position-preserved c = λ p under k offset is. elim (eqb_tells p c.loop-position.position) [
  | inl same ↦ (
      let here = subst (λ q. IsIn (places_of c.args.fragments.now.present q) c.args.address k offset) same.1 is in
      c.in_default.ensures.none k offset (subst (λ places. IsIn places c.args.address k offset) (sym c.places.ensures) here))
  | inr apart ↦ c.loop-position.invariant p (omega (arith, under, apart.1)) k offset is
]

pub returns-clause-none : goal.returns-clause-none
returns-clause-none c = λ p k offset is. elim (leb_tells (suc p) c.loop-position.position) [
  | inl before ↦ c.loop-position.invariant p before.1 k offset is
  | inr past ↦ (
      let none = c.end-position-end.ensures p (omega (arith, past.1, c.loop-position-test.false)) in
      let under = subst (λ places. k < length places) none is.0 in
      absurd (omega (arith, under)))
]
