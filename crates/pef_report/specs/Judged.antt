-- What the errors of an inspection say of a container.
use Rattle.std.specs.Prelude.{◌≡◌, ℕ, true, false, List}
use Rattle.std.specs.List.{AllByRecursion}
use Rattle.pef_inspect.specs.Findings.{is_unverified}
use Rattle.pef_inspect.specs.Sound.{IsSound}
use Rattle.pef_inspect.specs.declared.limits.Limits.{Limits}
use Rattle.pef_report.specs.Inspection.{Inspected, InspectsWithin, count_chosen}

-- if an inspection within any limits counts no error, and has no note that something wasn't verified, the bytes are a sound
-- container. Of a sound container it counts no error
pub record JudgesRight : Type 0 where
  pub sound : (limits : Limits) (base : ℕ) (bytes : List ℕ) (i : Inspected) → InspectsWithin limits base bytes i → count_chosen true i.findings ≡ 0
      → AllByRecursion (λ f. is_unverified f ≡ false) i.findings → IsSound bytes
  pub none : (limits : Limits) (base : ℕ) (bytes : List ℕ) (i : Inspected) → InspectsWithin limits base bytes i → IsSound bytes → count_chosen true i.findings ≡ 0
