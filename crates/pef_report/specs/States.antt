-- What the verdict on a container says of it.
use Rattle.std.specs.Prelude.{◌≡◌, ◌≢◌, ◌↔◌, ◌<◌, ◌≤◌, ◌⊎◌, ℕ, true, false, List}
use Rattle.std.specs.List.{AllByRecursion}
use Rattle.pef_inspect.specs.Findings.{finding_number, is_error}
use Rattle.pef_inspect.specs.Sound.{IsSound}
use Rattle.pef_inspect.specs.declared.finding.Finding.{Finding}
use Rattle.pef_inspect.specs.declared.limits.Limits.{Limits}
use Rattle.pef_report.specs.Inspection.{Inspected, InspectsWithin, count_chosen}
use Rattle.pef_report.specs.Verdict.{verdict_of}
use Rattle.pef_report.specs.declared.verdict.State.TheVariants as state
use Rattle.pef_report.specs.declared.verdict.Verdict.{Verdict}

-- the verdict of an inspection
abbrev pub verdict_on : Inspected → Verdict
verdict_on i = verdict_of i.bytes i.findings

-- a container is whole, has the bytes that it needs, and so are its parts
pub record IsWholeVerdict (v : Verdict) : Type 0 where
  pub state : v.state ≡ state.Whole
  pub enough : v.needs ≤ v.has
  pub sections : v.sections ≡ false
  pub imports : v.imports ≡ false
  pub exports : v.exports ≡ false
  pub relocations : v.relocations ≡ false

-- each error has one of two numbers
abbrev pub HasOnly : ℕ → ℕ → List Finding → Type 0
HasOnly one two findings = AllByRecursion (λ f. is_error f ≡ true → (finding_number f ≡ one) ⊎ (finding_number f ≡ two)) findings

-- an inspection within any limits counts no error exactly if its verdict is `whole`, and then the verdict is so of each part. So is
-- that on a sound container. A verdict is `cut` exactly if a container that isn't unlikely has fewer bytes than it needs. It is `stub` only if a
-- section's kind and the lack of a loader section are the only errors (7, 10), and `m68k` only if the architecture is (3); these two
-- have errors, and the bytes that they need
pub record VerdictsAreRight : Type 0 where
  pub whole : (limits : Limits) (base : ℕ) (bytes : List ℕ) (i : Inspected) → InspectsWithin limits base bytes i → ((verdict_on i).state ≡ state.Whole) ↔ (count_chosen true i.findings ≡ 0)
  pub parts : (limits : Limits) (base : ℕ) (bytes : List ℕ) (i : Inspected) → InspectsWithin limits base bytes i → (verdict_on i).state ≡ state.Whole → IsWholeVerdict (verdict_on i)
  pub sound : (limits : Limits) (base : ℕ) (bytes : List ℕ) (i : Inspected) → InspectsWithin limits base bytes i → IsSound bytes → IsWholeVerdict (verdict_on i)
  pub cut : (i : Inspected) → ((verdict_on i).state ≡ state.Cut) ↔ (((verdict_on i).has < (verdict_on i).needs) × ((verdict_on i).state ≢ state.Unlikely))
  pub stub : (i : Inspected) → (verdict_on i).state ≡ state.Stub → HasOnly 7 10 i.findings × ((verdict_on i).needs ≤ (verdict_on i).has) × (count_chosen true i.findings ≢ 0)
  pub m68k : (i : Inspected) → (verdict_on i).state ≡ state.M68k → HasOnly 3 3 i.findings × ((verdict_on i).needs ≤ (verdict_on i).has) × (count_chosen true i.findings ≢ 0)
  pub damaged : (i : Inspected) → (verdict_on i).state ≡ state.Damaged → ((verdict_on i).needs ≤ (verdict_on i).has) × (count_chosen true i.findings ≢ 0)
