-- The versions of a stub fit each entry that they are made of.
use Rattle.std.proofs.Common.{◌≡◌, ◌≤◌, List, [], ◌∷◌, Option, Some, inl, inr, refl, sym, ap, subst, arith}
use Rattle.std.specs.Prelude.{fold, unwrap_or}
use Rattle.std.specs.List.{AllByRecursion}
use Rattle.std.proofs.lemmas.Bool.{le-leb, le-ltb}
use Rattle.std.proofs.lemmas.Bool.Decides.{eqb_tells}
use Rattle.pef_loader.specs.Library.{Library}
use Rattle.pef_script.specs.declared.parts.Versions.{Versions}
use Rattle.cfm_closure.specs.declared.versions.Definition.{Definition}
use Rattle.cfm_closure.specs.declared.versions.Implementation.{Implementation}
use Rattle.cfm_closure.specs.declared.versions.Fit.TheVariants.{Fits}
use Rattle.cfm_closure.specs.Libraries.{definition_of}
use Rattle.cfm_closure.specs.Versions.{fit_of}
use Rattle.cfm_stubs.specs.Fits.{implementation}
use Rattle.cfm_stubs.specs.Versions.{noted, served, versions_for}

-- a definition that isn't newer, and that isn't older than the oldest that is served
fits_if : (d : Definition) (i : Implementation) → d.current ≤ i.current → i.old_def ≤ d.current → fit_of d i ≡ Fits
fits_if d i low high =
    elim (eqb_tells d.current i.current) [
      | inl same ↦ rw same.0 refl
      | inr other ↦ rw (other.0, le-ltb i.current d.current low, le-leb i.old_def d.current high) refl
    ]

-- versions serve an entry
record IsServed (v : Versions) (l : Library) : Type 0 where
  low : l.fields.current ≤ v.current
  high : v.old_def ≤ l.fields.current

-- .. and all of some entries, if they are made of some versions and these
record AreServed (v : Versions) (entries : List Library) : Type 0 where
  last : Versions
  is : fold noted (Some v) entries ≡ Some last
  newer : v.current ≤ last.current
  older : last.old_def ≤ v.old_def
  each : AllByRecursion (IsServed last) entries

all_served : (v : Versions) (entries : List Library) → AreServed v entries
all_served v [] = record { last = v; is = refl; newer = omega arith; older = omega arith; each = tt }
all_served v (l ∷ entries) =
    let later = all_served (served v l) entries in
    record {
      last = later.last;
      is = later.is;
      newer = omega (arith, later.newer);
      older = omega (arith, later.older);
      each = (record { low = omega (arith, later.newer); high = omega (arith, later.older) }, later.each);
    }

each_fits : (v : Versions) (entries : List Library) → AllByRecursion (IsServed v) entries → AllByRecursion (λ (l : Library). fit_of (definition_of l) (implementation v) ≡ Fits) entries
each_fits v [] each = tt
each_fits v (l ∷ entries) each = (fits_if (definition_of l) (implementation v) each.0.low each.0.high, each_fits v entries each.1)

-- the versions fit each entry
pub versions_fit : (entries : List Library) → AllByRecursion (λ (l : Library). fit_of (definition_of l) (implementation (versions_for entries)) ≡ Fits) entries
versions_fit [] = tt
versions_fit (l ∷ entries) =
    let own : Versions = record { current = l.fields.current; old_def = l.fields.current; old_imp = l.fields.old_imp } in
    let all = all_served own entries in
    let last : versions_for (l ∷ entries) ≡ all.last = ap (λ (o : Option Versions). unwrap_or o (record { current = 0; old_def = 0; old_imp = 0 })) all.is in
    let P : Versions → Type 0 = λ v. AllByRecursion (λ (l : Library). fit_of (definition_of l) (implementation v) ≡ Fits) (l ∷ entries) in
    subst P (sym last) (each_fits all.last (l ∷ entries) (record { low = all.newer; high = all.older }, all.each))
