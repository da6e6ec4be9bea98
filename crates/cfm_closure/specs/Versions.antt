-- When the version of a found library serves a fragment (Mac OS Runtime Architectures, "Code Fragment
-- Manager", "Checking for Compatible Import Libraries"). Versions are unsigned.
use Rattle.std.specs.Prelude.{◌==◌, nat_lt, nat_le, if◌then◌else◌}
use Rattle.cfm_closure.specs.declared.versions.Definition.{Definition}
use Rattle.cfm_closure.specs.declared.versions.Implementation.{Implementation}
use Rattle.cfm_closure.specs.declared.versions.Fit.{Fit}
use Rattle.cfm_closure.specs.declared.versions.Fit.TheVariants.{Fits, TooOld, TooNew}

-- equal current versions fit. A newer definition accepts an implementation that isn't older than its
-- oldest one. An older definition is served if it isn't older than the implementation's oldest one
abbrev pub fit_of : Definition → Implementation → Fit
fit_of d i =
    if d.current == i.current then Fits
    else (if nat_lt i.current d.current
    then (if nat_le d.old_imp i.current then Fits else TooOld)
    else (if nat_le i.old_def d.current then Fits else TooNew))
