-- Versions as they are checked.
use Rattle.pef_script.specs.declared.parts.Versions.{Versions}
use Rattle.cfm_closure.specs.declared.versions.Implementation.{Implementation}

-- the versions of a found library whose container has these
abbrev pub implementation : Versions → Implementation
implementation v = record { current = v.current; old_def = v.old_def }
