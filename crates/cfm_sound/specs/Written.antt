-- What `link` wrote is sound.
use Rattle.std.specs.Prelude.{◌≡◌, ◌≤◌, Ok}
use Rattle.pef_inspect.specs.Errors.{errors_within}
use Rattle.pef_inspect.specs.Limits.{most_program_bytes, most_steps}
use Rattle.pef_inspect.specs.Sound.{IsSound, OnlyImages}
use Rattle.pef_inspect.specs.declared.limits.Limits.{Limits}
use Rattle.pef_script.specs.Script.{DescribedScript}
use Rattle.pef_views.specs.Container.{Contained, container_of}
use Rattle.pef_write.specs.Linked.{IsLinked, LinkedContainer}

-- a container that is linked from a script is sound. Within the limits for one container, or greater ones, no error is found in
-- it, and no program is left unverified. Packed data of its own sections may be: sixteen packed images can have more bytes than the
-- limit
pub record LinkedAreSound : Type 0 where
  pub sound : (script : DescribedScript) (l : LinkedContainer) → IsLinked script l → IsSound l.bytes
  pub none : (script : DescribedScript) (l : LinkedContainer) (limits : Limits) → IsLinked script l → most_program_bytes ≤ limits.program_bytes → most_steps ≤ limits.steps
      → (c : Contained) × (container_of l.bytes ≡ Ok c) × OnlyImages c (errors_within limits l.bytes)
