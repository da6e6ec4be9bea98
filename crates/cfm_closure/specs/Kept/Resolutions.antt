-- What imports were resolved to.
use Rattle.std.specs.Prelude.{List, map, Option, None, Some, option_map}
use Rattle.cfm_closure.specs.declared.targets.Resolution.{Resolution}
use Rattle.cfm_closure.specs.declared.targets.ResolutionKind.{ResolutionKind}
use Rattle.cfm_closure.specs.declared.targets.ResolutionKind.TheVariants as kind
use Rattle.cfm_closure.specs.declared.targets.Target.{Target}
use Rattle.cfm_closure.specs.declared.targets.Target.TheVariants.{Absolute, At}

-- the target, or none
abbrev pub meant_by : ResolutionKind → Resolution → Option Target
meant_by kind.Missing resolution = None
meant_by kind.Absolute resolution = Some (Absolute resolution.value)
meant_by kind.InSection resolution = Some (At resolution.fragment resolution.section resolution.value)

abbrev pub meant : Resolution → Option Target
meant resolution = meant_by resolution.kind resolution

-- the targets of some imports, as far as they are known
abbrev pub all_meant : List (Option Resolution) → List (Option (Option Target))
all_meant known = map (option_map meant) known
