-- How `show` ends with the script of its input.
use Rattle.pef_faults.specs.declared.fault.Fault.{Fault}
use Rattle.pef_faults.specs.declared.fault.Fault.TheVariants.{Prepare, OutOfMemory}
use Rattle.cfm_prepare.specs.declared.fault.PrepareFault.TheVariants as prepare_fault
use Rattle.cfm_prepare.specs.declared.fragment_fault.FragmentFault.TheVariants as fragment_fault
use Rattle.pef_script.specs.Script.{DescribedScript}
use Rattle.pef_tool.specs.Show.{IsShown, LacksClosure, LacksPlaces, ShowOutcome, refuses, shows}

-- why a script isn't shown: it has no closure, there is no room for it, or an allocation failed
abbrev pub ScriptRefuses : DescribedScript → Fault → Type 0
ScriptRefuses script (Prepare (prepare_fault.Bind fault)) = LacksClosure script fault
ScriptRefuses script (Prepare (prepare_fault.Fragment fragment_fault.OutOfMemory)) = Unit {0}
ScriptRefuses script (Prepare prepare_fault.OutOfMemory) = Unit {0}
ScriptRefuses script (Prepare fault) = LacksPlaces script fault
ScriptRefuses script OutOfMemory = Unit {0}
ScriptRefuses script _ = ⊥

-- how `show` ends with a script
abbrev pub ScriptEnds : DescribedScript → ShowOutcome → Type 0
ScriptEnds script (shows s number) = IsShown script s number
ScriptEnds script (refuses fault) = ScriptRefuses script fault
