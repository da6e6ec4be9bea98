-- The planner's error, its number and its name. They are this project's own.
use Rattle.std.specs.Prelude.{ℕ, List, codes}
use Rattle.pef_plan.specs.declared.fault.PlanFault.{PlanFault}
use Rattle.pef_plan.specs.declared.fault.PlanFault.TheVariants.{OutOfMemory}

-- the error's number
abbrev pub fault_number : PlanFault → ℕ
fault_number OutOfMemory = 99

-- the error's name, which is also its text
abbrev pub fault_name : PlanFault → List ℕ
fault_name OutOfMemory = codes "OutOfMemory"
