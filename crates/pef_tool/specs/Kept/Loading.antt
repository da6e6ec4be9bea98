-- Why not all files of `load` were read.
use Rattle.std.specs.Prelude.{◌≡◌, ℕ, List}
use Rattle.pef_ports.specs.Ports.{FilesPort}
use Rattle.pef_ports.specs.declared.ports.FileFault.TheVariants as file_fault
use Rattle.pef_tool.specs.Load.{LoadLacksMemory, StopsAt}
use Rattle.pef_faults.specs.declared.fault.Fault.{Fault}
use Rattle.pef_faults.specs.declared.fault.Fault.TheVariants.{Unreadable, OutOfMemory}

abbrev pub StopsReading : {F : Type 0} → FilesPort F → F → F → List (List ℕ × List ℕ) → Fault → Type 0
StopsReading port before after named (Unreadable path reason) = StopsAt port before after named path.now file_fault.Failed × (reason ≡ port.reason after)
StopsReading port before after named OutOfMemory = LoadLacksMemory port before after named
StopsReading port before after named _ = ⊥
