-- Why a file wasn't read.
use Rattle.std.specs.Prelude.{◌≡◌, ℕ, List, Err}
use Rattle.pef_ports.specs.Ports.{FilesPort, Reads}
use Rattle.pef_ports.specs.declared.ports.FileFault.TheVariants as file_fault
use Rattle.pef_faults.specs.declared.fault.Fault.{Fault}
use Rattle.pef_faults.specs.declared.fault.Fault.TheVariants.{Unreadable, OutOfMemory}

-- the file at this path wasn't read, for this reason
abbrev pub StopsFile : {F : Type 0} → FilesPort F → F → F → List ℕ → Fault → Type 0
StopsFile port before after path (Unreadable told reason) = (told.now ≡ path) × Reads port before after path (Err file_fault.Failed) × (reason ≡ port.reason after)
StopsFile port before after path OutOfMemory = Reads port before after path (Err file_fault.OutOfMemory)
StopsFile port before after path _ = ⊥
