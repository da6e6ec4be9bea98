-- Files that a command writes, one after the other.
use Rattle.std.specs.Prelude.{◌≡◌, ◌⊎◌, ◌++◌, ℕ, List, [], ◌∷◌, Ok, Err}
use Rattle.std.specs.Borrow.{Bor}
use Rattle.pef_faults.specs.declared.fault.Fault.{Fault}
use Rattle.pef_faults.specs.declared.fault.Fault.TheVariants.{OutOfMemory, Unwritable}
use Rattle.pef_ports.specs.Ports.{FilesPort, Writes}
use Rattle.pef_ports.specs.declared.ports.FileFault.TheVariants as file_fault

-- a file: its path, and what it gets
pub record FileIs : Type 0 where
  pub path : List ℕ
  pub bytes : List ℕ

-- files were written
abbrev pub WereWritten : {F : Type 0} → FilesPort F → F → F → List FileIs → Type 0
WereWritten {F} port before after [] = after ≡ before
WereWritten {F} port before after (x ∷ xs) = (between : F) × Writes port before between x.path x.bytes (Ok tt) × WereWritten port between after xs

-- a file isn't written: the call failed, or an allocation did
abbrev pub Unwritten : {F : Type 0} → FilesPort F → F → F → FileIs → Fault → Type 0
Unwritten port before after x fault =
    ((told : Bor (List ℕ)) × (told.now ≡ x.path) × Writes port before after x.path x.bytes (Err file_fault.Failed) × (fault ≡ Unwritable told (port.reason after)))
    ⊎ (Writes port before after x.path x.bytes (Err file_fault.OutOfMemory) × (fault ≡ OutOfMemory))

-- the first files were written, and the next one isn't
pub record StopsWriting {F : Type 0} (port : FilesPort F) (before after : F) (files : List FileIs) (fault : Fault) : Type 0 where
  pub done : List FileIs
  pub next : FileIs
  pub left : List FileIs
  pub are : files ≡ done ++ next ∷ left
  pub between : F
  pub written : WereWritten port before between done
  pub stops : Unwritten port between after next fault
