-- The results of the port over a disk, by what the disk did.
use Rattle.std.specs.Prelude.{◌≡◌, ◌⊎◌, ⊤, ℕ, ◌+◌, ◌-◌, ◌^◌, ◌&&◌, not, Bool, List, length, min, nat_lt, Option, None, Some, Result, Ok, Err, if◌then◌else◌}
use Rattle.std.specs.Str.{IsUtf8}
use Rattle.std.specs.IoError.{error_kind}
use Rattle.std.specs.declared.io.Error.{Error}
use Rattle.std.specs.declared.io.ErrorKind.{ErrorKind}
use Rattle.std.specs.declared.io.ErrorKind.TheVariants as kind
use Rattle.pef_ports.specs.declared.ports.FileFault.{FileFault}
use Rattle.pef_ports.specs.declared.ports.FileFault.TheVariants.{Failed, OutOfMemory}
use Rattle.pef_ports.specs.declared.ports.FileReason.{FileReason}
use Rattle.pef_ports.specs.declared.ports.FileReason.TheVariants.{Missing, Folder, Forbidden, Full, NotUtf8, TooLong, Other}

-- what a disk did, by the kind of its error
abbrev pub seen : {A B : Type 0} → (A → B) → Result A Error → Result B ErrorKind
seen f (Ok value) = Ok (f value)
seen f (Err error) = Err (error_kind error)

-- the fault of an error: a failed allocation, or a failure
abbrev pub fault_of : ErrorKind → FileFault
fault_of kind.OutOfMemory = OutOfMemory
fault_of _ = Failed

-- why the system refused
abbrev pub reason_of : ErrorKind → FileReason
reason_of kind.NotFound = Missing
reason_of kind.NotADirectory = Missing
reason_of kind.IsADirectory = Folder
reason_of kind.PermissionDenied = Forbidden
reason_of kind.ReadOnlyFilesystem = Forbidden
reason_of kind.StorageFull = Full
reason_of kind.QuotaExceeded = Full
reason_of kind.FileTooLarge = TooLong
reason_of _ = Other

-- the reason of what a disk did, if it failed
abbrev pub IsReason : {A : Type 0} → Result A ErrorKind → FileReason → Type 0
IsReason (Ok value) reason = ⊤
IsReason (Err kind) reason = reason ≡ reason_of kind

-- the port's result
abbrev pub answer_of : {A : Type 0} → Result A ErrorKind → Result A FileFault
answer_of (Ok value) = Ok value
answer_of (Err kind) = Err (fault_of kind)

-- the disk was called with exactly this path, the result is what it did, and the reason is its own; or the path isn't
-- UTF-8, so no file can be named by it
abbrev pub IsAnswered : {A : Type 0} → (Result A ErrorKind → Type 0) → List ℕ → Result A FileFault → FileReason → Type 0
IsAnswered {A} Did path answer reason =
    (IsUtf8 path × ((did : Result A ErrorKind) × Did did × (answer ≡ answer_of did) × IsReason did reason))
    ⊎ (¬ (IsUtf8 path) × (answer ≡ Err Failed) × (reason ≡ NotUtf8))

-- the most bytes that are read of a device or a pipe
abbrev pub most_of_device : ℕ
most_of_device = 536870912

-- the memory that is taken before a file of some size is read
abbrev pub room_for : Bool → ℕ → ℕ
room_for is_file size = if is_file then min (size + 1) (2 ^ 64 - 1) else 0

-- how many bytes are read at most; none if all are
abbrev pub most_read : Bool → Option ℕ
most_read is_file = if is_file then None else Some (most_of_device + 1)

-- what was read, unless it is of a device and too long
abbrev pub accepted : Bool → List ℕ → Result (List ℕ) ErrorKind
accepted is_file bytes = if not is_file && nat_lt most_of_device (length bytes) then Err kind.FileTooLarge else Ok bytes
