-- What is read of a whole input (docs/ERRORS.md, 73 and 74).
use Rattle.std.specs.Prelude.{◌≡◌, ℕ, ◌<◌, ◌≤◌, ⊤, List, Option, None, Some, Result, Ok, Err, length}
use Rattle.std.specs.declared.vec.Vec.{Vec}
use Rattle.std.specs.declared.alloc.Global.{Global}
use Rattle.pef_ports.specs.declared.input.InputFault.{InputFault}
use Rattle.pef_ports.specs.declared.input.InputFault.TheVariants.{Unreadable, TooLong, OutOfMemory}
use Rattle.pef_ports.specs.Ports.{Stream, Begins, LastFailed, NoneFailed}

-- if an input reports its bytes, these are all of them
abbrev pub IsWhole : Option (List ℕ) → List ℕ → Type 0
IsWhole None bytes = ⊤
IsWhole (Some coming) bytes = coming ≡ bytes

-- if an input reports its bytes, there are more than a limit
abbrev pub IsLonger : Option (List ℕ) → ℕ → Type 0
IsLonger None limit = ⊤
IsLonger (Some coming) limit = limit < length coming

-- no more bytes than a limit were read of an input
abbrev pub WasReadWithin : Stream → Stream → ℕ → Type 0
WasReadWithin before after limit = (bytes : List ℕ) × Begins before.bytes after.bytes bytes × (length bytes ≤ limit)

-- a whole input was read, or a read failed and was the last, or the input is too long, or an allocation failed before
-- that was found
abbrev pub ReadsInput : Result (Vec ℕ Global) InputFault → Stream → Stream → ℕ → Type 0
ReadsInput (Ok bytes) before after limit = IsWhole before.bytes bytes.items × Begins before.bytes after.bytes bytes.items × (length bytes.items ≤ limit) × NoneFailed before after
ReadsInput (Err Unreadable) before after limit = LastFailed before after
ReadsInput (Err TooLong) before after limit = IsLonger before.bytes limit × NoneFailed before after
ReadsInput (Err OutOfMemory) before after limit = WasReadWithin before after limit × NoneFailed before after
