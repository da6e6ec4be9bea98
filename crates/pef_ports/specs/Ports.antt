-- What an input, an output and files may return, and what a result says about their bytes if they report them.
use Rattle.std.specs.Prelude.{◌≡◌, ◌≢◌, ℕ, ◌+◌, ◌-◌, ◌<◌, ◌≤◌, ◌^◌, ⊤, Bool, true, false, List, [], ◌++◌, Option, None, Some, Result, Ok, Err, length, min, take}
use Rattle.pef_ports.specs.declared.ports.FileFault.{FileFault}
use Rattle.pef_ports.specs.declared.ports.FileFault.TheVariants.{Failed, OutOfMemory}
use Rattle.pef_ports.specs.declared.ports.FileReason.{FileReason}

-- the state of an input or an output: its bytes, if it reports them, how many of its calls failed, up to the greatest
-- number of 64 bits, and whether its last call failed
pub record Stream : Type 0 where
  pub bytes : Option (List ℕ)
  pub failures : ℕ
  pub failed : Bool

-- one failure more, up to the greatest number of 64 bits
abbrev pub one_more : ℕ → ℕ
one_more n = min (n + 1) (2 ^ 64 - 1)

-- from the first state to the second no call failed
abbrev pub NoneFailed : Stream → Stream → Type 0
NoneFailed before after = after.failures ≡ before.failures

-- from the first state to the second the last call failed, and no other
pub record LastFailed (before after : Stream) : Type 0 where
  pub one : after.failures ≡ one_more before.failures
  pub last : after.failed ≡ true

-- the output grew by these bytes, if it is reported
abbrev pub Grows : Option (List ℕ) → Option (List ℕ) → List ℕ → Type 0
Grows None now bytes = ⊤
Grows (Some before) now bytes = now ≡ Some (before ++ bytes)

-- one write: a part of the bytes is written, not none unless there are none; or it fails, and nothing is written
abbrev pub WritesSome : {E : Type 0} → Result ℕ E → Stream → Stream → List ℕ → Type 0
WritesSome (Ok n) before after bytes =
    (n ≤ length bytes) × (0 < length bytes → 0 < n) × Grows before.bytes after.bytes (take n bytes) × NoneFailed before after × (after.failed ≡ false)
WritesSome (Err fault) before after bytes = Grows before.bytes after.bytes [] × LastFailed before after

-- the rest of the input began with these bytes, if it is reported
abbrev pub Begins : Option (List ℕ) → Option (List ℕ) → List ℕ → Type 0
Begins None now bytes = ⊤
Begins (Some before) now bytes = (rest : List ℕ) × (before ≡ bytes ++ rest) × (now ≡ Some rest)

-- if it is reported, the rest of the input is empty
abbrev pub AtEnd : Option (List ℕ) → Type 0
AtEnd None = ⊤
AtEnd (Some coming) = coming ≡ []

-- one read: the next bytes are at the front of the buffer, not none before the end; or it fails
abbrev pub ReadsSome : {E : Type 0} → Result ℕ E → Stream → Stream → List ℕ → Type 0
ReadsSome (Ok n) before after buffer =
    (n ≤ length buffer) × Begins before.bytes after.bytes (take n buffer) × (n ≡ 0 → 0 < length buffer → AtEnd before.bytes) × NoneFailed before after × (after.failed ≡ false)
ReadsSome (Err fault) before after buffer = LastFailed before after

-- the bytes at each path that has some
abbrev pub Paths : Type 0
Paths = List ℕ → Option (List ℕ)

-- the state of files: the bytes at each path, if they report them; and how many of their calls failed, up to the
-- greatest number of 64 bits
pub record FilesState : Type 0 where
  pub contents : Option Paths
  pub failures : ℕ

-- if files report their bytes, these are at the path
abbrev pub IsAt : Option Paths → List ℕ → List ℕ → Type 0
IsAt None path bytes = ⊤
IsAt (Some files) path bytes = files path ≡ Some bytes

-- if files report their bytes, those at all other paths are unchanged
abbrev pub OthersStay : Option Paths → Option Paths → List ℕ → Type 0
OthersStay None told' path = ⊤
OthersStay (Some files) told' path = (files' : Paths) × (told' ≡ Some files') × ((other : List ℕ) → other ≢ path → files' other ≡ files other)

-- a call that fails is counted, but not one in which an allocation fails
abbrev pub counted : FileFault → ℕ → ℕ
counted Failed failures = one_more failures
counted OutOfMemory failures = failures

-- one file is read: its bytes. No file is changed
abbrev pub ReadsFile : Result (List ℕ) FileFault → FilesState → FilesState → List ℕ → Type 0
ReadsFile (Ok bytes) before after path = IsAt before.contents path bytes × (after.contents ≡ before.contents) × (after.failures ≡ before.failures)
ReadsFile (Err fault) before after path = (after.contents ≡ before.contents) × (after.failures ≡ counted fault before.failures)

-- one file is written: it has exactly these bytes; or, if it fails, any or none. No other file is changed
abbrev pub WritesFile : {A : Type 0} → Result A FileFault → FilesState → FilesState → List ℕ → List ℕ → Type 0
WritesFile (Ok done) before after path bytes = IsAt after.contents path bytes × OthersStay before.contents after.contents path × (after.failures ≡ before.failures)
WritesFile (Err fault) before after path bytes = OthersStay before.contents after.contents path × (after.failures ≡ counted fault before.failures)

-- what is reported of files that a command gets: their state, why their last call that failed did, and which call leads
-- from which files to which, with which result
pub record FilesPort (F : Type 0) : Type 1 where
  pub state : F → FilesState
  pub reason : F → FileReason
  pub was_read : F → List ℕ → Result (List ℕ) FileFault → F → Type 0
  pub was_written : F → List ℕ → List ℕ → Result (Unit {0}) FileFault → F → Type 0

-- one call of `read` by a path led from these files to those, with this result
pub record Reads {F : Type 0} (port : FilesPort F) (before after : F) (path : List ℕ) (answer : Result (List ℕ) FileFault) : Type 0 where
  pub call : port.was_read before path answer after
  pub told : ReadsFile answer (port.state before) (port.state after) path

-- one call of `write` by a path with these bytes led from these files to those, with this result
pub record Writes {F : Type 0} (port : FilesPort F) (before after : F) (path bytes : List ℕ) (answer : Result (Unit {0}) FileFault) : Type 0 where
  pub call : port.was_written before path bytes answer after
  pub told : WritesFile answer (port.state before) (port.state after) path bytes
