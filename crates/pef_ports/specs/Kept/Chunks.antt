-- The result of one read of an input, if no more than some bytes may come.
use Rattle.std.specs.Prelude.{◌≡◌, ℕ, ◌<◌, ◌≤◌, List, Result, Ok, Err, length, take}
use Rattle.pef_ports.specs.declared.input.InputFault.{InputFault}
use Rattle.pef_ports.specs.declared.input.InputFault.TheVariants.{Unreadable, TooLong, OutOfMemory}
use Rattle.pef_ports.specs.Ports.{Stream, AtEnd, Begins, LastFailed, NoneFailed}

-- more bytes came than were allowed
pub record CameTooMany (before after : Stream) (chunk : List ℕ) (room : ℕ) : Type 0 where
  pub count : ℕ
  pub inside : count ≤ length chunk
  pub more : room < count
  pub begins : Begins before.bytes after.bytes (take count chunk)
  pub sound : NoneFailed before after

-- this many bytes came, and none only at the end
pub record Came (before after : Stream) (chunk : List ℕ) (room count : ℕ) : Type 0 where
  pub inside : count ≤ length chunk
  pub fits : count ≤ room
  pub begins : Begins before.bytes after.bytes (take count chunk)
  pub none : count ≡ 0 → 0 < length chunk → AtEnd before.bytes
  pub sound : NoneFailed before after

abbrev pub ReadsChunk : Result ℕ InputFault → Stream → Stream → List ℕ → ℕ → Type 0
ReadsChunk (Ok count) before after chunk room = Came before after chunk room count
ReadsChunk (Err Unreadable) before after chunk room = LastFailed before after
ReadsChunk (Err TooLong) before after chunk room = CameTooMany before after chunk room
ReadsChunk (Err OutOfMemory) before after chunk room = ⊥
