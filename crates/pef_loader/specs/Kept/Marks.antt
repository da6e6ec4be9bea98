-- Marks of where zero-ended names end.
use Rattle.std.specs.Prelude.{◌≡◌, ◌≢◌, ℕ, ◌+◌, ◌-◌, ◌*◌, ◌/◌, ◌^◌, ◌<◌, ◌≤◌, List, Option, Some, None, length, slice_index}

-- no byte from a place on and before another one is zero
abbrev pub AreNonzero : List ℕ → ℕ → ℕ → Type 0
AreNonzero bytes from to = (k : ℕ) → from ≤ k → k < to → k < length bytes → slice_index bytes k ≢ 0

-- the first zero byte from a place on
pub record IsFirstZero (bytes : List ℕ) (from end : ℕ) : Type 0 where
  pub ahead : from ≤ end
  pub within : end < length bytes
  pub zero : slice_index bytes end ≡ 0
  pub before : AreNonzero bytes from end

-- the first zero byte from a place on and before another one, or that there is none
abbrev pub FindsZero : List ℕ → ℕ → ℕ → Option ℕ → Type 0
FindsZero bytes from to (Some end) = IsFirstZero bytes from end × (end < to)
FindsZero bytes from to None = AreNonzero bytes from to

-- each known mark is the first zero byte from its place on. The places are a step apart
abbrev pub AreMarks : List ℕ → ℕ → List ℕ → Type 0
AreMarks bytes step marks = (k : ℕ) → k < length marks → slice_index marks k ≢ 2 ^ 32 - 1 → IsFirstZero bytes (k * step) (slice_index marks k)

-- each place is marked from which on there is a zero byte below an end: a mark has 32 bits, and the last one says that nothing is known
abbrev pub AreAllMarked : List ℕ → ℕ → ℕ → List ℕ → Type 0
AreAllMarked bytes step end marks = (k at : ℕ) → k < length marks → at < end → at < 2 ^ 32 - 1 → IsFirstZero bytes (k * step) at → slice_index marks k ≡ at

-- place k is marked with a zero byte that was found, if there is such a place and the mark has room for it
abbrev pub IsMarked : List ℕ → ℕ → Option ℕ → Type 0
IsMarked marks k None = Unit {0}
IsMarked marks k (Some at) = k < length marks → at < 2 ^ 32 - 1 → slice_index marks k ≡ at

-- the first zero byte from a place on, or that there is none before the next place that is marked
abbrev pub TellsEnd : List ℕ → ℕ → ℕ → Option ℕ → Type 0
TellsEnd bytes step from (Some end) = IsFirstZero bytes from end
TellsEnd bytes step from None = AreNonzero bytes from ((from / step + 1) * step)
