-- Names of which only the first bytes are looked at, since many rows can share one long name.
use Rattle.std.specs.Prelude.{ℕ, Bool, true, false, List, length, take, nat_lt, if◌then◌else◌}

-- a name, or its first bytes, and whether they are all of it
pub record CutName : Type 0 where
  pub bytes : List ℕ
  pub whole : Bool

-- a name that has at most so many bytes, else so many of its first bytes
unfoldable pub cut_name : ℕ → List ℕ → CutName
cut_name most name =
    if nat_lt most (length name) then record { bytes = take most name; whole = false } else record { bytes = name; whole = true }
