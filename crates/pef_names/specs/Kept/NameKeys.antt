-- What is hashed of a name.
use Rattle.std.specs.Prelude.{ℕ, List, [], ◌∷◌, ◌++◌, length, take, nat_le, if◌then◌else◌}
use Rattle.std.specs.Hash as fed

-- a name of at most this many bytes is hashed whole, which no name of an export passes
abbrev pub most_hashed : ℕ
most_hashed = 65535

-- all bytes of a name, or the length and the first bytes of a longer one
abbrev pub hashed : List ℕ → List (List ℕ)
hashed bytes = if nat_le (length bytes) most_hashed then bytes ∷ [] else fed.usize (length bytes) ++ take 4096 bytes ∷ []
