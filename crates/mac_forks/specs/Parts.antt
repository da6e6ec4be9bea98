-- Parts of a file: the forks, the name and the comment (MacBinary II and III; RFC 1740).
use Rattle.std.specs.Prelude.{ℕ, ◌==◌, List, Option, drop, option_map, take, if◌then◌else◌}
use Rattle.pef_words.specs.Bytes.{part_of}

-- a part: where it begins in the file, and its bytes
pub record Lying : Type 0 where
  pub offset : ℕ
  pub bytes : List ℕ

-- the len bytes from an offset; none if they pass the end. That no bytes are anywhere is this project's own rule
unfoldable pub part_in : List ℕ → ℕ → ℕ → Option Lying
part_in bytes offset len =
    option_map (λ part. record { offset = offset; bytes = part }) (part_of bytes (if len == 0 then 0 else offset) len)

-- the len bytes from an offset, as far as they are there
unfoldable pub part_within : List ℕ → ℕ → ℕ → Lying
part_within bytes offset len = record { offset = offset; bytes = take len (drop offset bytes) }
