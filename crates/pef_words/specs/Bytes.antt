-- Numbers and names at a place in a byte string (Mac OS Runtime Architectures, "PEF Structure"): every
-- number of a container is big-endian, and the names in its section name table and in its loader string
-- table end with a zero byte.
use Rattle.std.specs.Prelude.{ℕ, ℤ, ◌+◌, ◌==◌, List, [], ◌∷◌, Option, None, Some, option_map, length, take, drop, replicate, nat_le, if◌then◌else◌, ◌-◌, ◌++◌}
use Rattle.std.specs.Int.{Width, cast_signed}
use Rattle.byteorder.specs.Endian.{big_number}

-- the number in the n bytes from a place, the highest byte first; none if it would pass the end (the
-- unsigned fields of PEFBinaryFormat.h: UInt8, UInt16, UInt32)
unfoldable pub number_at : ℕ → List ℕ → ℕ → Option ℕ
number_at n bytes at = if nat_le (at + n) (length bytes) then Some (big_number n (drop at bytes)) else None

-- the number in the bytes from a place as two's complement (its signed fields: SInt16, SInt32)
abbrev pub signed_at : Width → ℕ → List ℕ → ℕ → Option ℤ
signed_at w n bytes at = option_map (cast_signed w) (number_at n bytes at)

-- the len bytes from a place; none if they would pass the end (a table, or a section's contents)
unfoldable pub part_of : List ℕ → ℕ → ℕ → Option (List ℕ)
part_of bytes from len = if nat_le (from + len) (length bytes) then Some (take len (drop from bytes)) else None

-- the bytes before the first zero byte; none if there is no zero byte
abbrev pub before_zero : List ℕ → Option (List ℕ)
before_zero [] = None
before_zero (b ∷ bytes) = if b == 0 then Some [] else option_map (λ name. b ∷ name) (before_zero bytes)

-- the zero-ended name at a place, without its zero byte (a name of the section name table, or of the
-- loader string table)
unfoldable pub name_at : List ℕ → ℕ → Option (List ℕ)
name_at bytes from = before_zero (drop from bytes)

-- an image and the zeros that follow it, up to a length (Mac OS Runtime Architectures, "PEF Structure":
-- the part of a section's total length after its initialized bytes is filled with zeros)
abbrev pub filled : List ℕ → ℕ → List ℕ
filled image total = image ++ replicate (total - length image) 0
