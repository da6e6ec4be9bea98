-- The containers in some bytes: where the tags of a container header are (kPEFTag1 and kPEFTag2 of PEFBinaryFormat.h,
-- `Joy!peff`), and its 40 bytes follow.
use Rattle.std.specs.Prelude.{ℕ, ◌+◌, ◌&&◌, Bool, List, [], ◌∷◌, nat_le, length, take, if◌then◌else◌}
use Rattle.std.specs.Str.{bytes_eq}

-- `Joy!peff`
abbrev pub tags : List ℕ
tags = 0x4A ∷ 0x6F ∷ 0x79 ∷ 0x21 ∷ 0x70 ∷ 0x65 ∷ 0x66 ∷ 0x66 ∷ []

-- a container header begins the bytes
unfoldable pub begins_container : List ℕ → Bool
begins_container bytes = nat_le 40 (length bytes) && bytes_eq (take 8 bytes) tags

-- every place where one begins, in order. The first byte is at an offset
abbrev pub containers_in : List ℕ → ℕ → List ℕ
containers_in [] offset = []
containers_in (b ∷ bytes) offset =
    if begins_container (b ∷ bytes) then offset ∷ containers_in bytes (offset + 1) else containers_in bytes (offset + 1)
