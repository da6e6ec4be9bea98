-- Where the runs of an image begin, and the bytes that its parts have in it.
use Rattle.std.specs.Prelude.{◌≡◌, ℕ, ◌+◌, ◌==◌, List, [], ◌∷◌, if◌then◌else◌, length, take, drop}
use Rattle.pef_pidata.specs.Packing.{Part, block, bytes_before, parts_of, zeros}

-- how many zeros some bytes begin with
abbrev pub zeros_first : List ℕ → ℕ
zeros_first [] = 0
zeros_first (b ∷ rest) = if b == 0 then zeros_first rest + 1 else 0

-- bytes that are copied before some parts, one by one
abbrev pub copied_before : List ℕ → List Part → List Part
copied_before [] parts = parts
copied_before (b ∷ rest) parts = bytes_before (b ∷ []) (copied_before rest parts)

-- no run begins before a place
abbrev pub IsCopiedTo : List ℕ → ℕ → Type 0
IsCopiedTo image at = parts_of image ≡ copied_before (take at image) (parts_of (drop at image))

-- how many bytes of the image a part has
abbrev pub part_len : Part → ℕ
part_len (zeros count) = count
part_len (block bytes) = length bytes
