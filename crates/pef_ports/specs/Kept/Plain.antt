-- Names that are printed unchanged.
use Rattle.std.specs.Prelude.{ℕ, ◌&&◌, Bool, true, List, [], ◌∷◌}
use Rattle.pef_ports.specs.Names.{is_plain_byte}

-- all bytes are printed unchanged
abbrev pub are_plain : List ℕ → Bool
are_plain [] = true
are_plain (b ∷ bytes) = is_plain_byte b && are_plain bytes
