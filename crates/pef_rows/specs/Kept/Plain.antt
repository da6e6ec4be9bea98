-- Names that need no escape in a string of JSON.
use Rattle.std.specs.Prelude.{ℕ, ◌&&◌, Bool, true, List, [], ◌∷◌}
use Rattle.pef_rows.specs.Strings.{is_plain}

-- no byte needs an escape
abbrev pub are_plain : List ℕ → Bool
are_plain [] = true
are_plain (b ∷ bytes) = is_plain b && are_plain bytes
