-- Which bytes are hex digits.
use Rattle.std.specs.Prelude.{ℕ, Bool}
use Rattle.std.specs.Option.{is_some}
use Rattle.pef_lines.specs.Numbers.{hex_value}

abbrev pub is_hex : ℕ → Bool
is_hex b = is_some (hex_value b)
