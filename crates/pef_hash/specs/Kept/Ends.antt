-- The end of a name.
use Rattle.std.specs.Prelude.{ℕ, List, ◌-◌, drop, length, nat_le, if◌then◌else◌}
use Rattle.byteorder.specs.Endian.{big_number}

-- the last eight bytes as a number, or 0 if there are fewer
unfoldable pub end_of : List ℕ → ℕ
end_of name = if nat_le 8 (length name) then big_number 8 (drop (length name - 8) name) else 0
