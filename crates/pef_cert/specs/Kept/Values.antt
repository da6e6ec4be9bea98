-- How values are computed.
use Rattle.std.specs.Prelude.{ℕ, ◌+◌, ◌%◌, ◌==◌, min, ◌&&◌, nat_le, if◌then◌else◌}

-- the lesser of a value and the value of an offer, this many bytes before a fixup
abbrev pub offered : ℕ → ℕ → ℕ → ℕ
offered ahead value offer =
    if nat_le 4 ahead && nat_le ahead 1020 && ahead % 4 == 0 then min value offer
    else if nat_le 1 ahead && nat_le ahead 5116 then min value (1 + offer)
    else value
