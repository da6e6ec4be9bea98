-- The places of errors, as C has them.
use Rattle.std.specs.Prelude.{◌-◌, ◌^◌, ℕ, Option, None, Some}
use Rattle.std.specs.Option.{unwrap_or}
use Rattle.pef_format.specs.Places.{part_code}
use Rattle.pef_format.specs.declared.place.Place.{Place}
use Rattle.pef_records.specs.declared.structs.PefPlace.{PefPlace}

-- the offset of what has none
abbrev pub no_offset : ℕ
no_offset = 2 ^ 64 - 1

-- a place, or none
abbrev pub place_or_nowhere : Option Place → PefPlace
place_or_nowhere (Some p) = record { part = part_code p.part; row = p.row; field = p.field; offset = unwrap_or p.offset no_offset }
place_or_nowhere None = record { part = 0; row = 0; field = 0; offset = no_offset }
