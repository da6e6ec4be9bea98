-- The limits of export tables. The code has them as constants. Here they are plain numbers, so that one
-- checks the other.
use Rattle.std.specs.Prelude.{ℕ, ◌^◌}

-- a table that can be read has at most two to this power of slots (this project's own)
abbrev pub most_power : ℕ
most_power = 30

-- a table that is written has at most two to this power of slots (this project's own)
abbrev pub most_written_power : ℕ
most_written_power = 16

-- a table that is written has fewer than this many exports for each slot, rounded down, unless it has the
-- most slots (this project's own)
abbrev pub exports_a_slot : ℕ
exports_a_slot = 10

-- fewer names than this are written: a slot word's high 14 bits count the keys of its slot (Mac OS Runtime
-- Architectures, "PEF Structure", "Export Hash Table")
abbrev pub names_limit : ℕ
names_limit = 2 ^ 14

-- and its low 18 bits are the index of the first of them, which is below this
abbrev pub index_limit : ℕ
index_limit = 2 ^ 18
