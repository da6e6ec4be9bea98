-- Limits of the commands.
use Rattle.std.specs.Prelude.{ℕ}

-- the most bytes of an input that are read
abbrev pub input_limit : ℕ
input_limit = 536870912

-- the exclusive upper limit of the addresses of a fragment's memory
abbrev pub memory_limit : ℕ
memory_limit = 0x10000000

-- the maximum number of files of `load`
abbrev pub most_files : ℕ
most_files = 256
