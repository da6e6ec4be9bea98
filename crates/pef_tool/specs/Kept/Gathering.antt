-- The files of `prepare` and `stubs`, without their places in memory.
use Rattle.std.specs.Prelude.{option_map}
use Rattle.pef_gather.specs.Gathered.{Given}
use Rattle.pef_tool.specs.Gathering.{WantedIs, given_as}
use Rattle.pef_tool.specs.declared.gathering.ReadFile.{ReadFile}
use Rattle.pef_tool.specs.declared.gathering.WantedFile.{WantedFile}

abbrev pub wanted_seen : WantedFile → WantedIs
wanted_seen w = record { name = option_map (λ name. name.now) w.name; path = w.path.now; is_library = w.is_library }

abbrev pub read_seen : ReadFile → Given
read_seen read = given_as (wanted_seen read.wanted) read.bytes.items (option_map (λ bytes. bytes.items) read.resources)
