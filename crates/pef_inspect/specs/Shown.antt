-- Which relocation programs are printed instruction by instruction. Programs can share bytes, so that without a limit a small
-- container could ask for any length of output. Programs that share none have together no more bytes than their loader section.
use Rattle.std.specs.Prelude.{ℕ, List, length, min}
use Rattle.std.specs.Option.{option_map_or}
use Rattle.std.specs.Result.{result_ok}
use Rattle.pef_views.specs.Container.{Contained}
use Rattle.pef_views.specs.Partial as views
use Rattle.pef_loader.specs.Loader.{Loaded}
use Rattle.pef_loader.specs.Partial as loader
use Rattle.pef_inspect.specs.Errors.{headers_of, program_cost}
use Rattle.pef_inspect.specs.Limits.{most_program_bytes, within}

-- how many bytes the programs that are printed may have together
abbrev pub most_shown : Loaded → ℕ
most_shown l = min (length l.bytes) most_program_bytes

-- how many programs are printed
abbrev pub shown_in_loader : Loaded → ℕ
shown_in_loader l = within (program_cost l) (most_shown l) 0 (headers_of l)

abbrev pub shown_in_container : Contained → ℕ
shown_in_container c = option_map_or shown_in_loader (result_ok (loader.partial_of (views.sections_allowed c) c.loader)) 0

-- how many programs of some bytes as a container are printed
unfoldable pub programs_shown : List ℕ → ℕ
programs_shown bytes = option_map_or shown_in_container (result_ok (views.partial_of bytes)) 0
