-- What is left of limits after a container was verified (this project's own).
use Rattle.std.specs.Prelude.{ℕ, nat_lt, if◌then◌else◌, List, Result, Ok, Err}
use Rattle.pef_views.specs.Container.{Contained}
use Rattle.pef_views.specs.Partial as views
use Rattle.pef_views.specs.declared.fault.ViewFault.{ViewFault}
use Rattle.pef_loader.specs.Loader.{Loaded}
use Rattle.pef_loader.specs.Partial as loader
use Rattle.pef_loader.specs.declared.fault.LoaderFault.{LoaderFault}
use Rattle.pef_inspect.specs.Errors.{headers_of, image_cost, program_cost, programs_reached, run_cost}
use Rattle.pef_inspect.specs.Limits.{left_within}
use Rattle.pef_inspect.specs.Oddities.{runs_reached}
use Rattle.pef_inspect.specs.Twice.{words_cost, words_reached}
use Rattle.pef_inspect.specs.declared.limits.Limits.{Limits}

-- each limit less what the parts that were within it cost. If a program has more words than are left, none is left
abbrev pub left_words : Limits → Contained → Loaded → ℕ
left_words limits c l =
    if nat_lt (words_reached limits c l) (runs_reached limits c l) then 0
    else left_within (words_cost c l) limits.words 0 (runs_reached limits c l)

abbrev pub left_packed : Limits → Contained → ℕ
left_packed limits c = left_within (image_cost c) limits.packed_bytes 0 c.header.instantiated_section_count

abbrev pub left_in_loader : Limits → Contained → Loaded → Limits
left_in_loader limits c l = record {
  program_bytes = left_within (program_cost l) limits.program_bytes 0 (headers_of l);
  steps = left_within (run_cost c l) limits.steps 0 (programs_reached limits l);
  packed_bytes = left_packed limits c;
  words = left_words limits c l;
}

abbrev pub left_in_tables : Limits → Contained → Result Loaded LoaderFault → Limits
left_in_tables limits c (Ok l) = left_in_loader limits c l
left_in_tables limits c (Err f) = record limits { packed_bytes = left_packed limits c }

abbrev pub left_opened : Limits → Result Contained ViewFault → Limits
left_opened limits (Ok c) = left_in_tables limits c (loader.partial_of (views.sections_allowed c) c.loader)
left_opened limits (Err f) = limits

-- what is left of some limits after some bytes were verified as a container
unfoldable pub left_after : Limits → List ℕ → Limits
left_after limits bytes = left_opened limits (views.partial_of bytes)
