-- The programs added, and those left.
use Rattle.std.proofs.Common.{◌≡◌, ◌++◌, ◌-◌}
use Rattle.std.specs.Option.{option_to_list}
use Rattle.pef_words.specs.Findings.{all_among}
use Rattle.pef_loader.specs.Header.{relocs_from}
use Rattle.pef_loader.specs.Partial.{rows_in}
use Rattle.pef_loader.specs.PartialViews.{partly_loaded}
use Rattle.pef_inspect.specs.LoaderParts.{program_part}
use Rattle.pef_inspect.proofs.loader_parts.add_programs.Given as goal

abbrev pub invariant-loop-k : goal.invariant-loop-k
invariant-loop-k g l =
    l.extents.items ++ all_among (λ k. option_to_list (program_part (partly_loaded l.loader) k)) l.k (rows_in (partly_loaded l.loader) (relocs_from (partly_loaded l.loader).header) 12 (partly_loaded l.loader).header.reloc_count - l.k)
    ≡ l.fn.extents.items ++ all_among (λ k. option_to_list (program_part (partly_loaded l.loader) k)) 0 (rows_in (partly_loaded l.loader) (relocs_from (partly_loaded l.loader).header) 12 (partly_loaded l.loader).header.reloc_count)
