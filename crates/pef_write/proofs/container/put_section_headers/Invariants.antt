-- The part written and the part left make the whole.
use Rattle.std.proofs.Common.{◌≡◌, ◌+◌, ◌++◌, drop, length}
use Rattle.pef_write.specs.Containers.{data_from, laid_out, raw_data, spelled_headers}
use Rattle.pef_write.proofs.container.put_section_headers.Given as goal

abbrev pub invariant-loop-section : goal.invariant-loop-section
invariant-loop-section l = record {
  place : l.at + length (raw_data (drop l.section-index l.sections) l.loader)
      ≡ data_from (length l.sections) + length (raw_data l.sections l.loader);
  headers : l.out.items ++ spelled_headers (laid_out l.at (drop l.section-index l.sections) l.loader)
      ≡ l.fn.out.items ++ spelled_headers (laid_out (data_from (length l.sections)) l.sections l.loader);
}
