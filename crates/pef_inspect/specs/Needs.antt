-- How many bytes a container needs.
use Rattle.std.specs.Prelude.{ℕ, ◌+◌, ◌==◌, List, Option, None, Some, Result, Ok, Err, max, min, take, if◌then◌else◌}
use Rattle.pef_views.specs.Container.{Contained}
use Rattle.pef_views.specs.Extents.{greatest}
use Rattle.pef_views.specs.Header.{names_from}
use Rattle.pef_views.specs.Partial.{header_in}
use Rattle.pef_views.specs.declared.fault.ViewFault.{ViewFault}
use Rattle.pef_views.specs.declared.section.SectionHeader.{SectionHeader}

-- where the raw bytes of a section end; 0 if there are none
abbrev pub section_end : Option SectionHeader → ℕ
section_end None = 0
section_end (Some s) = if s.packed_size == 0 then 0 else s.container_offset + s.packed_size

-- how many bytes the headers and the raw bytes of the first sections need
abbrev pub needed_by : Contained → ℕ
needed_by c = max (names_from c.header) (greatest (λ i. section_end (header_in c i)) 0 c.header.section_count)

-- without a header, the 40 bytes of one
abbrev pub needed_of : Result Contained ViewFault → ℕ
needed_of (Ok c) = needed_by c
needed_of (Err fault) = 40

-- the first bytes that a container needs and has, at most 65,536: in them is searched for what shows that it was changed as text is
abbrev pub own_bytes : Contained → List ℕ
own_bytes c = take (min (needed_by c) 65536) c.bytes
