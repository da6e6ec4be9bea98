-- The additions that a program makes, in order: the trace of the instructions that it executes (Mac OS Runtime
-- Architectures, "PEF Structure", the relocation instruction set). No section and no import has to exist, and no word
-- has to be inside the section.
use Rattle.std.specs.Prelude.{ℕ, List}
use Rattle.pef_reloc.specs.declared.addition.Addition.{Addition}
use Rattle.pef_reloc.specs.declared.addition.Source.{Source}
use Rattle.pef_reloc.specs.declared.addition.Source.TheVariants as source
use Rattle.pef_reloc.specs.declared.fixup.Base.{Base}
use Rattle.pef_reloc.specs.declared.fixup.Base.TheVariants as base
use Rattle.pef_reloc.specs.declared.fixup.Fixup.{Fixup}
use Rattle.pef_reloc.specs.Steps.{added, start, trace}
use Rattle.pef_reloc.specs.Unrolled.{instrs_in, instrs_of, unrolled}

-- the additions that the program of some bytes makes
unfoldable pub fixups_of : List ℕ → List Fixup
fixups_of bytes = trace (instrs_in (unrolled (instrs_of bytes))) start

-- what an addition adds
abbrev pub source_seen : Source → Base
source_seen (source.Section k) = base.Section k
source_seen (source.Import j) = base.Import j

-- an addition as a fixup
abbrev pub addition_seen : Addition → Fixup
addition_seen a = added a.offset (source_seen a.source)
