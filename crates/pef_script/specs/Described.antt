-- The memory that a script describes (docs/SCRIPTS.md, `bytes`, `fix` and `tvector`). The definition
-- uses only the script, no container and no program.
use Rattle.std.specs.Prelude.{ℕ, ◌+◌, ◌<◌, ◌≤◌, ◌⊎◌, List, [], slice_get}
use Rattle.std.specs.List.{AllByRecursion}
use Rattle.std.specs.Option.{option_map_or}
use Rattle.pef_words.specs.Bytes.{filled}
use Rattle.pef_reloc.specs.declared.fixup.Base.{Base}
use Rattle.pef_reloc.specs.declared.fixup.Fixup.{Fixup}
use Rattle.pef_reloc.specs.Additions.{with_bases}
use Rattle.pef_script.specs.Script.{DescribedScript, DescribedSection}

-- the memory of a section, under the addresses of bases: its image, zeros up to its length, and the
-- address of its base in each fixup's word
abbrev pub described_memory : (Base → ℕ) → DescribedSection → List ℕ
described_memory address s = with_bases address 0 s.fixups (filled s.image s.header.total)

-- the memory of section k of a script, under the addresses of bases
abbrev pub described_at : (Base → ℕ) → DescribedScript → ℕ → List ℕ
described_at address script k = option_map_or (described_memory address) (slice_get script.sections k) []

-- a place that is in no fixup's word
abbrev pub IsOutside : ℕ → List Fixup → Type 0
IsOutside x fixups = AllByRecursion (λ (fixup : Fixup). (x < fixup.offset) ⊎ (fixup.offset + 4 ≤ x)) fixups
