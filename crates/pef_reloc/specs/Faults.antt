-- The numbers, the names and the places of the refusals, which are this project's own.
use Rattle.std.specs.Prelude.{ℕ, ◌/◌, List, Option, None, Some, codes}
use Rattle.std.specs.Option.{option_map}
use Rattle.pef_reloc.specs.declared.fault.RelocFault.{RelocFault}
use Rattle.pef_reloc.specs.declared.fault.RelocFault.TheVariants.{BadOpcode, CutInstruction, RepeatTooFar, RepeatCuts, NestedRepeat, TooManySteps, WordOutside, ImportOutside, SectionOutside, OutOfMemory}

-- the numbers of the refusals
abbrev pub fault_number : RelocFault → ℕ
fault_number (BadOpcode at) = 31
fault_number (CutInstruction at) = 32
fault_number (RepeatTooFar at) = 33
fault_number (RepeatCuts at) = 34
fault_number (NestedRepeat at) = 35
fault_number (TooManySteps at) = 36
fault_number (WordOutside at word) = 37
fault_number (ImportOutside at word) = 38
fault_number (SectionOutside at word) = 39
fault_number OutOfMemory = 99

-- the names of the refusals, which are their texts
abbrev pub fault_name : RelocFault → List ℕ
fault_name (BadOpcode at) = codes "BadOpcode"
fault_name (CutInstruction at) = codes "CutInstruction"
fault_name (RepeatTooFar at) = codes "RepeatTooFar"
fault_name (RepeatCuts at) = codes "RepeatCuts"
fault_name (NestedRepeat at) = codes "NestedRepeat"
fault_name (TooManySteps at) = codes "TooManySteps"
fault_name (WordOutside at word) = codes "WordOutside"
fault_name (ImportOutside at word) = codes "ImportOutside"
fault_name (SectionOutside at word) = codes "SectionOutside"
fault_name OutOfMemory = codes "OutOfMemory"

-- the offset in the program's bytes of the instruction that is refused
abbrev pub fault_offset : RelocFault → Option ℕ
fault_offset (BadOpcode at) = Some at
fault_offset (CutInstruction at) = Some at
fault_offset (RepeatTooFar at) = Some at
fault_offset (RepeatCuts at) = Some at
fault_offset (NestedRepeat at) = Some at
fault_offset (TooManySteps at) = Some at
fault_offset (WordOutside at word) = Some at
fault_offset (ImportOutside at word) = Some at
fault_offset (SectionOutside at word) = Some at
fault_offset OutOfMemory = None

-- the number of the first halfword of the instruction that is refused
abbrev pub fault_halfword : RelocFault → Option ℕ
fault_halfword fault = option_map (λ at. at / 2) (fault_offset fault)

-- the offset in the section of the word that the instruction asks to add to
abbrev pub fault_word : RelocFault → Option ℕ
fault_word (WordOutside at word) = Some word
fault_word (ImportOutside at word) = Some word
fault_word (SectionOutside at word) = Some word
fault_word _ = None
