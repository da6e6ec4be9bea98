-- The relocated words of a prepared fragment as objects of JSON.
use Rattle.std.specs.Prelude.{ℕ, zero, suc, ◌+◌, ◌==◌, Bool, true, false, List, [], ◌∷◌, ◌++◌, Option, None, Some, codes, decimal}
use Rattle.cfm_prepare.specs.Contexts.{ContextState}
use Rattle.cfm_rows.specs.Imports.{loader_in}
use Rattle.pef_loader.specs.Loader.{Loaded, reloc_of}
use Rattle.pef_reloc.specs.Traces.{fixups_of}
use Rattle.pef_reloc.specs.Unrolled.{program_fault}
use Rattle.pef_reloc.specs.declared.fault.RelocFault.{RelocFault}
use Rattle.pef_reloc.specs.declared.fixup.Base.{Base}
use Rattle.pef_reloc.specs.declared.fixup.Base.TheVariants.{Section, Import}
use Rattle.pef_reloc.specs.declared.fixup.Fixup.{Fixup}
use Rattle.pef_rows.specs.Objects.{separator}

-- what is added to a word: the address of a section or of an import, which has a number
unfoldable pub added_members : Base → List ℕ
added_members (Section k) = codes ",\"kind\":\"section\",\"number\":" ++ decimal k
added_members (Import j) = codes ",\"kind\":\"import\",\"number\":" ++ decimal j

-- a word to which is added, by its offset in the section
unfoldable pub word_object : Fixup → List ℕ
word_object f = codes "{\"offset\":" ++ decimal f.offset ++ added_members f.base ++ codes "}"

-- words in the order in which they are added to, with commas between them
abbrev pub word_elements : Bool → List Fixup → List ℕ
word_elements is_first [] = []
word_elements is_first (f ∷ fs) = (separator is_first ++ word_object f) ++ word_elements false fs

-- the words of a program; none if it can't be read
abbrev pub words_unless : Option RelocFault → List ℕ → List ℕ
words_unless None bytes = word_elements true (fixups_of bytes)
words_unless (Some fault) bytes = []

unfoldable pub program_words : List ℕ → List ℕ
program_words bytes = words_unless (program_fault bytes) bytes

-- a relocation header: the section that is relocated, and its words
unfoldable pub relocation_object : ℕ → List ℕ → List ℕ
relocation_object section bytes = (codes "{\"section\":" ++ decimal section ++ codes ",\"words\":[") ++ (program_words bytes ++ codes "]}")

-- one that was read, after a comma if it isn't the first
abbrev pub relocation_row : Bool → Option (ℕ × List ℕ) → List ℕ
relocation_row is_first None = []
relocation_row is_first (Some r) = separator is_first ++ relocation_object r.0 r.1

-- the next n relocation headers from header k on
abbrev pub relocation_elements : Loaded → ℕ → ℕ → List ℕ
relocation_elements l k zero = []
relocation_elements l k (suc n) = relocation_row (k == 0) (reloc_of l k) ++ relocation_elements l (k + 1) n

abbrev pub loader_relocations : Option Loaded → List ℕ
loader_relocations None = []
loader_relocations (Some l) = relocation_elements l 0 l.header.reloc_count

-- those of a fragment of a connection
abbrev pub relocations_list : ContextState → ℕ → ℕ → List ℕ
relocations_list s number p = loader_relocations (loader_in s number p)
