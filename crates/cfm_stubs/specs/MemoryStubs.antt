-- Stubs whose symbols are memory (docs/RULES.md, "Stubs"): code that an emulator catches, vectors that lead to it, and zeros.
use Rattle.std.specs.Prelude.{◌≡◌, ⊤, ◌+◌, ◌*◌, ◌^◌, ◌==◌, ◌||◌, ℕ, pos, Bool, not, List, [], ◌∷◌, ◌++◌, Option, None, length, nat_le, nat_lt, if◌then◌else◌}
use Rattle.std.specs.Int.{next_multiple_of}
use Rattle.std.specs.List.{list_any, sum_by}
use Rattle.std.specs.Option.{option_or}
use Rattle.byteorder.specs.Endian.{big_bytes}
use Rattle.pef_format.specs.Exports.{Export}
use Rattle.pef_format.specs.declared.section.SectionKind.TheVariants as kind
use Rattle.pef_format.specs.declared.section.Share.TheVariants as share
use Rattle.pef_lines.specs.Words.{is_word}
use Rattle.pef_loader.specs.Loader.{Loaded}
use Rattle.pef_reloc.specs.declared.fixup.Base.TheVariants.{Section}
use Rattle.pef_reloc.specs.declared.fixup.Fixup.{Fixup}
use Rattle.pef_script.specs.Script.{DescribedScript, DescribedSection}
use Rattle.pef_script.specs.declared.parts.Versions.{Versions}
use Rattle.pef_words.specs.Refusals.{first_met}
use Rattle.pef_write.specs.Linked.{IsLinkedContainer, LinkedContainer}
use Rattle.cfm_stubs.specs.declared.fault.StubFault.{StubFault}
use Rattle.cfm_stubs.specs.declared.fault.StubFault.TheVariants as fault
use Rattle.cfm_stubs.specs.NumberStubs.{MadeStub}
use Rattle.cfm_stubs.specs.Symbols.{Symbol, library_symbols}
use Rattle.cfm_stubs.specs.Versions.{library_versions}

-- the class of a transition vector, and those of code: code, vectors and glue

abbrev pub is_vector : Symbol → Bool
is_vector s = s.class == 2

abbrev pub is_routine : Symbol → Bool
is_routine s = s.class == 0 || s.class == 2 || s.class == 4

-- how many symbols have code, are vectors, and have zeros

abbrev pub routines : List Symbol → ℕ
routines [] = 0
routines (s ∷ symbols) = if is_routine s then routines symbols + 1 else routines symbols

abbrev pub vectors : List Symbol → ℕ
vectors [] = 0
vectors (s ∷ symbols) = if is_vector s then vectors symbols + 1 else vectors symbols

abbrev pub others : List Symbol → ℕ
others [] = 0
others (s ∷ symbols) = if is_routine s then others symbols else others symbols + 1

-- the code of a routine: the word, and a `blr`
abbrev pub routine_code : ℕ → List ℕ
routine_code word = big_bytes 4 word ++ big_bytes 4 0x4E800020

-- the code of symbols, in their order
abbrev pub code_image : ℕ → List Symbol → List ℕ
code_image word [] = []
code_image word (s ∷ symbols) = if is_routine s then routine_code word ++ code_image word symbols else code_image word symbols

-- the vectors of symbols, in their order, if the code of the first routine is at an offset. The word of a vector has the offset of
-- its code before it is relocated
abbrev pub vector_image : ℕ → List Symbol → List ℕ
vector_image code [] = []
vector_image code (s ∷ symbols) =
    if is_vector s then big_bytes 4 code ++ (big_bytes 4 0 ++ vector_image (code + 8) symbols)
    else if is_routine s then vector_image (code + 8) symbols
    else vector_image code symbols

-- the fixups of n vectors from an offset on: the words of code and of data
abbrev pub vector_fixups : ℕ → List Symbol → List Fixup
vector_fixups at [] = []
vector_fixups at (s ∷ symbols) =
    if is_vector s then (record { offset = at; base = Section 0 }) ∷ (record { offset = at + 4; base = Section 1 }) ∷ vector_fixups (at + 8) symbols
    else vector_fixups at symbols

-- a class that a script has: of a class without a name, that of data
abbrev pub script_class : ℕ → ℕ
script_class class = if nat_le class 4 then class else 1

abbrev pub export_in : Symbol → ℕ → ℕ → Export
export_in s section offset = record { fields = record { class = script_class s.class; section = pos section; value = offset }; name = s.name }

-- the exports of symbols, in their order, if the first routine, the first vector and the first zeros are at these offsets
abbrev pub memory_exports : ℕ → ℕ → ℕ → ℕ → List Symbol → List Export
memory_exports size code vector blank [] = []
memory_exports size code vector blank (s ∷ symbols) =
    if is_vector s then export_in s 1 vector ∷ memory_exports size (code + 8) (vector + 8) blank symbols
    else if is_routine s then export_in s 0 code ∷ memory_exports size (code + 8) vector blank symbols
    else export_in s 1 blank ∷ memory_exports size code vector (blank + size) symbols

-- where the zeros begin: after the vectors, at a multiple of 16
abbrev pub zeros_from : List Symbol → ℕ
zeros_from symbols = next_multiple_of (8 * vectors symbols) 16

abbrev pub data_total : ℕ → List Symbol → ℕ
data_total size symbols = zeros_from symbols + size * others symbols

abbrev pub code_section : ℕ → List Symbol → DescribedSection
code_section word symbols = record {
  header = record { name = 99 ∷ []; kind = kind.Code; share = share.Global; align = 4; total = 8 * routines symbols };
  image = code_image word symbols;
  fixups = [];
}

abbrev pub data_section : ℕ → List Symbol → DescribedSection
data_section size symbols = record {
  header = record { name = 100 ∷ []; kind = kind.UnpackedData; share = share.Process; align = 4; total = data_total size symbols };
  image = vector_image 0 symbols;
  fixups = vector_fixups 0 symbols;
}

-- the script of a stub
unfoldable pub memory_script : Versions → ℕ → ℕ → List Symbol → DescribedScript
memory_script v word size symbols = record {
  versions = v;
  libraries = [];
  imports = [];
  sections = code_section word symbols ∷ data_section size symbols ∷ [];
  exports = memory_exports size 0 0 (zeros_from symbols) symbols;
  main = None;
  init = None;
  term = None;
}

-- a stub that is linked from it
pub record IsMemoryStub (loaders : List Loaded) (word size : ℕ) (library : List ℕ) (made : MadeStub) : Type 0 where
  pub name : made.name ≡ library
  pub exports : made.exports ≡ memory_exports size 0 0 (zeros_from (library_symbols loaders library)) (library_symbols loaders library)
  pub container : LinkedContainer
  pub linked : IsLinkedContainer (memory_script (library_versions loaders library) word size (library_symbols loaders library)) container
  pub bytes : made.bytes ≡ container.bytes

-- a name that no script can have: one that is no word, or that is too long
abbrev pub is_unspellable : Symbol → Bool
is_unspellable s = not (is_word s.name) || nat_lt 255 (length s.name)

-- the tests of symbols that no such stub can have, in order
unfoldable pub memory_tests : ℕ → List Symbol → List (Bool × StubFault)
memory_tests size symbols = (nat_le (2 ^ 14) (length symbols), fault.TooManySymbols)
    ∷ (list_any is_unspellable symbols, fault.UnspellableName)
    ∷ (nat_lt (2 ^ 23) (sum_by (λ s. length s.name + 1) symbols), fault.TooManyNameBytes)
    ∷ (nat_lt (2 ^ 24) (data_total size symbols), fault.TooManyBytes)
    ∷ []

-- why there is none
abbrev pub memory_refusal : List Loaded → ℕ → List ℕ → Option StubFault
memory_refusal loaders size library = first_met (memory_tests size (library_symbols loaders library))

-- the stubs of some libraries, in their order
abbrev pub AreMemoryStubs : List Loaded → ℕ → ℕ → List (List ℕ) → List MadeStub → Type 0
AreMemoryStubs loaders word size [] [] = ⊤
AreMemoryStubs loaders word size [] (s ∷ made) = ⊥
AreMemoryStubs loaders word size (library ∷ libraries) [] = ⊥
AreMemoryStubs loaders word size (library ∷ libraries) (s ∷ made) = IsMemoryStub loaders word size library s × AreMemoryStubs loaders word size libraries made

-- the first reason why there are none
abbrev pub memory_refusals : List Loaded → ℕ → List (List ℕ) → Option StubFault
memory_refusals loaders size [] = None
memory_refusals loaders size (library ∷ libraries) = option_or (memory_refusal loaders size library) (memory_refusals loaders size libraries)
