-- The lines for the contents of a section, each after its first word (docs/SCRIPTS.md, "Lines"). They may
-- come in any order of sections and offsets.
use Rattle.std.specs.Prelude.{ℕ, true, false, ◌+◌, ◌*◌, ◌&&◌, Bool, List, [], ◌∷◌, ◌++◌, Result, Ok, length, codes, nat_lt, slice_set, if◌then◌else◌}
use Rattle.std.specs.List.{fold, list_any}
use Rattle.std.specs.Option.{ok_or}
use Rattle.pef_words.specs.Refusals.{first_met, unless}
use Rattle.pef_words.specs.Results.{◌>>=◌}
use Rattle.pef_reloc.specs.declared.fixup.Base.{Base}
use Rattle.pef_reloc.specs.declared.fixup.Base.TheVariants as base
use Rattle.pef_reloc.specs.declared.fixup.Fixup.{Fixup}
use Rattle.pef_reloc.specs.Limits.{most_fixups}
use Rattle.pef_script.specs.declared.text.fault.LineFault.{LineFault}
use Rattle.pef_script.specs.declared.text.fault.LineFault.TheVariants.{UnknownName, Overlap, OutsideSection, TooMany}
use Rattle.pef_script.specs.Limits.{greatest_number}
use Rattle.pef_script.specs.Script.{DescribedSection, import_names}
use Rattle.pef_script.specs.Text.SoFar.{ScriptSoFar, content_group, entered, number_of_name, section_named, section_so_far, word_of}
use Rattle.pef_script.specs.Text.Words.{image_of, last_name, last_name_and_word, next_name, next_name_and_word, next_word, number_up_to}

-- section k is changed by a line
abbrev pub with_contents : ScriptSoFar → ℕ → DescribedSection → ScriptSoFar
with_contents s k section = record s {
  reached = content_group;
  script = record s.script { sections = slice_set s.script.sections k section };
}

-- `bytes SECTION HEX`: more bytes of a section's image; it is the digits that pass the section's end

abbrev pub bytes_tests : ScriptSoFar → ℕ → ℕ → List (Bool × LineFault)
bytes_tests s k count = (nat_lt (section_so_far s k).header.total (length (section_so_far s k).image + count), OutsideSection 2) ∷ []

abbrev pub with_image : DescribedSection → List ℕ → DescribedSection
with_image section bytes = record section { image = section.image ++ bytes }

-- the number of a section, and the bytes that a line has for it, if they are allowed
unfoldable pub bytes_in : ScriptSoFar → List ℕ → Result (ℕ × List ℕ) LineFault
bytes_in s line = do
  words ← last_name_and_word 1 line
  bytes ← image_of 2 words.1
  group ← entered s content_group
  k ← section_named s 1 words.0
  unless (first_met (bytes_tests s k (length bytes))) (Ok (k, bytes))

abbrev pub bytes_line : ScriptSoFar → List ℕ → Result ScriptSoFar LineFault
bytes_line s line = bytes_in s line >>= λ b. Ok (with_contents s b.0 (with_image (section_so_far s b.0) b.1))

-- a fixup's word overlaps one of this many words from an offset
abbrev pub meets : ℕ → ℕ → Fixup → Bool
meets offset count fixup = nat_lt offset (fixup.offset + 4) && nat_lt fixup.offset (offset + 4 * count)

-- the word of one of some fixups overlaps one of this many words from an offset
abbrev pub overlaps : List Fixup → ℕ → ℕ → Bool
overlaps fixups offset count = list_any (meets offset count) fixups

-- the tests of this many fixups, one after the other, from an offset in section k. The section has too many of them, or
-- the offset is at fault
abbrev pub fixup_tests : ScriptSoFar → ℕ → ℕ → ℕ → List (Bool × LineFault)
fixup_tests s k offset count = (nat_lt most_fixups (length (section_so_far s k).fixups + count), TooMany 1)
    ∷ (nat_lt (section_so_far s k).header.total (offset + 4 * count), OutsideSection 2)
    ∷ (overlaps (section_so_far s k).fixups offset count, Overlap 2)
    ∷ []

-- fixups in address order, with a new one before the first that has a greater offset
abbrev pub placed : List Fixup → Fixup → List Fixup
placed [] new = new ∷ []
placed (fixup ∷ fixups) new = if nat_lt new.offset fixup.offset then new ∷ fixup ∷ fixups else fixup ∷ placed fixups new

-- a section with new fixups, each in its place
abbrev pub with_fixups : DescribedSection → List Fixup → DescribedSection
with_fixups section fixups = record section { fixups = fold placed section.fixups fixups }

abbrev pub fixup_of : ℕ → Base → Fixup
fixup_of offset base = record { offset = offset; base = base }

-- `fix SECTION OFFSET section NAME` or `fix SECTION OFFSET import NAME`: a word to which the address of a
-- section or of an import is added

-- whether the name of a base is that of a section; otherwise it is that of an import
abbrev pub base_words : List (List ℕ × Bool)
base_words = (codes "section", true) ∷ (codes "import", false) ∷ []

abbrev pub is_section_word : ℕ → List ℕ → Result Bool LineFault
is_section_word = word_of base_words

-- the number of the import with a name
abbrev pub import_named : ScriptSoFar → ℕ → List ℕ → Result ℕ LineFault
import_named s at name = ok_or (number_of_name (import_names s.script) name) (UnknownName at)

-- the base with a name
abbrev pub base_named : ScriptSoFar → Bool → ℕ → List ℕ → Result Base LineFault
base_named s true at name = section_named s at name >>= λ k. Ok (base.Section k)
base_named s false at name = import_named s at name >>= λ j. Ok (base.Import j)

-- the section and the fixup that a line `fix` has, if it is allowed
unfoldable pub fixup_in : ScriptSoFar → List ℕ → Result (ℕ × Fixup) LineFault
fixup_in s line = do
  place ← next_name_and_word 1 line
  kind ← next_word 3 place.2
  target ← last_name 4 kind.1
  group ← entered s content_group
  is_section ← is_section_word 3 kind.0
  offset ← number_up_to greatest_number 2 place.1
  k ← section_named s 1 place.0
  target ← base_named s is_section 4 target
  unless (first_met (fixup_tests s k offset 1)) (Ok (k, fixup_of offset target))

abbrev pub fix_line : ScriptSoFar → List ℕ → Result ScriptSoFar LineFault
fix_line s line = fixup_in s line >>= λ f. Ok (with_contents s f.0 (with_fixups (section_so_far s f.0) (f.1 ∷ [])))

-- `tvector SECTION OFFSET CODE DATA`: a transition vector, to whose words the addresses of a code section
-- and of a data section are added

-- the number of a section, and the fixups of its transition vector, if they are allowed
unfoldable pub vector_in : ScriptSoFar → List ℕ → Result (ℕ × List Fixup) LineFault
vector_in s line = do
  place ← next_name_and_word 1 line
  code ← next_name 3 place.2
  data_name ← last_name 4 code.1
  group ← entered s content_group
  offset ← number_up_to greatest_number 2 place.1
  k ← section_named s 1 place.0
  code ← section_named s 3 code.0
  data_section ← section_named s 4 data_name
  unless (first_met (fixup_tests s k offset 2)) (Ok (k, fixup_of offset (base.Section code) ∷ fixup_of (offset + 4) (base.Section data_section) ∷ []))

abbrev pub tvector_line : ScriptSoFar → List ℕ → Result ScriptSoFar LineFault
tvector_line s line = vector_in s line >>= λ v. Ok (with_contents s v.0 (with_fixups (section_so_far s v.0) v.1))
